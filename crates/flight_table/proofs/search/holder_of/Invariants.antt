use Rattle.std.proofs.Common.{◌≡◌, drop}
use Rattle.std.specs.Prelude.{find}
use Rattle.cycle_spec.specs.Flight.{holds_id}
use Rattle.flight_table.proofs.search.holder_of.Given as goal

abbrev pub invariant-loop-index : goal.invariant-loop-index
invariant-loop-index l = find (holds_id l.id) l.ring.items ≡ find (holds_id l.id) (drop l.index l.ring.items)
