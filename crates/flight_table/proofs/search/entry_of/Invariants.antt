use Rattle.std.proofs.Common.{◌≡◌, drop}
use Rattle.std.specs.Prelude.{find}
use Rattle.cycle_spec.specs.Flight.{has_seq}
use Rattle.flight_table.proofs.search.entry_of.Given as goal

abbrev pub invariant-loop-index : goal.invariant-loop-index
invariant-loop-index l = find (has_seq l.seq) l.ring.items ≡ find (has_seq l.seq) (drop l.index l.ring.items)
