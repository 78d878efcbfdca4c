use Rattle.std.proofs.Common.{◌≡◌, ◌-◌, ◌+◌, length}
use Rattle.std.specs.Prelude.{find, not, unwrap_or}
use Rattle.std.specs.List.{list_any, range_with_len}
use Rattle.cycle_spec.specs.Flight as flight
use Rattle.flight_table.proofs.search.free_id.Given as goal

abbrev pub invariant-loop-id : goal.invariant-loop-id
invariant-loop-id l =
    flight.free_id l.ring.items
    ≡ unwrap_or (find (λ id. not (list_any (flight.holds_id id) l.ring.items)) (range_with_len l.id (length l.ring.items + 1 - l.id))) 0
