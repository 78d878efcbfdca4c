use Rattle.std.proofs.Common.{◌≡◌, drop}
use Rattle.std.specs.List.{list_any}
use Rattle.cycle_spec.specs.Flight as flight
use Rattle.flight_table.proofs.search.is_any_stopping.Given as goal

abbrev pub invariant-loop-index : goal.invariant-loop-index
invariant-loop-index l =
    list_any flight.is_stopping l.ring.items ≡ list_any flight.is_stopping (drop l.index l.ring.items)
