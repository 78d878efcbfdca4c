use Rattle.std.proofs.Common.{◌≡◌, option_copied, drop, filter}
use Rattle.std.specs.List.{last_or}
use Rattle.cycle_spec.specs.Flight as flight
use Rattle.flight_table.proofs.search.certain.Given as goal

abbrev pub invariant-loop-index : goal.invariant-loop-index
invariant-loop-index l =
    flight.certain l.ring.items
    ≡ last_or (option_copied l.youngest) (filter flight.is_undecided (flight.behind_safe (drop l.index l.ring.items)))
