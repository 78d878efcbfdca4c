use Rattle.std.proofs.Common.{◌≡◌, option_copied, drop, filter}
use Rattle.std.specs.List.{last_or}
use Rattle.cycle_spec.specs.declared.entry.Entry.{Entry}
use Rattle.cycle_spec.specs.Flight as flight
use Rattle.flight_table.proofs.search.youngest_released.Given as goal

abbrev pub invariant-loop-index : goal.invariant-loop-index
invariant-loop-index l =
    flight.youngest_released l.ring.items
    ≡ last_or (option_copied l.youngest) (filter (λ (e : Entry). e.released) (drop l.index l.ring.items))
