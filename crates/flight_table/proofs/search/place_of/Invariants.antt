use Rattle.std.proofs.Common.{◌≡◌, ◌++◌, take, drop}
use Rattle.cycle_spec.specs.Flight.{older_than}
use Rattle.flight_table.proofs.search.place_of.Given as goal

abbrev pub invariant-loop-index : goal.invariant-loop-index
invariant-loop-index l =
    older_than l.seq l.ring.items ≡ take l.index l.ring.items ++ older_than l.seq (drop l.index l.ring.items)
