use Rattle.std.proofs.Common.{◌≡◌, ◌≤◌, take}
use Rattle.cycle_spec.specs.Flight as flight
use Rattle.flight_table.proofs.search.youngest_writer.Given as goal

abbrev pub invariant-loop-behind : goal.invariant-loop-behind
invariant-loop-behind l = record {
  within : l.behind ≤ l.count;
  same : flight.youngest_writer l.dual_write (take l.count l.ring.items) l.register
      ≡ flight.youngest_writer l.dual_write (take l.behind l.ring.items) l.register;
}

abbrev pub decreases-loop-behind : goal.decreases-loop-behind
decreases-loop-behind l = l.behind
