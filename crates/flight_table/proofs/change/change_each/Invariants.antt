use Rattle.std.proofs.Common.{◌≡◌, ◌++◌, take, drop, map}
use Rattle.circular_buffer.specs.Buffer.{buffer}
use Rattle.flight_table.specs.Change.{changed}
use Rattle.flight_table.proofs.change.change_each.Given as goal

abbrev pub invariant-loop-index : goal.invariant-loop-index
invariant-loop-index l = l.ring ≡ buffer (map (changed l.change l.seq) (take l.index l.fn.ring.items) ++ drop l.index l.fn.ring.items) l.fn.ring.capacity
