use Rattle.std.proofs.Common.{◌≡◌, ◌++◌, take, drop, slice_set}
use Rattle.coproc_config.specs.State.{accumulators_of}
use Rattle.coproc_engine.proofs.ahead.copy_unit.Given as goal

abbrev pub invariant-loop-acc : goal.invariant-loop-acc
invariant-loop-acc l = l.state ≡ slice_set l.fn.state l.unit (take l.acc (accumulators_of l.from l.unit) ++ drop l.acc (accumulators_of l.fn.state l.unit))
