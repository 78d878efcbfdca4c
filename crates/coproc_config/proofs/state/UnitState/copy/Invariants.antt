use Rattle.std.proofs.Common.{◌≡◌, take}
use Rattle.coproc_config.proofs.state.UnitState.copy.Given as goal

abbrev pub invariant-loop-accumulators : goal.invariant-loop-accumulators
invariant-loop-accumulators l = l.units.items ≡ take l.accumulators-index l.accumulators-items
