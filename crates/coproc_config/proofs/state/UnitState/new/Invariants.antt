use Rattle.std.proofs.Common.{◌≡◌, take}
use Rattle.coproc_config.specs.State.{zeros}
use Rattle.coproc_config.proofs.state.UnitState.new.Given as goal

abbrev pub invariant-loop-i : goal.invariant-loop-i
invariant-loop-i l = l.units.items ≡ zeros (take l.i l.set)
