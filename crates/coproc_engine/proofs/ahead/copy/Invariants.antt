use Rattle.std.proofs.Common.{◌≡◌, ◌++◌, take, drop}
use Rattle.coproc_config.specs.State.{IsStateOf}
use Rattle.coproc_engine.proofs.ahead.copy.Given as goal

abbrev pub invariant-loop-unit : goal.invariant-loop-unit
invariant-loop-unit l = record {
  copied : l.state ≡ take l.unit l.from ++ drop l.unit l.fn.state;
  fits : IsStateOf l.set l.state;
}
