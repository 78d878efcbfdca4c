use Rattle.std.proofs.Common.{◌≡◌, ◌++◌, take, drop, All, length}
use Rattle.coproc_config.specs.State.{IsStateOf}
use Rattle.coproc_engine.specs.Fits.{ahead_in_harts}
use Rattle.coproc_engine.proofs.ahead.look_ahead.Given as goal

abbrev pub invariant-loop-hart : goal.invariant-loop-hart
invariant-loop-hart l = record {
  ahead : ahead_in_harts l.set 0 l.units l.uses ≡ take l.hart l.ahead ++ ahead_in_harts l.set l.hart (drop l.hart l.units) l.uses;
  states : All (IsStateOf l.set) l.ahead;
  count : length l.ahead ≡ length l.units;
}
