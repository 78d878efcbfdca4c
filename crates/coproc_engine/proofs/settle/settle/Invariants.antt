use Rattle.std.proofs.Common.{◌≡◌, ℕ, ◌++◌, take, drop, All, length}
use Rattle.coproc_config.specs.State.{IsStateOf}
use Rattle.cycle_spec.specs.Engine as spec
use Rattle.coproc_engine.specs.Fits.{HaveEntries, AreNarrow}
use Rattle.coproc_engine.proofs.settle.settle.Given as goal

abbrev pub invariant-loop-hart : goal.invariant-loop-hart
invariant-loop-hart l = record {
  uses : spec.ready_in_harts l.set l.cycle 0 l.fn.units l.fn.uses ≡ spec.ready_in_harts l.set l.cycle l.hart (drop l.hart l.units) l.uses;
  units : spec.units_in_harts l.set 0 l.fn.units l.fn.uses ≡ take l.hart l.units ++ spec.units_in_harts l.set l.hart (drop l.hart l.units) l.uses;
  states : All (IsStateOf l.set) l.units;
  entries : HaveEntries l.set l.uses;
  narrow : (flags bits : ℕ) → AreNarrow flags bits l.fn.uses → AreNarrow flags bits l.uses;
  count : length l.units ≡ length l.fn.units;
}
