use Rattle.std.proofs.Common.{◌≡◌, ℕ, ◌++◌, take, drop}
use Rattle.coproc_config.specs.State.{IsStateOf}
use Rattle.cycle_spec.specs.Engine as spec
use Rattle.coproc_engine.specs.Fits.{HaveEntries, AreNarrow}
use Rattle.coproc_engine.proofs.settle.settle_hart.Given as goal

abbrev pub invariant-loop-i : goal.invariant-loop-i
invariant-loop-i l = record {
  uses : spec.ready_uses l.set l.cycle l.hart l.fn.state l.fn.uses ≡ take l.i l.uses ++ spec.ready_uses l.set l.cycle l.hart l.state (drop l.i l.uses);
  state : spec.units_behind l.set spec.is_complete l.hart l.fn.state l.fn.uses ≡ spec.units_behind l.set spec.is_complete l.hart l.state (drop l.i l.uses);
  fits : IsStateOf l.set l.state;
  entries : HaveEntries l.set l.uses;
  narrow : (flags bits : ℕ) → AreNarrow flags bits l.fn.uses → AreNarrow flags bits l.uses;
}
