use Rattle.std.proofs.Common.{◌≡◌, drop}
use Rattle.coproc_config.specs.State.{IsStateOf}
use Rattle.cycle_spec.specs.Engine as spec
use Rattle.coproc_engine.proofs.ahead.look_ahead_in.Given as goal

abbrev pub invariant-loop-entry : goal.invariant-loop-entry
invariant-loop-entry l = record {
  ahead : spec.units_behind l.set spec.has_operands l.hart l.state l.uses ≡ spec.units_behind l.set spec.has_operands l.hart l.ahead (drop l.entry-index l.uses);
  fits : IsStateOf l.set l.ahead;
}
