use Rattle.std.proofs.Common.{◌≡◌, replicate, All}
use Rattle.coproc_config.specs.State.{zeros, IsStateOf}
use Rattle.coproc_engine.proofs.engine.new_units.Given as goal

abbrev pub invariant-loop : goal.invariant-loop
invariant-loop l = record {
  zeros : l.units.items ≡ replicate l.counter (zeros l.set);
  states : All (IsStateOf l.set) l.units.items;
}
