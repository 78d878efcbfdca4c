use Rattle.std.proofs.Common.{◌≡◌, arith}
use Rattle.std.proofs.lemmas.Grind.{common_steps}
use Rattle.std.proofs.Math.ListN.{set}
use Rattle.coproc_config.specs.State.{with_accumulator}
use Rattle.coproc_config.proofs.States.{others-with_accumulator}
use Rattle.coproc_config.proofs.state.UnitState.put.Goals as goal

pub returns-clause-others : goal.returns-clause-others
returns-clause-others c = λ u a other.
    let changed : set c.self.inside.units.items c.from.result c.put.new.self ≡ with_accumulator c.args.self.now c.args.unit c.args.acc c.args.value = grind (arith, common_steps) in
    rw changed (others-with_accumulator c.args.self.now c.args.unit c.args.acc c.args.value u a c.requires.unit_is other)
