use Rattle.std.proofs.Common.{◌<◌, length, ap, sym, ◌∙◌, arith}
use Rattle.coproc_config.specs.State.{accumulators_of, with_accumulator}
use Rattle.coproc_engine.proofs.Copied.{accumulator_more}
use Rattle.coproc_engine.proofs.ahead.copy_unit.Goals as goal

pub loop-acc-preserved : goal.loop-acc-preserved
loop-acc-preserved c =
    let within : c.loop-acc.acc < length (accumulators_of c.args.from.now c.args.unit) = omega (arith, c.requires.count, c.loop-acc-test.true) in
    c.put.ensures.value
    ∙ ap (λ value. with_accumulator c.loop-acc.state c.args.unit c.loop-acc.acc value) c.get.ensures
    ∙ accumulator_more c.args.from.now c.args.state.now c.loop-acc.state c.args.unit c.loop-acc.acc c.requires.old within (c.requires.old_count ∙ sym c.requires.count) c.loop-acc.invariant
