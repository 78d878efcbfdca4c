use Rattle.std.proofs.Common.{◌<◌, length, set, ap, ◌∙◌, arith}
use Rattle.cycle_spec.specs.Engine.{with_operands}
use Rattle.coproc_engine.proofs.Mapped.{mapped_more}
use Rattle.coproc_engine.proofs.steps.give.Goals as goal

pub loop-entry-preserved : goal.loop-entry-preserved
loop-entry-preserved c =
    let lt : c.loop-entry.entry-index < length c.args.uses.now = omega arith in
    ap (λ e. set c.loop-entry.uses c.loop-entry.entry-index e) c.give_use.ensures
    ∙ mapped_more (with_operands c.args.start c.args.lanes) c.args.uses.now c.loop-entry.uses c.loop-entry.entry-index _ lt c.loop-entry.invariant
