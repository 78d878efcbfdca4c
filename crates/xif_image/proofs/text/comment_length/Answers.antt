use Rattle.std.proofs.Common.{codes, arith, sym, ◌∙◌}
use Rattle.xif_image.specs.Text.{begins}
use Rattle.xif_image.proofs.Tokens.{length_before_more}
use Rattle.xif_image.proofs.text.comment_length.Goals as goal

pub loop-at-preserved : goal.loop-at-preserved
loop-at-preserved c =
    omega (arith, c.loop-at.invariant, length_before_more (begins (codes "*/")) c.args.bytes.now c.loop-at.at c.loop-at-test.true (sym c.starts_with.ensures.value ∙ c.if-starts_with.false))
