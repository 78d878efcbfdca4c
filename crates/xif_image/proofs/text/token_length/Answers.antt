use Rattle.std.proofs.Common.{arith, sym, ◌∙◌}
use Rattle.xif_image.specs.Text.{ends_token}
use Rattle.xif_image.proofs.Tokens.{length_before_more}
use Rattle.xif_image.proofs.text.token_length.Goals as goal

pub loop-at-preserved : goal.loop-at-preserved
loop-at-preserved c =
    omega (arith, c.loop-at.invariant, length_before_more ends_token c.args.bytes.now c.loop-at.at c.loop-at-test.true (sym c.ends_token.ensures ∙ c.if-ends_token.false))
