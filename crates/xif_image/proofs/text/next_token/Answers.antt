use Rattle.std.proofs.Common.{arith, sym, ◌∙◌}
use Rattle.xif_image.proofs.Tokens.{blank_step, token_step}
use Rattle.xif_image.proofs.text.next_token.Goals as goal

pub returns-then-blank-eq0-clause-token : goal.returns-then-blank-eq0-clause-token
returns-then-blank-eq0-clause-token c =
    sym c.loop-start.invariant.tokens
    ∙ token_step c.args.bytes.now c.loop-start.start c.blank_length-blank.result c.token_length.result c.loop-start-test.true c.blank_length-blank.ensures.length c.if-blank-eq0.true c.token_length.ensures.length

pub loop-start-preserved : goal.loop-start-preserved
loop-start-preserved c = record {
  behind = omega (arith, c.loop-start.invariant.behind);
  within = omega (arith, c.blank_length-blank.ensures.within, c.loop-start.invariant.within);
  tokens = sym (blank_step c.args.bytes.now c.loop-start.start c.blank_length-blank.result c.loop-start-test.true c.blank_length-blank.ensures.length (omega arith))
      ∙ c.loop-start.invariant.tokens;
}
