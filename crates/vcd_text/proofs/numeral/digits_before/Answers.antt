use Rattle.std.proofs.Common.{◌≡◌, ◌-◌, ◌%◌, ◌+◌, length, set, ◌∙◌, arith}
use Rattle.vcd_text.proofs.Pieces.{digit_before}
use Rattle.vcd_text.proofs.numeral.digits_before.Goals as goal

pub loop-rest-preserved : goal.loop-rest-preserved
loop-rest-preserved c =
    let l = c.loop-rest in
    let next = digit_before c.args.base l.rest l.start l.line _ c.requires.low c.loop-rest-test.true l.invariant.0 l.invariant.1 l.invariant.3 l.invariant.4 in
    let same : length (set l.line (l.start - 1) (48 + l.rest % c.args.base)) ≡ length l.line = next.1 in
    (next.0, omega (arith, same, l.invariant.1), same ∙ l.invariant.2, next.2, next.3)
