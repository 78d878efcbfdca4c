use Rattle.std.proofs.Common.{◌∙◌, sym, arith}
use Rattle.vcd_text.proofs.Decimals.{decimal_digit, decimal_below, decimal_fits, decimal_after}
use Rattle.vcd_text.proofs.token.safe_number.Goals as goal

pub overflow_mul-value : goal.overflow_mul-value
overflow_mul-value c =
    let l = c.loop-byte in
    let fits = decimal_fits l.byte-index l.value 0 (omega (arith, c.requires, c.loop-byte-test.true)) l.invariant.below (omega arith) in
    omega (arith, fits)

pub overflow_add-value : goal.overflow_add-value
overflow_add-value c =
    let l = c.loop-byte in
    let digit = decimal_digit _ _ (sym c.is_ascii_digit.ensures.value ∙ c.if-not-is_ascii_digit.false) c.from.ensures in
    let fits = decimal_fits l.byte-index l.value c.from.result (omega (arith, c.requires, c.loop-byte-test.true)) l.invariant.below digit in
    omega (arith, fits)

pub loop-byte-preserved : goal.loop-byte-preserved
loop-byte-preserved c =
    let l = c.loop-byte in
    let is = sym c.is_ascii_digit.ensures.value ∙ c.if-not-is_ascii_digit.false in
    let digit = decimal_digit _ _ is c.from.ensures in
    let fits = decimal_fits l.byte-index l.value c.from.result (omega (arith, c.requires, c.loop-byte-test.true)) l.invariant.below digit in
    record {
      below = decimal_below l.byte-index l.value c.from.result l.invariant.below digit;
      so_far = decimal_after c.args.bytes.now l.byte-index l.value c.from.result c.loop-byte-test.true is c.from.ensures fits ∙ l.invariant.so_far;
    }
