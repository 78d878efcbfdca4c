use Rattle.std.proofs.Common.{◌+◌, ◌-◌, ◌*◌, ◌^◌, ◌<◌, ◌≡◌, ap, arith, get_or, length}
use Rattle.std.proofs.lemmas.Option.{get_or_from_slice_get}
use Rattle.vcd_text.specs.declared.digit.Digit.TheVariants.{Zero}
use Rattle.xif_sampler.specs.Digits.{value_bit_of, unknown_bit_of, bits_from}
use Rattle.xif_sampler.proofs.Bits.{value_small, unknown_small, bits_double, bits_on}
use Rattle.xif_sampler.proofs.digits.written.Goals as goal

pub overflow_mul-quad : goal.overflow_mul-quad
overflow_mul-quad c =
    let i = c.loop-index in
    let ds = c.args.digits.now in
    let room : bits_from value_bit_of ds (length ds - i.index) (i.index - c.args.start) * 2 + 1 < 2 ^ 64 = bits_double value_bit_of ds (length ds - i.index) (i.index - c.args.start) value_small (omega arith) in
    omega arith

pub overflow_add-quad : goal.overflow_add-quad
overflow_add-quad c =
    let i = c.loop-index in
    let ds = c.args.digits.now in
    let room : bits_from value_bit_of ds (length ds - i.index) (i.index - c.args.start) * 2 + 1 < 2 ^ 64 = bits_double value_bit_of ds (length ds - i.index) (i.index - c.args.start) value_small (omega arith) in
    omega (arith, value_small)

pub overflow_mul-quad-in-loop-index : goal.overflow_mul-quad-in-loop-index
overflow_mul-quad-in-loop-index c =
    let i = c.loop-index in
    let ds = c.args.digits.now in
    let room : bits_from unknown_bit_of ds (length ds - i.index) (i.index - c.args.start) * 2 + 1 < 2 ^ 64 = bits_double unknown_bit_of ds (length ds - i.index) (i.index - c.args.start) unknown_small (omega arith) in
    omega arith

pub overflow_add-quad-in-loop-index : goal.overflow_add-quad-in-loop-index
overflow_add-quad-in-loop-index c =
    let i = c.loop-index in
    let ds = c.args.digits.now in
    let room : bits_from unknown_bit_of ds (length ds - i.index) (i.index - c.args.start) * 2 + 1 < 2 ^ 64 = bits_double unknown_bit_of ds (length ds - i.index) (i.index - c.args.start) unknown_small (omega arith) in
    omega (arith, unknown_small)

pub loop-index-preserved : goal.loop-index-preserved
loop-index-preserved c =
    let i = c.loop-index in
    let ds = c.args.digits.now in
    let digit : get_or ds i.index Zero ≡ c.get-digit.result = get_or_from_slice_get ds i.index c.get-digit.result Zero c.get-digit.ensures in
    let value = bits_on value_bit_of ds c.args.start i.index Zero (omega arith) (omega arith) in
    let unknown = bits_on unknown_bit_of ds c.args.start i.index Zero (omega arith) (omega arith) in
    record {
      value = omega (arith, value, ap value_bit_of digit, c.value_bit.ensures);
      unknown = omega (arith, unknown, ap unknown_bit_of digit, c.unknown_bit.ensures);
    }
