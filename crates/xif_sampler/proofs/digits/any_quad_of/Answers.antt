use Rattle.std.proofs.Common.{◌≡◌, ◌+◌, ◌-◌, ◌^◌, ◌<◌, ◌∙◌, ap, sym, arith, length}
use Rattle.xif_signals.specs.declared.sample.Quad.{Quad}
use Rattle.xif_sampler.specs.Digits.{unknown_bit_of, bits_from}
use Rattle.xif_sampler.proofs.Bits.{unknown_small, bits_filled, value_filled, fits_64}
use Rattle.xif_sampler.proofs.digits.any_quad_of.Goals as goal

-- the unknown bits of the digits, and those above them
unknown_is : (c : goal.After-struct_known-1) → c.written-quad.result.unknown + c.unknown_above.result ≡ bits_from unknown_bit_of c.args.digits.now c.args.low c.args.width
unknown_is c =
    let ds = c.args.digits.now in
    let end = c.saturating_sub-end.result in
    let start = c.saturating_sub-start.result in
    let digits_are : c.written-quad.result.unknown ≡ bits_from unknown_bit_of ds (length ds - end) (end - start) = ap (λ (q : Quad). q.unknown) c.written-quad.ensures in
    ap (λ n. n + c.unknown_above.result) digits_are
    ∙ ap (λ n. bits_from unknown_bit_of ds (length ds - end) (end - start) + n) c.unknown_above.ensures
    ∙ sym (bits_filled unknown_bit_of ds c.args.low c.args.width start end (omega arith) (omega arith))

pub overflow_add-quad : goal.overflow_add-quad
overflow_add-quad c =
    let fits : bits_from unknown_bit_of c.args.digits.now c.args.low c.args.width < 2 ^ 64 = fits_64 unknown_bit_of c.args.digits.now c.args.low c.args.width unknown_small c.requires in
    rw (unknown_is c) (omega (arith, fits))

pub returns : goal.returns
returns c =
    let ds = c.args.digits.now in
    let end = c.saturating_sub-end.result in
    let start = c.saturating_sub-start.result in
    ap (λ n. record { value = c.written-quad.result.value; unknown = n }) (unknown_is c)
    ∙ ap (λ n. record { value = n; unknown = bits_from unknown_bit_of ds c.args.low c.args.width })
    (ap (λ (q : Quad). q.value) c.written-quad.ensures ∙ sym (value_filled ds c.args.low c.args.width start end (omega arith) (omega arith)))
