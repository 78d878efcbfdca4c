use Rattle.std.proofs.Common.{◌+◌, ◌%◌, ◌∙◌, ap, rules, pos, ◌+ℤ◌, FitsSigned, w64, of_z}
use Rattle.std.proofs.lemmas.Int.{to_z-of_z}
use Rattle.coproc_config.specs.Bits.{modulo_64}
use Rattle.coproc_config.proofs.WordBits.{modulo_64-added}
use Rattle.coproc_config.proofs.compute.accumulate.Goals as goal

pub returns : goal.returns
returns c =
    let product = c.signed_product.result in
    let fits : FitsSigned w64 c.signed_product.result = search rules in
    ap (λ n. (c.args.q + n) % 18446744073709551616) (c.cast_unsigned.ensures ∙ ap (of_z w64) (to_z-of_z w64 product fits))
    ∙ modulo_64-added c.args.q product fits
    ∙ ap (λ p. modulo_64 (pos c.args.q +ℤ p)) c.signed_product.ensures
