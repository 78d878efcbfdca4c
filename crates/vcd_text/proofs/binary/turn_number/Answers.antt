use Rattle.std.proofs.Common.{◌∙◌, nat_eq, nat_lt, refl, subst, sym, arith, w8}
use Rattle.std.proofs.lemmas.Simd.{bitmask_splat}
use Rattle.vcd_text.specs.Vectors.{IsWritten}
use Rattle.vcd_text.proofs.WrittenBinary.{lanes_of, written-eight}
use Rattle.vcd_text.proofs.binary.turn_number.Goals as goal

pub returns : goal.returns
returns c =
    let bytes = c.args.bytes.now in
    let lanes = lanes_of bytes in
    let below = sym (bitmask_splat w8 nat_lt lanes 8 48 refl (omega arith)) ∙ c.if-below-ne0.false in
    let above = sym (bitmask_splat w8 (λ a b. nat_lt b a) lanes 8 49 refl (omega arith)) ∙ c.if-above-ne0.false in
    subst (IsWritten bytes) (sym (bitmask_splat w8 nat_eq lanes 8 49 refl (omega arith))) (written-eight bytes c.requires below above)
