use Rattle.std.proofs.Common.{◌≡◌, ◌<◌, ◌∙◌, Some, sym, ap, length, arith}
use Rattle.std.specs.List.{slice_get}
use Rattle.vcd_text.proofs.Vectors.{length-digits_by, slice_get-digits_by}
use Rattle.vcd_text.proofs.short_digits.ShortDigits.get.Goals as goal

pub overflow_shr-self-inside : goal.overflow_shr-self-inside
overflow_shr-self-inside c = omega (arith, length-digits_by c.self.inside.count c.self.inside.aval c.self.inside.bval, ap length c.self.view_is, c.self.invariant.few)

pub overflow_shr-self-inside-2 : goal.overflow_shr-self-inside-2
overflow_shr-self-inside-2 c = omega (arith, length-digits_by c.self.inside.count c.self.inside.aval c.self.inside.bval, ap length c.self.view_is, c.self.invariant.few)

pub returns : goal.returns
returns c =
    let s = c.self.inside in
    let count : length c.args.self.now ≡ s.count = ap length (sym c.self.view_is) ∙ length-digits_by s.count s.aval s.bval in
    let within : c.args.i < s.count = omega (arith, count, c.requires) in
    ap (λ ds. slice_get ds c.args.i) (sym c.self.view_is)
    ∙ slice_get-digits_by s.count s.aval s.bval c.args.i within
    ∙ ap Some (sym c.digit_of.ensures)

pub overflow_sub-place-2 : goal.overflow_sub-place-2
overflow_sub-place-2 c = omega (arith, c.requires, length-digits_by c.self.inside.count c.self.inside.aval c.self.inside.bval, ap length c.self.view_is)
