use Rattle.std.proofs.Common.{◌≡◌, ◌<◌, List, subst, sym, arith}
use Rattle.vcd_text.specs.declared.digit.Digit.{Digit}
use Rattle.vcd_text.specs.Vectors.{IsBinary}
use Rattle.vcd_text.proofs.Vectors.{binary_is, binary_known}
use Rattle.vcd_text.proofs.short_digits.ShortDigits.number.Goals.{else-self-eq0-via-then-self-eq0+else-self-ne0, else-self-eq0-via-else-self-eq0}
use Rattle.vcd_text.proofs.short_digits.ShortDigits.number.Goals as goal

pub returns-then-self-ne0-clause-some : goal.returns-then-self-ne0-clause-some
returns-then-self-ne0-clause-some c =
    let s = c.self.inside in
    let P : List Digit → Type 0 = λ ds. IsBinary ds s.aval in
    subst P c.self.view_is (binary_is s.count s.aval s.bval c.if-self-eq0.true (omega (arith, c.if-self-ne0.true)) c.self.invariant.low)

pub returns-else-self-eq0-clause-none : goal.returns-else-self-eq0-clause-none
returns-else-self-eq0-clause-none c n is =
    let s = c.self.inside in
    let P : List Digit → Type 0 = λ ds. IsBinary ds n in
    let known : (s.bval ≡ 0) × (0 < s.count) = binary_known s.count s.aval s.bval n c.self.invariant.high (subst P (sym c.self.view_is) is) in
    elim c.else-self-eq0.branch [
      | else-self-eq0-via-then-self-eq0+else-self-ne0 w ↦ omega (arith, w.if-self-ne0.false, known.1)
      | else-self-eq0-via-else-self-eq0 w ↦ omega (arith, w.if-self-eq0.false, known.0)
    ]
