use Rattle.std.proofs.Common.{◌≡◌, take}
use Rattle.vcd_text.proofs.short_digits.ShortDigits.from_slice.Given as goal

abbrev pub invariant-loop-digit : goal.invariant-loop-digit
invariant-loop-digit l = l.found ≡ take l.digit-index l.digits
