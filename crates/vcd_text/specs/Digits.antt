-- Internal: the digits of a value, short or long.
use Rattle.std.specs.Prelude.{◌<◌, List, ⊤, length}
use Rattle.vcd_text.specs.declared.digit.Digit.{Digit}
use Rattle.vcd_text.specs.declared.digit.Repr.{Repr}
use Rattle.vcd_text.specs.declared.digit.Repr.TheVariants.{Short, Long}

abbrev pub digits_in : Repr → List Digit
digits_in (Short digits) = digits
digits_in (Long digits) = digits.items

-- only what has no room in short digits is long
abbrev pub IsShortest : Repr → Type 0
IsShortest (Short digits) = ⊤
IsShortest (Long digits) = 64 < length digits.items
