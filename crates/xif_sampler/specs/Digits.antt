-- The bits that a signal takes of the digits of a value (IEEE 1364-2005, 18.2.1 and 18.2.2).
use Rattle.std.specs.Prelude.{◌+◌, ◌*◌, ℕ, zero, suc, List, [], ◌∷◌, reverse, slice_index_or}
use Rattle.xif_signals.specs.declared.sample.Quad.{Quad}
use Rattle.vcd_text.specs.declared.digit.Digit.{Digit}
use Rattle.vcd_text.specs.declared.digit.Digit.TheVariants.{Zero, One, X, Z}

-- The digit that a value is extended by on the left (IEEE 1364-2005, 18.2.2). A value without
-- digits is that of a variable that was never changed, which is x.
abbrev pub filler : List Digit → Digit
filler [] = X
filler (One ∷ ds) = Zero
filler (d ∷ ds) = d

-- the digit at a place, counted from the last digit as 0
abbrev pub digit_at : List Digit → ℕ → Digit
digit_at ds i = slice_index_or (reverse ds) i (filler ds)

-- the bit of a digit, 0 where it is unknown
abbrev pub value_bit_of : Digit → ℕ
value_bit_of One = 1
value_bit_of _ = 0

-- 1 where a digit is unknown
abbrev pub unknown_bit_of : Digit → ℕ
unknown_bit_of X = 1
unknown_bit_of Z = 1
unknown_bit_of _ = 0

-- the number of the bits of `width` digits, from a place on
abbrev pub bits_from : (Digit → ℕ) → List Digit → ℕ → ℕ → ℕ
bits_from bit ds low zero = 0
bits_from bit ds low (suc width) = bit (digit_at ds low) + 2 * bits_from bit ds (low + 1) width

abbrev pub quad_from : List Digit → ℕ → ℕ → Quad
quad_from ds low width = record {
  value = bits_from value_bit_of ds low width;
  unknown = bits_from unknown_bit_of ds low width;
}
