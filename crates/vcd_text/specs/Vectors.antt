-- Digits as two numbers, as the values of vectors are given to programs: `s_vpi_vecval` (IEEE
-- 1364-2005, 27.14).
use Rattle.std.specs.Prelude.{◌≡◌, ◌≤◌, ◌<◌, ◌^◌, ◌/◌, ◌%◌, ◌==◌, ℕ, zero, suc, if◌then◌else◌, List, [], ◌∷◌, ◌++◌, length, Some}
use Rattle.vcd_text.specs.declared.digit.Digit.{Digit}
use Rattle.vcd_text.specs.declared.digit.Digit.TheVariants.{Zero, One, X, Z}
use Rattle.vcd_text.specs.Words.{digits}

-- the digit by its bit of each number: 00 is 0, 10 is 1, 11 is x and 01 is z
abbrev pub digit_by : ℕ → ℕ → Digit
digit_by a b =
    if b == 0 then (if a == 0 then Zero else One)
    else (if a == 0 then Z else X)

-- the digits by the lowest `count` bits of the two numbers, the leftmost first
abbrev pub digits_by : ℕ → ℕ → ℕ → List Digit
digits_by zero a b = []
digits_by (suc count) a b = digits_by count (a / 2) (b / 2) ++ digit_by (a % 2) (b % 2) ∷ []

-- one or more digits that write a number in binary
pub record IsBinary (ds : List Digit) (n : ℕ) : Type 0 where
  pub same : ds ≡ digits_by (length ds) n 0
  pub below : n < 2 ^ length ds
  pub some : 0 < length ds

-- ---- internal

-- the bits of a digit
abbrev pub aval_of : Digit → ℕ
aval_of One = 1
aval_of X = 1
aval_of _ = 0

abbrev pub bval_of : Digit → ℕ
bval_of X = 1
bval_of Z = 1
bval_of _ = 0

-- the bytes are the digits that write a number in binary
pub record IsWritten (bytes : List ℕ) (n : ℕ) : Type 0 where
  pub below : n < 2 ^ length bytes
  pub reads : digits bytes ≡ Some (digits_by (length bytes) n 0)

-- so many digits have room in numbers of 64 bits, which have no other bits
pub record AreShort (count a b : ℕ) : Type 0 where
  pub few : count ≤ 64
  pub low : a < 2 ^ count
  pub high : b < 2 ^ count
