-- Words of 32 bits, as numbers and as integers.
use Rattle.std.specs.Prelude.{◌+◌, ◌-◌, ◌*◌, ◌/◌, ◌%◌, ◌^◌, ℕ, ℤ, pos, Bool, if◌then◌else◌, nat_lt}
use Rattle.std.specs.Int.{w32, cast_signed, int_div_euclid, int_rem_euclid}
use Rattle.std.specs.Int.RustNames.{unsigned_abs, int_div, int_rem}
use Rattle.std.specs.Ordering.{int_eq}

-- a number modulo 2^32
abbrev pub wrapped : ℕ → ℕ
wrapped n = n % 2 ^ 32

-- a word as a signed number, in two's complement
abbrev pub signed : ℕ → ℤ
signed word = cast_signed w32 word

-- an integer modulo 2^32
abbrev pub to_word : ℤ → ℕ
to_word z = unsigned_abs (int_rem_euclid z (pos (2 ^ 32)))

-- the word above the low one, of a product of two words
abbrev pub high_word : ℤ → ℕ
high_word z = to_word (int_div_euclid z (pos (2 ^ 32)))

-- bits high to low of a word
abbrev pub bits : ℕ → ℕ → ℕ → ℕ
bits word high low = word / 2 ^ low % 2 ^ (high + 1 - low)

-- a number of so many bits, at least one, its top bit copied up to bit 31
abbrev pub sign_extended : ℕ → ℕ → ℕ
sign_extended width n = if nat_lt n (2 ^ (width - 1)) then n else n + (2 ^ 32 - 2 ^ width)

-- a comparison as a word
abbrev pub flag : Bool → ℕ
flag holds = if holds then 1 else 0

-- shifts by the low five bits of an amount; to the right, the sign of the integer comes in
abbrev pub shifted_left : ℕ → ℕ → ℕ
shifted_left word amount = wrapped (word * 2 ^ (amount % 32))

abbrev pub shifted_right : ℤ → ℕ → ℕ
shifted_right z amount = to_word (int_div_euclid z (pos (2 ^ (amount % 32))))

-- Division rounds toward 0, and the remainder has the sign of the dividend (section 7.2). Of a
-- division by 0 the quotient has all bits set, and the remainder is the dividend. -2^31 by -1 is
-- 2^31, which is -2^31 as a word.
abbrev pub quotient : ℤ → ℤ → ℕ
quotient dividend divisor =
    if int_eq divisor (pos 0) then 2 ^ 32 - 1 else to_word (int_div dividend divisor)

abbrev pub remainder : ℤ → ℤ → ℕ
remainder dividend divisor =
    if int_eq divisor (pos 0) then to_word dividend else to_word (int_rem dividend divisor)
