-- Words and accumulators as numbers, and their bits.
use Rattle.std.specs.Prelude.{◌==◌, ◌+◌, ◌*◌, ◌/◌, ◌%◌, ◌^◌, ℕ, zero, suc, ℤ, pos, if◌then◌else◌}
use Rattle.std.specs.Int.{int_rem_euclid}
use Rattle.std.specs.Int.RustNames.{unsigned_abs}

-- the halves of 64 bits
abbrev pub low_half : ℕ → ℕ
low_half n = n % 2 ^ 32

abbrev pub high_half : ℕ → ℕ
high_half n = n / 2 ^ 32

-- the lane with these halves
abbrev pub lane : ℕ → ℕ → ℕ
lane low high = low + 2 ^ 32 * high

-- bits low to low + len - 1 of a word
abbrev pub field : ℕ → ℕ → ℕ → ℕ
field word low len = word / 2 ^ low % 2 ^ len

-- a word with these bits replaced by the low bits of a value: the bits above them, the value, the
-- bits below
abbrev pub with_field : ℕ → ℕ → ℕ → ℕ → ℕ
with_field word low len value =
    word / 2 ^ (low + len) * 2 ^ (low + len) + value % 2 ^ len * 2 ^ low + word % 2 ^ low

-- the low n bits of a word in the other order: the lowest is the top one
unfoldable pub reversed : ℕ → ℕ → ℕ
reversed zero word = 0
reversed (suc n) word = word % 2 * 2 ^ n + reversed n (word / 2)

-- how many of the low n bits of a word are 1
unfoldable pub ones : ℕ → ℕ → ℕ
ones zero word = 0
ones (suc n) word = word % 2 + ones n (word / 2)

-- n bits: those of a where c has 1, those of b where c has 0
unfoldable pub merged : ℕ → ℕ → ℕ → ℕ → ℕ
merged zero a b c = 0
merged (suc n) a b c =
    (if c % 2 == 1 then a % 2 else b % 2) + 2 * merged n (a / 2) (b / 2) (c / 2)

-- an integer modulo 2^64
abbrev pub modulo_64 : ℤ → ℕ
modulo_64 z = unsigned_abs (int_rem_euclid z (pos (2 ^ 64)))
