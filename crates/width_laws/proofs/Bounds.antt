-- Numbers that are words of 32 bits.
use Rattle.std.proofs.Common.{◌<◌, ◌≤◌, ◌+◌, ◌-◌, ◌*◌, ◌/◌, ◌%◌, ◌^◌, ◌==◌, ℕ, zero, suc, ℤ, pos, negsuc, Bool, true, false, if◌then◌else◌, nat_lt, arith}
use Rattle.std.specs.Int.{int_rem_euclid}
use Rattle.std.specs.Int.RustNames.{unsigned_abs}
use Rattle.std.proofs.lemmas.Nat.{pow_pos, mul-add-lt}
use Rattle.std.proofs.Math.Nat.{mod-lt, mod-le, div-le_self, pow-suc}
use Rattle.rv32_table.specs.Word.{wrapped, to_word, flag, sign_extended}
use Rattle.coproc_config.specs.Bits.{low_half, high_half, field, reversed, ones, merged, modulo_64}

pub word-zero : 0 < 2 ^ 32
word-zero = pow_pos 32

pub word-wrapped : (n : ℕ) → wrapped n < 2 ^ 32
word-wrapped n = mod-lt n (pow_pos 32)

rem-below : (z : ℤ) (n : ℕ) → 0 < n → unsigned_abs (int_rem_euclid z (pos n)) < n
rem-below (pos a) n h = mod-lt a h
rem-below (negsuc a) n h = omega (arith, h)

pub word-of : (z : ℤ) → to_word z < 2 ^ 32
word-of z = rem-below z (2 ^ 32) (pow_pos 32)

pub below-64 : (z : ℤ) → modulo_64 z < 2 ^ 64
below-64 z = rem-below z (2 ^ 64) (pow_pos 64)

pub word-flag : (b : Bool) → flag b < 2 ^ 32
word-flag true = omega arith
word-flag false = omega arith

-- a number of fewer bits, extended by its sign
pub word-signed : (width n : ℕ) → n < 2 ^ width → n < 2 ^ 32 → sign_extended width n < 2 ^ 32
word-signed width n h k = go (nat_lt n (2 ^ (width - 1)))
  where
    go : (b : Bool) → (if b then n else n + (2 ^ 32 - 2 ^ width)) < 2 ^ 32
    go true = k
    go false = omega (arith, h, k)

pub word-low : (n : ℕ) → low_half n < 2 ^ 32
word-low n = mod-lt n (pow_pos 32)

pub word-high : (n : ℕ) → n < 2 ^ 64 → high_half n < 2 ^ 32
word-high n h = omega (arith, h)

pub field-below : (word low len : ℕ) → field word low len < 2 ^ len
field-below word low len = mod-lt (word / 2 ^ low) (pow_pos len)

pub field-word : (word low len : ℕ) → word < 2 ^ 32 → field word low len < 2 ^ 32
field-word word low len h =
    let less : word / 2 ^ low % 2 ^ len ≤ word / 2 ^ low = mod-le (word / 2 ^ low) (2 ^ len) in
    let few : word / 2 ^ low ≤ word = div-le_self word (2 ^ low) in
    omega (arith, less, few, h)

pub reversed-below : (n word : ℕ) → reversed n word < 2 ^ n
unfolding reversed
reversed-below zero word = omega arith
reversed-below (suc n) word =
    let all : word % 2 * 2 ^ n + reversed n (word / 2) < 2 ^ n * 2 = mul-add-lt (word % 2) (2 ^ n) (reversed n (word / 2)) 2 (mod-lt word (omega arith)) (reversed-below n (word / 2)) in
    omega (arith, all, pow-suc 2 n)

pub ones-below : (n word : ℕ) → ones n word ≤ n
unfolding ones
ones-below zero word = omega arith
ones-below (suc n) word = omega (arith, ones-below n (word / 2))

pub merged-below : (n a b c : ℕ) → merged n a b c < 2 ^ n
unfolding merged
merged-below zero a b c = omega arith
merged-below (suc n) a b c = go (c % 2 == 1) (merged-below n (a / 2) (b / 2) (c / 2))
  where
    go : (t : Bool) → merged n (a / 2) (b / 2) (c / 2) < 2 ^ n → (if t then a % 2 else b % 2) + 2 * merged n (a / 2) (b / 2) (c / 2) < 2 ^ suc n
    go true h = omega (arith, h, pow-suc 2 n)
    go false h = omega (arith, h, pow-suc 2 n)
