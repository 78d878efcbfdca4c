-- The code on whole words gives the bits that the definitions name one by one.
use Rattle.std.proofs.Common.{◌≡◌, ◌<◌, ◌≤◌, ◌==◌, ◌+◌, ◌-◌, ◌*◌, ◌/◌, ◌%◌, ◌^◌, ℕ, zero, suc, ℤ, pos, negsuc, ◌+ℤ◌, cond, bit_and, bit_or, refl, sym, ap, subst, zero-add, ◌∙◌, arith, lit<, FitsSigned, w64, of_z}
use Rattle.std.specs.Int.{reverse_bits_onto}
use Rattle.std.specs.Int.RustNames.{unsigned_abs}
use Rattle.std.proofs.lemmas.Nat.{and_mask, one_shl, and_block, or_block, and_le_l, or_comm, or_disjoint, pow-add, pow_pos, mul-add-lt, shr_below, mod_below}
use Rattle.std.specs.Int.Bits.{and_zero_l, and_zero_r}
use Rattle.std.proofs.Math.Nat.{pow-suc}
use Rattle.std.proofs.lemmas.Int.{ints, int_rem_euclid_is}
use lib.Count.{ones as all_ones, ones_step}
use Rattle.coproc_config.specs.Bits.{with_field, reversed, ones, merged, modulo_64}

both : (f : ℕ → ℕ → ℕ) (x y z w : ℕ) → x ≡ y → z ≡ w → f x z ≡ f y w
both f x y z w p q = ap (λ n. f n z) p ∙ ap (f y) q

-- `value & ((1 << count) - 1)`
pub and_low : (n k : ℕ) → k < 64 → bit_and n ((1 * 2 ^ k) % 2 ^ 64 - 1) ≡ n % 2 ^ k
and_low n k h = ap (λ m. bit_and n (m - 1)) (one_shl k 64 h) ∙ and_mask n k

half_below : (w n : ℕ) → w < 2 ^ suc n → w / 2 < 2 ^ n
half_below w n h = omega (arith, pow-suc 2 n)

pub ones-whole : (n w : ℕ) → w < 2 ^ n → all_ones w ≡ ones n w
unfolding ones all_ones
ones-whole zero w h =
    let none : w ≡ 0 = omega arith in
    ap all_ones none
ones-whole (suc n) w h = ones_step w ∙ ap (λ k. w % 2 + k) (ones-whole n (w / 2) (half_below w n h))

pub reversed-onto : (n w a : ℕ) → reverse_bits_onto n w a ≡ a * 2 ^ n + reversed n w
unfolding reversed reverse_bits_onto
reversed-onto zero w a = omega arith
reversed-onto (suc n) w a =
    let rest : reverse_bits_onto n (w / 2) (a * 2 + w % 2) ≡ (a * 2 + w % 2) * 2 ^ n + reversed n (w / 2) = reversed-onto n (w / 2) (a * 2 + w % 2) in
    rest ∙ omega (arith, ap (λ k. a * k) (pow-suc 2 n))

pub reversed-whole : (w : ℕ) → reverse_bits_onto 32 w 0 ≡ reversed 32 w
reversed-whole w = reversed-onto 32 w 0 ∙ omega arith

or_zero : (s : ℕ) → bit_or 0 s ≡ s
or_zero s = or_disjoint 0 s (and_zero_l s) ∙ zero-add s

and_one : (s : ℕ) → s < 2 → bit_and s 1 ≡ s
and_one s h = and_mask s 1 ∙ omega arith

-- one bit
chosen : (r s t : ℕ) → r < 2 → s < 2 → t < 2 → bit_or (bit_and r t) (bit_and s (1 - t)) ≡ cond (t == 1) r s
chosen r s zero h k l = ap (λ x. bit_or x (bit_and s 1)) (and_zero_r r) ∙ or_zero (bit_and s 1) ∙ and_one s k
chosen r s (suc zero) h k l = ap (λ x. bit_or (bit_and r 1) x) (and_zero_r s) ∙ or_comm (bit_and r 1) 0 ∙ or_zero (bit_and r 1) ∙ and_one r h
chosen r s (suc (suc t)) h k l = absurd (omega arith)

pub merged-whole : (n a b c : ℕ) → c < 2 ^ n → bit_or (bit_and a c) (bit_and b (2 ^ n - 1 - c)) ≡ merged n a b c
unfolding merged
merged-whole zero a b c h =
    let none : c ≡ 0 = omega arith in
    ap (λ k. bit_or (bit_and a k) (bit_and b (0 - k))) none
    ∙ ap (λ k. bit_or k (bit_and b 0)) (and_zero_r a)
    ∙ or_zero (bit_and b 0)
    ∙ and_zero_r b
merged-whole (suc n) a b c h =
    let a_is : a ≡ a / 2 * 2 ^ 1 + a % 2 = omega arith in
    let b_is : b ≡ b / 2 * 2 ^ 1 + b % 2 = omega arith in
    let c_is : c ≡ c / 2 * 2 ^ 1 + c % 2 = omega arith in
    let not_is : 2 ^ suc n - 1 - c ≡ (2 ^ n - 1 - c / 2) * 2 ^ 1 + (1 - c % 2) = omega (arith, pow-suc 2 n) in
    let from_a : bit_and a c ≡ bit_and (a / 2) (c / 2) * 2 ^ 1 + bit_and (a % 2) (c % 2) =
    both bit_and _ _ _ _ a_is c_is ∙ and_block 1 (a / 2) (c / 2) (a % 2) (c % 2) (omega arith) (omega arith) in
    let from_b : bit_and b (2 ^ suc n - 1 - c) ≡ bit_and (b / 2) (2 ^ n - 1 - c / 2) * 2 ^ 1 + bit_and (b % 2) (1 - c % 2) =
    both bit_and _ _ _ _ b_is not_is ∙ and_block 1 (b / 2) (2 ^ n - 1 - c / 2) (b % 2) (1 - c % 2) (omega arith) (omega arith) in
    let joined : bit_or (bit_and (a / 2) (c / 2) * 2 ^ 1 + bit_and (a % 2) (c % 2)) (bit_and (b / 2) (2 ^ n - 1 - c / 2) * 2 ^ 1 + bit_and (b % 2) (1 - c % 2)) ≡ bit_or (bit_and (a / 2) (c / 2)) (bit_and (b / 2) (2 ^ n - 1 - c / 2)) * 2 ^ 1 + bit_or (bit_and (a % 2) (c % 2)) (bit_and (b % 2) (1 - c % 2)) =
    or_block 1 (bit_and (a / 2) (c / 2)) (bit_and (b / 2) (2 ^ n - 1 - c / 2)) (bit_and (a % 2) (c % 2)) (bit_and (b % 2) (1 - c % 2))
    (omega (arith, and_le_l (a % 2) (c % 2))) (omega (arith, and_le_l (b % 2) (1 - c % 2))) in
    let bit : bit_or (bit_and (a % 2) (c % 2)) (bit_and (b % 2) (1 - c % 2)) ≡ cond (c % 2 == 1) (a % 2) (b % 2) =
    chosen (a % 2) (b % 2) (c % 2) (omega arith) (omega arith) (omega arith) in
    let others : bit_or (bit_and (a / 2) (c / 2)) (bit_and (b / 2) (2 ^ n - 1 - c / 2)) ≡ merged n (a / 2) (b / 2) (c / 2) =
    merged-whole n (a / 2) (b / 2) (c / 2) (half_below c n h) in
    both bit_or _ _ _ _ from_a from_b ∙ joined ∙ both (λ x y. x * 2 ^ 1 + y) _ _ _ _ others bit ∙ omega arith

pub modulo_64-added : (q : ℕ) (p : ℤ) → FitsSigned w64 p → (q + of_z w64 p) % 2 ^ 64 ≡ modulo_64 (pos q +ℤ p)
modulo_64-added q (pos n) f = refl
modulo_64-added q (negsuc n) f =
    sym (ap unsigned_abs (int_rem_euclid_is (pos q +ℤ negsuc n) (pos 18446744073709551616) 18446744073709551616 1 (q + (18446744073709551616 - suc n)) (lit< tt) refl (omega (arith, ints))))

-- a word whose bits are replaced is a word
pub with_field-below : (word low len value : ℕ) → word < 2 ^ 32 → low + len ≤ 32 → with_field word low len value < 2 ^ 32
with_field-below word low len value h k =
    let rest : 32 - (low + len) + (low + len) ≡ 32 = omega arith in
    let whole : 2 ^ (low + len) * 2 ^ (32 - (low + len)) ≡ 2 ^ 32 = omega (arith, pow-add 2 (32 - (low + len)) (low + len), ap (λ n. 2 ^ n) rest) in
    let P : ℕ → Type 0 = λ n. word < 2 ^ n in
    let above : word / 2 ^ (low + len) < 2 ^ (32 - (low + len)) = shr_below word (32 - (low + len)) (low + len) (subst P (sym rest) h) in
    let inside : value % 2 ^ len * 2 ^ low + word % 2 ^ low < 2 ^ low * 2 ^ len =
    mul-add-lt (value % 2 ^ len) (2 ^ low) (word % 2 ^ low) (2 ^ len) (mod_below value (2 ^ len) (pow_pos len)) (mod_below word (2 ^ low) (pow_pos low)) in
    let below : value % 2 ^ len * 2 ^ low + word % 2 ^ low < 2 ^ (low + len) = omega (arith, pow-add 2 low len) in
    let all = mul-add-lt (word / 2 ^ (low + len)) (2 ^ (low + len)) (value % 2 ^ len * 2 ^ low + word % 2 ^ low) (2 ^ (32 - (low + len))) above below in
    omega (arith, all, whole)
