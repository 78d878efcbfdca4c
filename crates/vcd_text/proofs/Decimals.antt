-- Numbers of few decimal digits.
use Rattle.std.proofs.Common.{◌≡◌, ◌<◌, ◌≤◌, ◌+◌, ◌-◌, ◌*◌, ◌^◌, ◌∙◌, ℕ, suc, true, List, None, if◌then◌else◌, nat_lt, ◌&&◌, length, get_or, drop, drop-cons, ap, sym, arith}
use Rattle.std.proofs.Math.Nat.{pow-succ', pow-le-pow_right}
use Rattle.std.proofs.lemmas.Bool.Decides.{nat_tests}
use Rattle.vcd_text.specs.Words.{is_decimal, number_after}

pub decimal_digit : (b d : ℕ) → is_decimal b ≡ true → d ≡ b - 48 → d ≤ 9
decimal_digit b d is e = grind (arith, nat_tests)

-- a digit more has room in the next power of ten
pub decimal_below : (i v d : ℕ) → v < 10 ^ i → d ≤ 9 → v * 10 + d < 10 ^ (i + 1)
decimal_below i v d h l =
    let one : i + 1 ≡ suc i = omega arith in
    rw one (omega (arith, h, l, pow-succ' 10 i))

-- 19 digits have room in 64 bits
pub decimal_fits : (i v d : ℕ) → i < 19 → v < 10 ^ i → d ≤ 9 → v * 10 + d < 2 ^ 64
decimal_fits i v d few h l =
    let next : i + 1 ≤ 19 = omega (arith, few) in
    let less : 10 ^ (i + 1) ≤ 10 ^ 19 = pow-le-pow_right (omega arith) next in
    omega (arith, decimal_below i v d h l, less)

-- a digit more
pub decimal_after : (bytes : List ℕ) (i v d : ℕ) → i < length bytes → is_decimal (get_or bytes i 0) ≡ true → d ≡ get_or bytes i 0 - 48 → v * 10 + d < 2 ^ 64
    → number_after (v * 10 + d) (drop (i + 1) bytes) ≡ number_after v (drop i bytes)
decimal_after bytes i v d h is e fits =
    let b = get_or bytes i 0 in
    let one : i + 1 ≡ suc i = omega arith in
    let room : nat_lt (v * 10 + (b - 48)) (2 ^ 64) ≡ true = rw (sym e) (grind (arith, nat_tests)) in
    let both : (is_decimal b && nat_lt (v * 10 + (b - 48)) (2 ^ 64)) ≡ true = ap (λ t. t && nat_lt (v * 10 + (b - 48)) (2 ^ 64)) is ∙ room in
    ap (λ n. number_after n (drop (i + 1) bytes)) (ap (λ x. v * 10 + x) e)
    ∙ ap (λ k. number_after (v * 10 + (b - 48)) (drop k bytes)) one
    ∙ sym (ap (λ t. if t then number_after (v * 10 + (b - 48)) (drop (suc i) bytes) else None) both)
    ∙ sym (ap (number_after v) (drop-cons bytes i 0 h))
