-- Bytes that write a number in binary.
use Rattle.std.proofs.Common.{◌≡◌, ◌<◌, ◌≤◌, ◌+◌, ◌-◌, ◌*◌, ◌/◌, ◌%◌, ◌^◌, ◌&&◌, ℕ, zero, suc, Bool, true, false, cond, nat_eq, nat_lt, nat_le, List, [], ◌∷◌, ◌++◌, length, get_or, take, drop, drop-cons, map, Some, refl, sym, ap, subst, ◌∙◌, arith, append_assoc, append-nil}
use Rattle.std.specs.List.{slice_range}
use Rattle.std.specs.Simd.Lanes.{mask_l}
use Rattle.std.proofs.Math.Nat.{pow-succ', mod-eq_of_lt, mul-le-mul_right}
use Rattle.std.proofs.Math.Pow.{pow_mono}
use Rattle.std.proofs.Math.Seq.{take-add}
use Rattle.std.proofs.lemmas.Bool.Decides.{nat_tests}
use Rattle.std.proofs.lemmas.List.{length-append, length-take-le, length-drop, drop_all, take-append-drop}
use Rattle.std.proofs.lemmas.Nat.{pow-add}
use Rattle.vcd_text.specs.Words.{with_digit}
use Rattle.vcd_text.specs.Vectors.{digit_by, digits_by, IsWritten}
use Rattle.vcd_text.proofs.Front.{with_front, digits-append}
use Rattle.vcd_text.proofs.Vectors.{digit-binary}

-- ---- a number in two parts

doubled : (high n : ℕ) → high * 2 ^ suc n ≡ 2 * (high * 2 ^ n)
doubled high n = ap (λ x. high * x) (pow-succ' 2 n) ∙ grind arith

digits_by-add : (m n high low : ℕ) → low < 2 ^ n → digits_by (m + n) (high * 2 ^ n + low) 0 ≡ digits_by m high 0 ++ digits_by n low 0
digits_by-add m zero high low h =
    let none : low ≡ 0 = omega (arith, h) in
    let same : high * 1 + low ≡ high = omega (arith, none) in
    let only : m + 0 ≡ m = omega arith in
    ap (λ n. digits_by n (high * 1 + low) 0) only ∙ ap (λ x. digits_by m x 0) same ∙ sym (append-nil (digits_by m high 0))
digits_by-add m (suc n) high low h =
    let twice : 2 ^ suc n ≡ 2 * 2 ^ n = pow-succ' 2 n in
    let whole = doubled high n in
    let above : (high * 2 ^ suc n + low) / 2 ≡ high * 2 ^ n + low / 2 = omega (arith, whole) in
    let last : (high * 2 ^ suc n + low) % 2 ≡ low % 2 = omega (arith, whole) in
    let less : low / 2 < 2 ^ n = omega (arith, h, twice) in
    let more : m + suc n ≡ suc (m + n) = omega arith in
    ap (λ k. digits_by k (high * 2 ^ suc n + low) 0) more
    ∙ ap (λ x. digits_by (m + n) x 0 ++ digit_by ((high * 2 ^ suc n + low) % 2) 0 ∷ []) above
    ∙ ap (λ x. digits_by (m + n) (high * 2 ^ n + low / 2) 0 ++ digit_by x 0 ∷ []) last
    ∙ ap (λ ds. ds ++ digit_by (low % 2) 0 ∷ []) (digits_by-add m n high (low / 2) less)
    ∙ append_assoc (digits_by m high 0) (digits_by n (low / 2) 0) (digit_by (low % 2) 0 ∷ [])

-- it has room in the digits of both
both_below : (m n high low : ℕ) → high < 2 ^ m → low < 2 ^ n → high * 2 ^ n + low < 2 ^ (m + n)
both_below m n high low h l = rw (pow-add 2 m n) (below (2 ^ m) (2 ^ n) h l)
  where
    below : (x y : ℕ) → high < x → low < y → high * y + low < x * y
    below x y h l =
        let whole : suc high * y ≤ x * y = mul-le-mul_right y h in
        let first : suc high * y ≡ high * y + y = grind arith in
        omega (arith, whole, first, l)

pub written-append : (xs ys : List ℕ) (high low : ℕ) → IsWritten xs high → IsWritten ys low → IsWritten (xs ++ ys) (high * 2 ^ length ys + low)
written-append xs ys high low h l =
    let long : length (xs ++ ys) ≡ length xs + length ys = length-append xs ys in
    record {
      below = rw long (both_below (length xs) (length ys) high low h.below l.below);
      reads =
          digits-append xs ys (digits_by (length xs) high 0) h.reads
          ∙ ap (with_front (digits_by (length xs) high 0)) l.reads
          ∙ ap Some (sym (digits_by-add (length xs) (length ys) high low l.below))
          ∙ ap (λ n. Some (digits_by n (high * 2 ^ length ys + low) 0)) (sym long);
    }

-- likewise where the first part is shifted in 64 bits
pub written-shifted : (bytes xs ys : List ℕ) (i high low : ℕ) → xs ≡ take i bytes → ys ≡ drop i bytes → length bytes ≤ 64 → IsWritten xs high → IsWritten ys low → IsWritten bytes (high * 2 ^ length ys % 2 ^ 64 + low)
written-shifted bytes xs ys i high low e f few h l =
    let parts : xs ++ ys ≡ bytes = ap (λ b. b ++ ys) e ∙ ap (λ b. take i bytes ++ b) f ∙ take-append-drop i bytes in
    let whole : IsWritten bytes (high * 2 ^ length ys + low) = subst (λ b. IsWritten b (high * 2 ^ length ys + low)) parts (written-append xs ys high low h l) in
    let room : high * 2 ^ length ys < 2 ^ 64 = omega (arith, whole.below, pow_mono few) in
    subst (λ n. IsWritten bytes (n + low)) (sym (mod-eq_of_lt room)) whole

-- ---- bytes

pub written-none : IsWritten [] 0
written-none = record { below = omega arith; reads = refl }

written-one : (byte : ℕ) → 48 ≤ byte → byte ≤ 49 → IsWritten (byte ∷ []) (byte - 48)
written-one byte h k = record {
  below = omega (arith, h, k);
  reads = ap (λ d. with_digit d (Some [])) (digit-binary byte h k) ∙ ap (λ n. Some (digit_by n 0 ∷ [])) (sym (mod-eq_of_lt (omega (arith, h, k))));
}

is_low : (byte : ℕ) → (nat_le 48 byte && nat_le byte 49) ≡ true → 48 ≤ byte
is_low byte e = grind (arith, nat_tests)

is_high : (byte : ℕ) → (nat_le 48 byte && nat_le byte 49) ≡ true → byte ≤ 49
is_high byte e = grind (arith, nat_tests)

-- what the first bytes write has room in as many digits
pub written-small : (bytes : List ℕ) (i n k : ℕ) → i ≤ length bytes → i ≤ k → IsWritten (take i bytes) n → n < 2 ^ k
written-small bytes i n k h l w =
    let long : length (take i bytes) ≡ i = length-take-le i bytes h in
    let below : n < 2 ^ i = subst (λ m. n < 2 ^ m) long w.below in
    omega (arith, below, pow_mono l)

-- a byte more
pub written-byte : (bytes : List ℕ) (i n bit : ℕ) → i < length bytes → (nat_le 48 (get_or bytes i 0) && nat_le (get_or bytes i 0) 49) ≡ true → bit ≡ get_or bytes i 0 - 48
    → IsWritten (take i bytes) n → IsWritten (take (i + 1) bytes) (n * 2 + bit)
written-byte bytes i n bit h test is w =
    let byte = get_or bytes i 0 in
    let one : take 1 (drop i bytes) ≡ byte ∷ [] = ap (take 1) (drop-cons bytes i 0 h) in
    let split : take (i + 1) bytes ≡ take i bytes ++ byte ∷ [] = take-add i 1 bytes ∙ ap (λ xs. take i bytes ++ xs) one in
    rw (split, is) (written-append (take i bytes) (byte ∷ []) n (byte - 48) w (written-one byte (is_low byte test) (is_high byte test)))

-- a turn more
pub written-turn : (bytes : List ℕ) (i n turn : ℕ) → i + 8 ≤ length bytes → IsWritten (take i bytes) n → IsWritten (slice_range bytes i (i + 8)) turn
    → IsWritten (take (i + 8) bytes) (n * 256 + turn)
written-turn bytes i n turn h w t =
    let eight : i + 8 - i ≡ 8 = omega arith in
    let same : slice_range bytes i (i + 8) ≡ take 8 (drop i bytes) = ap (λ k. take k (drop i bytes)) eight in
    let split : take (i + 8) bytes ≡ take i bytes ++ take 8 (drop i bytes) = take-add i 8 bytes in
    let rest : length (drop i bytes) ≡ length bytes - i = length-drop i bytes in
    let long : length (take 8 (drop i bytes)) ≡ 8 = length-take-le 8 (drop i bytes) (omega (arith, rest, h)) in
    rw split (subst (λ k. IsWritten (take i bytes ++ take 8 (drop i bytes)) (n * 2 ^ k + turn)) long
    (written-append (take i bytes) (take 8 (drop i bytes)) n turn w (subst (λ xs. IsWritten xs turn) same t)))

-- ---- the lanes of a turn, the last byte first

text_of : List ℕ → List ℕ
text_of [] = []
text_of (x ∷ xs) = text_of xs ++ x ∷ []

zero_mask : (m : Bool) (n : ℕ) → cond m 1 0 + 2 * n ≡ 0 → (m ≡ false) × (n ≡ 0)
zero_mask true n e = absurd (omega (arith, e))
zero_mask false n e = (refl, omega (arith, e))

written-lanes : (xs : List ℕ) → mask_l (map (λ x. nat_lt x 48) xs) ≡ 0 → mask_l (map (λ x. nat_lt 49 x) xs) ≡ 0 → IsWritten (text_of xs) (mask_l (map (λ x. nat_eq x 49) xs))
unfolding text_of
written-lanes [] below above = written-none
written-lanes (x ∷ xs) below above =
    let b = zero_mask (nat_lt x 48) (mask_l (map (λ y. nat_lt y 48) xs)) below in
    let a = zero_mask (nat_lt 49 x) (mask_l (map (λ y. nat_lt 49 y) xs)) above in
    let low : 48 ≤ x = not_less x 48 b.0 in
    let high : x ≤ 49 = not_less 49 x a.0 in
    let n = mask_l (map (λ y. nat_eq y 49) xs) in
    let value : cond (nat_eq x 49) 1 0 + 2 * n ≡ n * 2 + (x - 48) = omega (arith, bit x low high) in
    rw value (written-append (text_of xs) (x ∷ []) n (x - 48) (written-lanes xs b.1 a.1) (written-one x low high))
  where
    not_less : (n m : ℕ) → nat_lt n m ≡ false → m ≤ n
    not_less n m e = grind (arith, nat_tests)

    bit : (x : ℕ) → 48 ≤ x → x ≤ 49 → cond (nat_eq x 49) 1 0 ≡ x - 48
    bit x h k = grind (arith, nat_tests)

abbrev pub lanes_of : List ℕ → List ℕ
lanes_of bytes = get_or bytes 7 0 ∷ get_or bytes 6 0 ∷ get_or bytes 5 0 ∷ get_or bytes 4 0 ∷ get_or bytes 3 0 ∷ get_or bytes 2 0 ∷ get_or bytes 1 0 ∷ get_or bytes 0 0 ∷ []

eight : (bytes : List ℕ) → length bytes ≡ 8 → bytes ≡ text_of (lanes_of bytes)
unfolding text_of
eight bytes l =
    next 0 (omega (arith, l)) ∙ ap (λ t. get_or bytes 0 0 ∷ t) (
    next 1 (omega (arith, l)) ∙ ap (λ t. get_or bytes 1 0 ∷ t) (
    next 2 (omega (arith, l)) ∙ ap (λ t. get_or bytes 2 0 ∷ t) (
    next 3 (omega (arith, l)) ∙ ap (λ t. get_or bytes 3 0 ∷ t) (
    next 4 (omega (arith, l)) ∙ ap (λ t. get_or bytes 4 0 ∷ t) (
    next 5 (omega (arith, l)) ∙ ap (λ t. get_or bytes 5 0 ∷ t) (
    next 6 (omega (arith, l)) ∙ ap (λ t. get_or bytes 6 0 ∷ t) (
    next 7 (omega (arith, l)) ∙ ap (λ t. get_or bytes 7 0 ∷ t) (
    drop_all 8 bytes (omega (arith, l))))))))))
  where
    next : (i : ℕ) → i < length bytes → drop i bytes ≡ get_or bytes i 0 ∷ drop (suc i) bytes
    next i h = drop-cons bytes i 0 h

pub written-eight : (bytes : List ℕ) → length bytes ≡ 8 → mask_l (map (λ x. nat_lt x 48) (lanes_of bytes)) ≡ 0 → mask_l (map (λ x. nat_lt 49 x) (lanes_of bytes)) ≡ 0
    → IsWritten bytes (mask_l (map (λ x. nat_eq x 49) (lanes_of bytes)))
written-eight bytes l below above =
    subst (λ xs. IsWritten xs (mask_l (map (λ x. nat_eq x 49) (lanes_of bytes)))) (sym (eight bytes l)) (written-lanes (lanes_of bytes) below above)
