-- The bits of a value: those of its own digits, and those that it is extended by.
use Rattle.std.proofs.Common.{◌≡◌, ◌+◌, ◌-◌, ◌*◌, ◌^◌, ◌<◌, ◌≤◌, ℕ, zero, suc, List, [], ◌∷◌, length, reverse, get_or, refl, sym, ap, ◌∙◌, arith, add-zero, zero-add, lit<}
use Rattle.std.proofs.Math.Nat.{pow-succ', mul-sub, mul_assoc, mul_left_comm, mul-one, mul-zero}
use Rattle.std.proofs.Math.Pow.{pow_mono}
use Rattle.std.proofs.lemmas.Nat.{pow_pos, pow-add}
use Rattle.std.proofs.lemmas.List.{get_or-reverse, get_or_default, get_or_past, length-reverse}
use Rattle.vcd_text.specs.declared.digit.Digit.{Digit}
use Rattle.vcd_text.specs.declared.digit.Digit.TheVariants.{Zero, One, X, Z}
use Rattle.xif_sampler.specs.Digits.{filler, digit_at, value_bit_of, unknown_bit_of, bits_from}

-- the digits of a list, counted from its end
pub digit_back : (ds : List Digit) (i : ℕ) (d : Digit) → i < length ds → digit_at ds (length ds - 1 - i) ≡ get_or ds i d
digit_back ds i d h =
    let k = length ds - 1 - i in
    let inside : k < length ds = omega arith in
    let back : length ds - 1 - k ≡ i = omega arith in
    get_or-reverse ds k (filler ds) inside ∙ ap (λ j. get_or ds j (filler ds)) back ∙ get_or_default ds i (filler ds) d h

-- past the first digit
pub digit_past : (ds : List Digit) (i : ℕ) → length ds ≤ i → digit_at ds i ≡ filler ds
digit_past ds i h = get_or_past (reverse ds) i (filler ds) (rw length-reverse h)

pub value_small : (d : Digit) → value_bit_of d ≤ 1
value_small Zero = omega arith
value_small One = omega arith
value_small X = omega arith
value_small Z = omega arith

pub unknown_small : (d : Digit) → unknown_bit_of d ≤ 1
unknown_small Zero = omega arith
unknown_small One = omega arith
unknown_small X = omega arith
unknown_small Z = omega arith

-- what extends a value is no 1
pub filler_no_one : (ds : List Digit) → value_bit_of (filler ds) ≡ 0
filler_no_one [] = refl
filler_no_one (Zero ∷ ds) = refl
filler_no_one (One ∷ ds) = refl
filler_no_one (X ∷ ds) = refl
filler_no_one (Z ∷ ds) = refl

pub bits_below : (f : Digit → ℕ) (ds : List Digit) (low n : ℕ) → ((d : Digit) → f d ≤ 1) → bits_from f ds low n < 2 ^ n
bits_below f ds low zero b = lit< tt
bits_below f ds low (suc n) b =
    let first : f (digit_at ds low) ≤ 1 = b (digit_at ds low) in
    let rest : bits_from f ds (low + 1) n < 2 ^ n = bits_below f ds (low + 1) n b in
    let twice : 2 ^ suc n ≡ 2 * 2 ^ n = pow-succ' 2 n in
    omega (arith, first, rest, twice)

-- with room for one bit more
pub bits_double : (f : Digit → ℕ) (ds : List Digit) (low n : ℕ) → ((d : Digit) → f d ≤ 1) → n < 64 → bits_from f ds low n * 2 + 1 < 2 ^ 64
bits_double f ds low n b h =
    let below : bits_from f ds low n < 2 ^ n = bits_below f ds low n b in
    let n_small : n ≤ 63 = omega arith in
    let room : 2 ^ n ≤ 2 ^ 63 = pow_mono n_small in
    omega (arith, below, room)

-- one digit more at the right
pub bits_more : (f : Digit → ℕ) (ds : List Digit) (index n : ℕ) (d : Digit) → index < length ds
    → bits_from f ds (length ds - (index + 1)) (suc n) ≡ bits_from f ds (length ds - index) n * 2 + f (get_or ds index d)
bits_more f ds index n d h =
    let low : length ds - (index + 1) ≡ length ds - 1 - index = omega arith in
    let next : length ds - (index + 1) + 1 ≡ length ds - index = omega arith in
    let here : digit_at ds (length ds - (index + 1)) ≡ get_or ds index d = ap (digit_at ds) low ∙ digit_back ds index d h in
    let first : f (digit_at ds (length ds - (index + 1))) ≡ f (get_or ds index d) = ap f here in
    let rest : bits_from f ds (length ds - (index + 1) + 1) n ≡ bits_from f ds (length ds - index) n = ap (λ l. bits_from f ds l n) next in
    omega (arith, first, rest)

-- the digits from start to index, and the one at index
pub bits_on : (f : Digit → ℕ) (ds : List Digit) (start index : ℕ) (d : Digit) → start ≤ index → index < length ds
    → bits_from f ds (length ds - (index + 1)) (index + 1 - start) ≡ bits_from f ds (length ds - index) (index - start) * 2 + f (get_or ds index d)
bits_on f ds start index d h k =
    let count : index + 1 - start ≡ suc (index - start) = omega arith in
    rw count (bits_more f ds index (index - start) d k)

-- two runs of bits
pub bits_split : (f : Digit → ℕ) (ds : List Digit) (low n m : ℕ) → bits_from f ds low (n + m) ≡ bits_from f ds low n + 2 ^ n * bits_from f ds (low + n) m
bits_split f ds low zero m =
    let same : bits_from f ds (low + 0) m ≡ bits_from f ds low m = ap (λ l. bits_from f ds l m) (add-zero low) in
    let all : bits_from f ds low (0 + m) ≡ bits_from f ds low m = ap (bits_from f ds low) (zero-add m) in
    omega (arith, same, all)
bits_split f ds low (suc n) m =
    let count : suc n + m ≡ suc (n + m) = omega arith in
    let above = bits_from f ds (low + suc n) m in
    let place : low + 1 + n ≡ low + suc n = omega arith in
    let rest : bits_from f ds (low + 1) (n + m) ≡ bits_from f ds (low + 1) n + 2 ^ n * above =
    bits_split f ds (low + 1) n m ∙ ap (λ l. bits_from f ds (low + 1) n + 2 ^ n * bits_from f ds l m) place in
    let twice : 2 ^ suc n * above ≡ 2 * (2 ^ n * above) = ap (λ k. k * above) (pow-succ' 2 n) ∙ mul_assoc 2 (2 ^ n) above in
    rw count (omega (arith, rest, twice))

-- a run of bits past the first digit
pub bits_past : (f : Digit → ℕ) (ds : List Digit) (low m : ℕ) → length ds ≤ low → bits_from f ds low m ≡ f (filler ds) * (2 ^ m - 1)
bits_past f ds low zero h = omega arith
bits_past f ds low (suc m) h =
    let first : f (digit_at ds low) ≡ f (filler ds) = ap f (digit_past ds low h) in
    let rest : bits_from f ds (low + 1) m ≡ f (filler ds) * (2 ^ m - 1) = bits_past f ds (low + 1) m (omega arith) in
    let twice : 2 ^ suc m ≡ 2 * 2 ^ m = pow-succ' 2 m in
    let some : 0 < 2 ^ m = pow_pos m in
    let ones : 2 ^ suc m - 1 ≡ 1 + 2 * (2 ^ m - 1) = omega (arith, twice, some) in
    let product : f (filler ds) * (1 + 2 * (2 ^ m - 1)) ≡ f (filler ds) + 2 * (f (filler ds) * (2 ^ m - 1)) = grind arith in
    ap (λ n. n + 2 * bits_from f ds (low + 1) m) first ∙ omega (arith, rest, product, ap (λ n. f (filler ds) * n) ones)

-- the last digit that a signal takes is at its lowest bit
from_low : (f : Digit → ℕ) (ds : List Digit) (low end n : ℕ) → end ≡ length ds - low → n ≤ end → bits_from f ds low n ≡ bits_from f ds (length ds - end) n
from_low f ds low end zero e h = refl
from_low f ds low end (suc n) e h =
    let place : low ≡ length ds - end = omega arith in
    ap (λ l. bits_from f ds l (suc n)) place

powers : (x n m : ℕ) → 2 ^ n * (x * (2 ^ m - 1)) ≡ x * (2 ^ (n + m) - 2 ^ n)
powers x n m =
    let joined : 2 ^ (n + m) ≡ 2 ^ n * 2 ^ m = pow-add 2 n m in
    let some : 0 < 2 ^ m = pow_pos m in
    let less : 2 ^ n * (2 ^ m - 1) ≡ 2 ^ n * 2 ^ m - 2 ^ n = mul-sub (2 ^ n) (2 ^ m) 1 ∙ ap (λ k. 2 ^ n * 2 ^ m - k) (mul-one (2 ^ n)) in
    mul_left_comm (2 ^ n) x (2 ^ m - 1) ∙ ap (λ k. x * k) (less ∙ ap (λ k. k - 2 ^ n) (sym joined))

-- what is above the digits
above : (f : Digit → ℕ) (ds : List Digit) (low n m : ℕ) → (0 < m → length ds ≤ low + n) → 2 ^ n * bits_from f ds (low + n) m ≡ f (filler ds) * (2 ^ (n + m) - 2 ^ n)
above f ds low n zero h =
    let count : 2 ^ (n + 0) ≡ 2 ^ n = ap (λ k. 2 ^ k) (add-zero n) in
    let none : 2 ^ (n + 0) - 2 ^ n ≡ 0 = omega (arith, count) in
    mul-zero (2 ^ n) ∙ sym (ap (λ k. f (filler ds) * k) none ∙ mul-zero (f (filler ds)))
above f ds low n (suc m) h =
    let past : bits_from f ds (low + n) (suc m) ≡ f (filler ds) * (2 ^ suc m - 1) = bits_past f ds (low + n) (suc m) (h (omega arith)) in
    ap (λ k. 2 ^ n * k) past ∙ powers (f (filler ds)) n (suc m)

-- The bits that a signal takes: those of the digits from start to end, and above them those of what extends
-- the value.
pub bits_filled : (f : Digit → ℕ) (ds : List Digit) (low width start end : ℕ) → end ≡ length ds - low → start ≡ end - width
    → bits_from f ds low width ≡ bits_from f ds (length ds - end) (end - start) + f (filler ds) * (2 ^ width - 2 ^ (end - start))
bits_filled f ds low width start end e s =
    let n = end - start in
    let m = width - n in
    let count : width ≡ n + m = omega arith in
    ap (bits_from f ds low) count ∙ bits_split f ds low n m
    ∙ ap (λ k. k + 2 ^ n * bits_from f ds (low + n) m) (from_low f ds low end n e (omega arith))
    ∙ ap (λ k. bits_from f ds (length ds - end) n + k) (above f ds low n m (λ h. omega arith))
    ∙ ap (λ k. bits_from f ds (length ds - end) n + f (filler ds) * (2 ^ k - 2 ^ n)) (sym count)

-- what extends a value adds nothing to the number
pub value_filled : (ds : List Digit) (low width start end : ℕ) → end ≡ length ds - low → start ≡ end - width
    → bits_from value_bit_of ds low width ≡ bits_from value_bit_of ds (length ds - end) (end - start)
value_filled ds low width start end e s =
    bits_filled value_bit_of ds low width start end e s
    ∙ ap (λ k. bits_from value_bit_of ds (length ds - end) (end - start) + k * (2 ^ width - 2 ^ (end - start))) (filler_no_one ds)
    ∙ omega arith

pub fits_64 : (f : Digit → ℕ) (ds : List Digit) (low width : ℕ) → ((d : Digit) → f d ≤ 1) → width ≤ 64 → bits_from f ds low width < 2 ^ 64
fits_64 f ds low width b h =
    let below : bits_from f ds low width < 2 ^ width = bits_below f ds low width b in
    let room : 2 ^ width ≤ 2 ^ 64 = pow_mono h in
    omega (arith, below, room)
