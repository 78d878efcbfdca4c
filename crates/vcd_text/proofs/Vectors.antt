-- Digits as two numbers.
use Rattle.std.proofs.Common.{◌≡◌, ◌+◌, ◌-◌, ◌*◌, ◌/◌, ◌%◌, ◌^◌, ◌<◌, ◌≤◌, ℕ, zero, suc, List, [], ◌∷◌, ◌++◌, length, get_or, Some, refl, sym, ap, ◌∙◌, arith, ◌⊎◌, inl, inr, take}
use Rattle.std.specs.List.{slice_get}
use Rattle.std.proofs.Math.Nat.{pow-succ'}
use Rattle.std.proofs.Math.Seq.{take-append_seam}
use Rattle.std.proofs.lemmas.Bool.{cases_lt}
use Rattle.std.proofs.lemmas.Bool.Decides.{nat_tests}
use Rattle.std.proofs.lemmas.List.{append_cancel_left, length-append, get_or-append_right, get_or_append_left}
use Rattle.std.proofs.lemmas.Nat.{shr-shr}
use Rattle.std.proofs.lemmas.Option.{slice_get-get_or}
use Rattle.vcd_text.specs.declared.digit.Digit.{Digit}
use Rattle.vcd_text.specs.declared.digit.Digit.TheVariants.{Zero, One, X, Z}
use Rattle.vcd_text.specs.Words.{digit}
use Rattle.vcd_text.specs.Vectors.{digit_by, digits_by, aval_of, bval_of, IsBinary}

pub length-digits_by : (count a b : ℕ) → length (digits_by count a b) ≡ count
length-digits_by zero a b = refl
length-digits_by (suc count) a b =
    let front = digits_by count (a / 2) (b / 2) in
    let all : length (front ++ digit_by (a % 2) (b % 2) ∷ []) ≡ length front + 1 = length-append front (digit_by (a % 2) (b % 2) ∷ []) in
    omega (arith, all, length-digits_by count (a / 2) (b / 2))

-- one digit more
pub digits_by-push : (count a b x y : ℕ) → x < 2 → y < 2 → digits_by (suc count) (a * 2 + x) (b * 2 + y) ≡ digits_by count a b ++ digit_by x y ∷ []
digits_by-push count a b x y h k =
    let a_above : (a * 2 + x) / 2 ≡ a = omega (arith, h) in
    let b_above : (b * 2 + y) / 2 ≡ b = omega (arith, k) in
    let a_last : (a * 2 + x) % 2 ≡ x = omega (arith, h) in
    let b_last : (b * 2 + y) % 2 ≡ y = omega (arith, k) in
    rw (a_above, b_above, a_last, b_last) refl

pub digit_by-of : (d : Digit) → digit_by (aval_of d) (bval_of d) ≡ d
digit_by-of Zero = refl
digit_by-of One = refl
digit_by-of X = refl
digit_by-of Z = refl

pub aval_small : (d : Digit) → aval_of d < 2
aval_small Zero = omega arith
aval_small One = omega arith
aval_small X = omega arith
aval_small Z = omega arith

pub bval_small : (d : Digit) → bval_of d < 2
bval_small Zero = omega arith
bval_small One = omega arith
bval_small X = omega arith
bval_small Z = omega arith

-- the bit at a place above the last
bit_above : (a count i : ℕ) → i < count → a / 2 / 2 ^ (count - 1 - i) ≡ a / 2 ^ (suc count - 1 - i)
bit_above a count i h =
    let place : 1 + (count - 1 - i) ≡ suc count - 1 - i = omega (arith, h) in
    shr-shr a 1 (count - 1 - i) ∙ ap (λ k. a / 2 ^ k) place

bit_last : (a count i : ℕ) → suc count - 1 - i ≡ 0 → a ≡ a / 2 ^ (suc count - 1 - i)
bit_last a count i e = rw e (omega arith)

-- the digit at a place, from the one above the last, or the last
digit_at_place : (count a b i : ℕ) (d : Digit) → i < suc count
    → (i < count → get_or (digits_by count (a / 2) (b / 2)) i d ≡ digit_by (a / 2 / 2 ^ (count - 1 - i) % 2) (b / 2 / 2 ^ (count - 1 - i) % 2))
    → (i < count) ⊎ (count ≤ i)
    → get_or (digits_by (suc count) a b) i d ≡ digit_by (a / 2 ^ (suc count - 1 - i) % 2) (b / 2 ^ (suc count - 1 - i) % 2)
digit_at_place count a b i d h above (inl k) =
    let front = digits_by count (a / 2) (b / 2) in
    let last = digit_by (a % 2) (b % 2) ∷ [] in
    get_or_append_left front last d i (rw (length-digits_by count (a / 2) (b / 2)) k) ∙ above k
    ∙ ap (λ x. digit_by (x % 2) (b / 2 / 2 ^ (count - 1 - i) % 2)) (bit_above a count i k)
    ∙ ap (λ x. digit_by (a / 2 ^ (suc count - 1 - i) % 2) (x % 2)) (bit_above b count i k)
digit_at_place count a b i d h above (inr k) =
    let front = digits_by count (a / 2) (b / 2) in
    let last = digit_by (a % 2) (b % 2) ∷ [] in
    let none : suc count - 1 - i ≡ 0 = omega (arith, h, k) in
    let first : i - count ≡ 0 = omega (arith, h, k) in
    get_or-append_right front last count i d (length-digits_by count (a / 2) (b / 2)) k
    ∙ ap (λ j. get_or last j d) first
    ∙ ap (λ x. digit_by (x % 2) (b % 2)) (bit_last a count i none)
    ∙ ap (λ x. digit_by (a / 2 ^ (suc count - 1 - i) % 2) (x % 2)) (bit_last b count i none)

get-digits_by : (count a b i : ℕ) (d : Digit) → i < count → get_or (digits_by count a b) i d ≡ digit_by (a / 2 ^ (count - 1 - i) % 2) (b / 2 ^ (count - 1 - i) % 2)
get-digits_by zero a b i d h = absurd (omega (arith, h))
get-digits_by (suc count) a b i d h = digit_at_place count a b i d h (get-digits_by count (a / 2) (b / 2) i d) (cases_lt i count)

pub slice_get-digits_by : (count a b i : ℕ) → i < count → slice_get (digits_by count a b) i ≡ Some (digit_by (a / 2 ^ (count - 1 - i) % 2) (b / 2 ^ (count - 1 - i) % 2))
slice_get-digits_by count a b i h =
    slice_get-get_or (digits_by count a b) i Zero (rw (length-digits_by count a b) h) ∙ ap Some (get-digits_by count a b i Zero h)

-- ---- binary digits of a text

pub digit-binary : (byte : ℕ) → 48 ≤ byte → byte ≤ 49 → digit byte ≡ Some (digit_by (byte - 48) 0)
digit-binary byte h k = grind (arith, nat_tests)

pub binary_is : (count a b : ℕ) → b ≡ 0 → 0 < count → a < 2 ^ count → IsBinary (digits_by count a b) a
binary_is count a b e h k =
    let count_is : length (digits_by count a b) ≡ count = length-digits_by count a b in
    record {
      same = ap (digits_by count a) e ∙ ap (λ n. digits_by n a 0) (sym count_is);
      below = rw count_is k;
      some = rw count_is h;
    }

-- ---- digits that are no binary number

bval_of-by : (a b : ℕ) → b < 2 → bval_of (digit_by a b) ≡ b
bval_of-by a b h = grind (arith, nat_tests)

-- what stands before the last digit, and the last digit
same_front : (xs ys : List Digit) (d e : Digit) → length xs ≡ length ys → xs ++ d ∷ [] ≡ ys ++ e ∷ [] → xs ≡ ys
same_front xs ys d e k h =
    sym (take-append_seam xs (d ∷ [])) ∙ ap (take (length xs)) h ∙ ap (λ n. take n (ys ++ e ∷ [])) k ∙ take-append_seam ys (e ∷ [])

same_last : (xs ys : List Digit) (d e : Digit) → length xs ≡ length ys → xs ++ d ∷ [] ≡ ys ++ e ∷ [] → d ≡ e
same_last xs ys d e k h =
    let ends : d ∷ [] ≡ e ∷ [] = append_cancel_left ys (d ∷ []) (e ∷ []) (ap (λ zs. zs ++ d ∷ []) (sym (same_front xs ys d e k h)) ∙ h) in
    ap (λ ds. get_or ds 0 Zero) ends

-- digits none of which is x or z
digits_by-high : (count a b n : ℕ) → b < 2 ^ count → digits_by count a b ≡ digits_by count n 0 → b ≡ 0
digits_by-high zero a b n h e = omega (arith, h)
digits_by-high (suc count) a b n h e =
    let fronts : length (digits_by count (a / 2) (b / 2)) ≡ length (digits_by count (n / 2) 0) = length-digits_by count (a / 2) (b / 2) ∙ sym (length-digits_by count (n / 2) 0) in
    let twice : 2 ^ suc count ≡ 2 * 2 ^ count = pow-succ' 2 count in
    let front : b / 2 ≡ 0 =
    digits_by-high count (a / 2) (b / 2) (n / 2) (omega (arith, h, twice))
    (same_front (digits_by count (a / 2) (b / 2)) (digits_by count (n / 2) 0) (digit_by (a % 2) (b % 2)) (digit_by (n % 2) 0) fronts e) in
    let last : digit_by (a % 2) (b % 2) ≡ digit_by (n % 2) 0 =
    same_last (digits_by count (a / 2) (b / 2)) (digits_by count (n / 2) 0) (digit_by (a % 2) (b % 2)) (digit_by (n % 2) 0) fronts e in
    let even : b % 2 ≡ 0 = sym (bval_of-by (a % 2) (b % 2) (omega arith)) ∙ ap bval_of last ∙ bval_of-by (n % 2) 0 (omega arith) in
    omega (arith, front, even)

-- where they are a binary number, they are some and none of them is x or z
pub binary_known : (count a b n : ℕ) → b < 2 ^ count → IsBinary (digits_by count a b) n → (b ≡ 0) × (0 < count)
binary_known count a b n h is =
    let count_is : length (digits_by count a b) ≡ count = length-digits_by count a b in
    (digits_by-high count a b n h (is.same ∙ ap (λ k. digits_by k n 0) count_is), omega (arith, is.some, count_is))
