-- The digits that are written for a number say that number.
use Rattle.std.proofs.Common.{◌≡◌, ◌+◌, ◌*◌, ◌/◌, ◌%◌, ◌^◌, ◌<◌, ◌==◌, ℕ, zero, suc, Bool, true, false, cond, List, [], ◌∷◌, map, length, get_or, refl, sym, ap, ◌∙◌, arith, lit≤, add-one, reverse}
use Rattle.std.specs.Int.Digits.{digits_of}
use Rattle.std.proofs.Math.Nat.{pow-succ'}
use Rattle.std.proofs.lemmas.Bool.Decides.{nat_tests}
use Rattle.std.proofs.lemmas.Bool.{eqb-true}
use Rattle.std.proofs.lemmas.List.{map-append, reverse-append}
use Rattle.std.proofs.lemmas.Int.Digits.{digits_of_step}
use Rattle.xif_signals.specs.Quad.{known_quad}
use Rattle.vcd_text.specs.declared.digit.Digit.{Digit}
use Rattle.vcd_text.specs.declared.digit.Digit.TheVariants.{Zero, One}
use Rattle.vcd_text.specs.Written.{bits, bit_digit}
use Rattle.vcd_text.proofs.Numerals.{some_digits}
use Rattle.xif_sampler.specs.Digits.{filler, digit_at, value_bit_of, unknown_bit_of, bits_from, quad_from}

-- ---- the digits of a number, the last one first, and Zero behind them

abbrev place : ℕ → ℕ → Digit
place v i = get_or (reverse (map bit_digit (digits_of 2 v))) i Zero

front : (v : ℕ) → 0 < v → reverse (map bit_digit (digits_of 2 v)) ≡ bit_digit (v % 2) ∷ reverse (map bit_digit (digits_of 2 (v / 2)))
front v h =
    ap (λ ds. reverse (map bit_digit ds)) (digits_of_step 2 v (lit≤ tt) h)
    ∙ ap reverse (map-append bit_digit (digits_of 2 (v / 2)) (v % 2 ∷ []))
    ∙ reverse-append (map bit_digit (digits_of 2 (v / 2))) (bit_digit (v % 2) ∷ [])

record Places (v : ℕ) : Type 0 where
  pub here : place v 0 ≡ bit_digit (v % 2)
  pub next : (i : ℕ) → place v (suc i) ≡ place (v / 2) i

places : (v : ℕ) → Places v
places zero = record { here = refl; next = λ i. refl }
places (suc n) =
    let e = front (suc n) (omega arith) in
    record { here = ap (λ ds. get_or ds 0 Zero) e; next = λ i. ap (λ ds. get_or ds (suc i) Zero) e }

-- ---- the digits as they are read

zero_or_one : (x : Bool) (ds : List Digit) → filler (cond x Zero One ∷ ds) ≡ Zero
zero_or_one true ds = refl
zero_or_one false ds = refl

filled : (ds : List ℕ) → 0 < length ds → filler (map bit_digit ds) ≡ Zero
filled [] h = absurd (omega arith)
filled (d ∷ ds) h = zero_or_one (d == 0) (map bit_digit ds)

only_zero : (i : ℕ) → get_or (Zero ∷ []) i Zero ≡ Zero
only_zero zero = refl
only_zero (suc i) = refl

digit_by : (v i : ℕ) (x : Bool) → (v == 0) ≡ x → digit_at (bits v) i ≡ place v i
digit_by v i true e = rw e (only_zero i ∙ ap (λ n. place n i) (sym (eqb-true v 0 e)))
digit_by v i false e =
    rw e (ap (λ d. get_or (reverse (map bit_digit (digits_of 2 v))) i d) (filled (digits_of 2 v) (some_digits 2 v (lit≤ tt) (grind (arith, nat_tests)))))

digit_is : (v i : ℕ) → digit_at (bits v) i ≡ place v i
digit_is v i = digit_by v i (v == 0) refl

-- ---- the number that bits make

number_from : (ℕ → ℕ) → ℕ → ℕ → ℕ
number_from g low zero = 0
number_from g low (suc w) = g low + 2 * number_from g (low + 1) w

bits_are : (bit : Digit → ℕ) (ds : List Digit) (g : ℕ → ℕ) → ((i : ℕ) → bit (digit_at ds i) ≡ g i) → (low w : ℕ) → bits_from bit ds low w ≡ number_from g low w
unfolding number_from
bits_are bit ds g e low zero = refl
bits_are bit ds g e low (suc w) = ap (λ n. n + 2 * bits_from bit ds (low + 1) w) (e low) ∙ ap (λ n. g low + 2 * n) (bits_are bit ds g e (low + 1) w)

shifted : (g h : ℕ → ℕ) → ((i : ℕ) → g (suc i) ≡ h i) → (low w : ℕ) → number_from g (low + 1) w ≡ number_from h low w
unfolding number_from
shifted g h e low zero = refl
shifted g h e low (suc w) = ap (λ n. n + 2 * number_from g (low + 1 + 1) w) (ap g (add-one low) ∙ e low) ∙ ap (λ n. h low + 2 * n) (shifted g h e (low + 1) w)

none : (g : ℕ → ℕ) → ((i : ℕ) → g i ≡ 0) → (low w : ℕ) → number_from g low w ≡ 0
unfolding number_from
none g e low zero = refl
none g e low (suc w) = ap (λ n. n + 2 * number_from g (low + 1) w) (e low) ∙ ap (λ n. 0 + 2 * n) (none g e (low + 1) w)

bit_value : (b : ℕ) → b < 2 → value_bit_of (bit_digit b) ≡ b
bit_value zero h = refl
bit_value (suc zero) h = refl
bit_value (suc (suc b)) h = absurd (omega arith)

halved : (v w : ℕ) → v < 2 ^ suc w → v / 2 < 2 ^ w
halved v w h = let e : 2 ^ suc w ≡ 2 * 2 ^ w = pow-succ' 2 w in omega arith

whole : (v w : ℕ) → v < 2 ^ w → number_from (λ i. value_bit_of (place v i)) 0 w ≡ v
unfolding number_from
whole v zero h = omega arith
whole v (suc w) h =
    let p = places v in
    let g : ℕ → ℕ = λ i. value_bit_of (place v i) in
    let low : value_bit_of (place v 0) ≡ v % 2 = ap value_bit_of p.here ∙ bit_value (v % 2) (omega arith) in
    let rest : number_from g (0 + 1) w ≡ v / 2 = shifted g (λ i. value_bit_of (place (v / 2) i)) (λ i. ap value_bit_of (p.next i)) 0 w ∙ whole (v / 2) w (halved v w h) in
    ap (λ n. n + 2 * number_from g (0 + 1) w) low ∙ ap (λ n. v % 2 + 2 * n) rest ∙ (omega arith)

known_by : (x : Bool) → unknown_bit_of (cond x Zero One) ≡ 0
known_by true = refl
known_by false = refl

known_digit : (b : ℕ) → unknown_bit_of (bit_digit b) ≡ 0
known_digit b = known_by (b == 0)

known_place : (v i : ℕ) → unknown_bit_of (place v i) ≡ 0
known_place v zero = ap unknown_bit_of (places v).here ∙ known_digit (v % 2)
known_place v (suc i) = ap unknown_bit_of ((places v).next i) ∙ known_place (v / 2) i

-- what a signal of some bits has behind a change to a number
pub quad_bits : (v w : ℕ) → v < 2 ^ w → quad_from (bits v) 0 w ≡ known_quad v
quad_bits v w h =
    let value : bits_from value_bit_of (bits v) 0 w ≡ v = bits_are value_bit_of (bits v) (λ i. value_bit_of (place v i)) (λ i. ap value_bit_of (digit_is v i)) 0 w ∙ whole v w h in
    let unknown : bits_from unknown_bit_of (bits v) 0 w ≡ 0 = bits_are unknown_bit_of (bits v) (λ i. unknown_bit_of (place v i)) (λ i. ap unknown_bit_of (digit_is v i)) 0 w ∙ none (λ i. unknown_bit_of (place v i)) (known_place v) 0 w in
    λ i. record { value = value i; unknown = unknown i }
