-- The bits of a value that is a number in binary.
use Rattle.std.proofs.Common.{◌≡◌, ◌+◌, ◌*◌, ◌/◌, ◌%◌, ◌^◌, ◌<◌, ◌≤◌, ◌==◌, ℕ, zero, suc, Bool, true, false, cond, List, [], ◌∷◌, ◌++◌, reverse, length, get_or, refl, sym, ap, ◌∙◌, arith}
use Rattle.std.proofs.Math.Nat.{pow-succ', mul_left_comm, mod-lt, mod-eq_of_lt, zero-div, div-eq_of_lt}
use Rattle.std.proofs.Math.Pow.{pow_mono}
use Rattle.std.proofs.lemmas.List.{reverse-append}
use Rattle.std.proofs.lemmas.Nat.{pow_pos, shr-shr, shr_split, mod-mul-add}
use Rattle.xif_signals.specs.Quad.{known_quad}
use Rattle.vcd_text.specs.declared.digit.Digit.{Digit}
use Rattle.vcd_text.specs.declared.digit.Digit.TheVariants.{Zero, One, X, Z}
use Rattle.vcd_text.specs.Vectors.{digit_by, digits_by, IsBinary}
use Rattle.vcd_text.proofs.Vectors.{length-digits_by}
use Rattle.xif_sampler.specs.Digits.{filler, digit_at, value_bit_of, unknown_bit_of, bits_from, quad_from}

-- the digits of a number, the last one first
back : (count n : ℕ) → reverse (digits_by (suc count) n 0) ≡ digit_by (n % 2) 0 ∷ reverse (digits_by count (n / 2) 0)
back count n = reverse-append (digits_by count (n / 2) 0) (digit_by (n % 2) 0 ∷ [])

value_of_bit : (b : ℕ) → b < 2 → value_bit_of (digit_by b 0) ≡ b
value_of_bit zero h = refl
value_of_bit (suc zero) h = refl
value_of_bit (suc (suc b)) h = absurd (omega (arith, h))

known_by : (x : Bool) → unknown_bit_of (cond x Zero One) ≡ 0
known_by true = refl
known_by false = refl

known_bit : (b : ℕ) → unknown_bit_of (digit_by b 0) ≡ 0
known_bit b = known_by (b == 0)

-- the bit of the digit at a place, counted from the last
value_at : (count n i : ℕ) (d : Digit) → value_bit_of d ≡ 0 → n < 2 ^ count → value_bit_of (get_or (reverse (digits_by count n 0)) i d) ≡ n / 2 ^ i % 2
value_at zero n i d e h =
    let none : n ≡ 0 = omega (arith, h) in
    rw none (e ∙ sym (ap (λ k. k % 2) (zero-div (2 ^ i))))
value_at (suc count) n zero d e h =
    ap (λ ds. value_bit_of (get_or ds 0 d)) (back count n) ∙ value_of_bit (n % 2) (omega arith) ∙ omega arith
value_at (suc count) n (suc i) d e h =
    let next : 1 + i ≡ suc i = omega arith in
    let twice : 2 ^ suc count ≡ 2 * 2 ^ count = pow-succ' 2 count in
    ap (λ ds. value_bit_of (get_or ds (suc i) d)) (back count n)
    ∙ value_at count (n / 2) i d e (omega (arith, twice, h))
    ∙ ap (λ k. k % 2) (shr-shr n 1 i ∙ ap (λ k. n / 2 ^ k) next)

unknown_at : (count n i : ℕ) (d : Digit) → unknown_bit_of d ≡ 0 → unknown_bit_of (get_or (reverse (digits_by count n 0)) i d) ≡ 0
unknown_at zero n i d e = e
unknown_at (suc count) n zero d e = ap (λ ds. unknown_bit_of (get_or ds 0 d)) (back count n) ∙ known_bit (n % 2)
unknown_at (suc count) n (suc i) d e = ap (λ ds. unknown_bit_of (get_or ds (suc i) d)) (back count n) ∙ unknown_at count (n / 2) i d e

-- it is extended by 0
filler_front : (xs ys : List Digit) → 0 < length xs → filler (xs ++ ys) ≡ filler xs
filler_front [] ys h = absurd (omega (arith, h))
filler_front (Zero ∷ xs) ys h = refl
filler_front (One ∷ xs) ys h = refl
filler_front (X ∷ xs) ys h = refl
filler_front (Z ∷ xs) ys h = refl

filler_one : (x : Bool) → filler (cond x Zero One ∷ []) ≡ Zero
filler_one true = refl
filler_one false = refl

filler_is : (count n : ℕ) → 0 < count → filler (digits_by count n 0) ≡ Zero
filler_is zero n h = absurd (omega (arith, h))
filler_is (suc zero) n h = filler_one (n % 2 == 0)
filler_is (suc (suc count)) n h =
    filler_front (digits_by (suc count) (n / 2) 0) (digit_by (n % 2) 0 ∷ []) (rw (length-digits_by (suc count) (n / 2) 0) (omega arith))
    ∙ filler_is (suc count) (n / 2) (omega arith)

-- the lowest bits of a number, by its last bit and the others
low_bits : (x w : ℕ) → x % 2 + 2 * (x / 2 % 2 ^ w) ≡ x % 2 ^ suc w
low_bits x w =
    let m = 2 ^ w in
    let q = x / 2 / m in
    let r = x / 2 % m in
    let twice : 2 ^ suc w ≡ 2 * m = pow-succ' 2 w in
    let half : q * m + r ≡ x / 2 = shr_split (x / 2) w in
    let small : r < m = mod-lt (x / 2) (pow_pos w) in
    let product : q * (2 * m) ≡ 2 * (q * m) = mul_left_comm q 2 m in
    let all : q * (2 * m) + (x % 2 + 2 * r) ≡ x = omega (arith, half, product) in
    let below : x % 2 + 2 * r < 2 * m = omega (arith, small) in
    sym (ap (λ k. x % k) twice ∙ ap (λ k. k % (2 * m)) (sym all) ∙ mod-mul-add q (2 * m) (x % 2 + 2 * r) below)

value_from : (ds : List Digit) (n : ℕ) → ((i : ℕ) → value_bit_of (digit_at ds i) ≡ n / 2 ^ i % 2) → (low w : ℕ) → bits_from value_bit_of ds low w ≡ n / 2 ^ low % 2 ^ w
value_from ds n e low zero = omega arith
value_from ds n e low (suc w) =
    let x = n / 2 ^ low in
    let rest : bits_from value_bit_of ds (low + 1) w ≡ x / 2 % 2 ^ w = value_from ds n e (low + 1) w ∙ ap (λ k. k % 2 ^ w) (sym (shr-shr n low 1)) in
    ap (λ k. k + 2 * bits_from value_bit_of ds (low + 1) w) (e low) ∙ ap (λ k. x % 2 + 2 * k) rest ∙ low_bits x w

unknown_from : (ds : List Digit) → ((i : ℕ) → unknown_bit_of (digit_at ds i) ≡ 0) → (low w : ℕ) → bits_from unknown_bit_of ds low w ≡ 0
unknown_from ds e low zero = refl
unknown_from ds e low (suc w) = ap (λ k. k + 2 * bits_from unknown_bit_of ds (low + 1) w) (e low) ∙ ap (λ k. 0 + 2 * k) (unknown_from ds e (low + 1) w)

known_from : (count n low width : ℕ) → 0 < count → n < 2 ^ count → quad_from (digits_by count n 0) low width ≡ known_quad (n / 2 ^ low % 2 ^ width)
known_from count n low width h k =
    let ds = digits_by count n 0 in
    let fills : filler ds ≡ Zero = filler_is count n h in
    let values : (i : ℕ) → value_bit_of (digit_at ds i) ≡ n / 2 ^ i % 2 = λ i. value_at count n i (filler ds) (ap value_bit_of fills) k in
    let unknowns : (i : ℕ) → unknown_bit_of (digit_at ds i) ≡ 0 = λ i. unknown_at count n i (filler ds) (ap unknown_bit_of fills) in
    ap (λ v. record { value = v; unknown = bits_from unknown_bit_of ds low width }) (value_from ds n values low width)
    ∙ ap (λ u. record { value = n / 2 ^ low % 2 ^ width; unknown = u }) (unknown_from ds unknowns low width)

-- the bits that a signal takes of a number
pub quad_known : (ds : List Digit) (n low width : ℕ) → IsBinary ds n → quad_from ds low width ≡ known_quad (n / 2 ^ low % 2 ^ width)
quad_known ds n low width b = ap (λ xs. quad_from xs low width) b.same ∙ known_from (length ds) n low width b.some b.below

-- the bits above all of its own
pub past_number : (n low width : ℕ) → n < 2 ^ 64 → 64 ≤ low → 0 ≡ n / 2 ^ low % 2 ^ width
past_number n low width h k =
    let room : 2 ^ 64 ≤ 2 ^ low = pow_mono k in
    let none : n / 2 ^ low ≡ 0 = div-eq_of_lt (omega (arith, h, room)) in
    sym (ap (λ q. q % 2 ^ width) none ∙ mod-eq_of_lt (pow_pos width))
