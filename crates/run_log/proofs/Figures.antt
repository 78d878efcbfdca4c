-- The figures of a word, one by one.
use Rattle.std.proofs.Common.{◌≡◌, ◌<◌, ◌≤◌, ◌+◌, ◌-◌, ◌^◌, ◌/◌, ◌%◌, ◌==◌, ◌++◌, ℕ, zero, suc, Bool, true, false, List, [], ◌∷◌, length, replicate, refl, sym, ap, ◌∙◌, arith}
use Rattle.std.specs.Fmt.{digits, digits_onto, digit_glyph}
use Rattle.std.proofs.lemmas.Bool.Decides.{nat_tests}
use Rattle.std.proofs.Math.Nat.{pow-succ'}
use Rattle.run_log.specs.Words.{hex_word}

-- so many last figures of a number, before others
abbrev pub glyphs : (count n : ℕ) → List ℕ → List ℕ
glyphs zero n acc = acc
glyphs (suc k) n acc = glyphs k (n / 16) (digit_glyph false (n % 16) ∷ acc)

replicate-before : (k x : ℕ) (acc : List ℕ) → replicate k x ++ x ∷ acc ≡ x ∷ replicate k x ++ acc
replicate-before zero x acc = refl
replicate-before (suc k) x acc = ap (λ t. x ∷ t) (replicate-before k x acc)

glyphs-zero : (k : ℕ) (acc : List ℕ) → glyphs k 0 acc ≡ replicate k 48 ++ acc
glyphs-zero zero acc = refl
glyphs-zero (suc k) acc = glyphs-zero k (48 ∷ acc) ∙ replicate-before k 48 acc

unfoldable padded : (count : ℕ) → List ℕ → List ℕ → List ℕ
padded count acc figures = replicate (count + length acc - length figures) 48 ++ figures

some-left : (k m : ℕ) → m < 16 ^ k → 0 < m → 0 < k
some-left zero m h j = absurd (omega (arith, h, j))
some-left (suc k) m h j = omega arith

-- by whether a figure is the first, from the figures before it
glyphs-by : (k fuel n : ℕ) (acc : List ℕ) → n < 16 ^ suc k → (0 < k → n / 16 < 16 ^ k → padded k (digit_glyph false (n % 16) ∷ acc) (digits_onto fuel 16 false (n / 16) (digit_glyph false (n % 16) ∷ acc)) ≡ glyphs k (n / 16) (digit_glyph false (n % 16) ∷ acc))
    → (x : Bool) → (n / 16 == 0) ≡ x → padded (suc k) acc (digits_onto (suc fuel) 16 false n acc) ≡ glyphs (suc k) n acc
unfolding padded
glyphs-by k fuel n acc less next true e =
    let gone : n / 16 ≡ 0 = grind (arith, nat_tests) in
    let g = digit_glyph false (n % 16) in
    let count : suc k + length acc - suc (length acc) ≡ k = omega arith in
    rw e (ap (λ c. replicate c 48 ++ g ∷ acc) count
    ∙ sym (ap (λ m. glyphs k m (g ∷ acc)) gone ∙ glyphs-zero k (g ∷ acc)))
glyphs-by k fuel n acc less next false e =
    let more : 0 < n / 16 = grind (arith, nat_tests) in
    let g = digit_glyph false (n % 16) in
    let below : n / 16 < 16 ^ k = omega (arith, less, pow-succ' 16 k) in
    let figures = digits_onto fuel 16 false (n / 16) (g ∷ acc) in
    let count : suc k + length acc - length figures ≡ k + suc (length acc) - length figures = omega arith in
    rw e (ap (λ c. replicate c 48 ++ figures) count ∙ next (some-left k (n / 16) below more) below)

glyphs-is : (k fuel n : ℕ) (acc : List ℕ) → 0 < k → k ≤ fuel → n < 16 ^ k → padded k acc (digits_onto fuel 16 false n acc) ≡ glyphs k n acc
glyphs-is zero fuel n acc some room less = absurd (omega (arith, some))
glyphs-is (suc k) zero n acc some room less = absurd (omega (arith, room))
glyphs-is (suc k) (suc fuel) n acc some room less = glyphs-by k fuel n acc less (λ left below. glyphs-is k fuel (n / 16) (digit_glyph false (n % 16) ∷ acc) left (omega (arith, room)) below) (n / 16 == 0) refl

pub hex_word-is : (n : ℕ) → n < 2 ^ 32 → hex_word n ≡ 48 ∷ 120 ∷ glyphs 8 n []
unfolding digits padded
hex_word-is n h = ap (λ t. 48 ∷ 120 ∷ t) (glyphs-is 8 64 n [] (omega arith) (omega arith) (omega (arith, h)))
