-- Numbers in digits: their bytes, and the number that is read back from them.
use Rattle.std.proofs.Common.{◌≡◌, ◌<◌, ◌≤◌, ◌-◌, ◌^◌, ◌++◌, ℕ, zero, suc, List, [], ◌∷◌, false, length, replicate, drop, refl, ◌∙◌, arith}
use Rattle.std.specs.Char.{digit_value}
use Rattle.std.specs.Fmt.{decimal, digits}
use Rattle.std.specs.Str.Parse.{AllDigits, digits_value}
use Rattle.std.proofs.lemmas.Fmt.{decimal_is_IsNumeral, digits_is_IsNumeral}
use Rattle.std.proofs.lemmas.Bool.Decides.{nat_tests}
use Rattle.run_log.specs.Words.{hex_word}

-- each byte is above the space
abbrev pub IsInner : List ℕ → Type 0
IsInner [] = Unit {0}
IsInner (b ∷ bs) = (32 < b) × IsInner bs

pub inner-append : (a b : List ℕ) → IsInner a → IsInner b → IsInner (a ++ b)
inner-append [] b i j = j
inner-append (x ∷ a) b i j = (i.0, inner-append a b i.1 j)

digit_inner : (radix c : ℕ) → radix ≤ 16 → digit_value c < radix → 32 < c
digit_inner radix c low h = grind (arith, nat_tests)

inner-digits : (radix : ℕ) (ds : List ℕ) → radix ≤ 16 → AllDigits radix ds → IsInner ds
inner-digits radix [] low h = tt
inner-digits radix (c ∷ cs) low h = (digit_inner radix c low h.0, inner-digits radix cs low h.1)

-- ---- decimal numbers

pub inner-decimal : (n : ℕ) → n < 2 ^ 64 → IsInner (decimal n)
inner-decimal n h = inner-digits 10 (decimal n) (omega arith) (decimal_is_IsNumeral n h).0.1

pub value-decimal : (n : ℕ) → n < 2 ^ 64 → digits_value 10 (decimal n) ≡ n
value-decimal n h = (decimal_is_IsNumeral n h).1

-- ---- hexadecimal words

abbrev pub hex_value : List ℕ → ℕ
hex_value w = digits_value 16 (drop 2 w)

inner-zeros : (k : ℕ) (ds : List ℕ) → IsInner ds → IsInner (replicate k 48 ++ ds)
inner-zeros zero ds i = i
inner-zeros (suc k) ds i = (omega arith, inner-zeros k ds i)

value-zeros : (k : ℕ) (ds : List ℕ) → digits_value 16 (replicate k 48 ++ ds) ≡ digits_value 16 ds
value-zeros zero ds = refl
value-zeros (suc k) ds = value-zeros k ds

abbrev zeros : ℕ → ℕ
zeros n = 8 - length (digits 16 false n)

pub inner-hex_word : (n : ℕ) → n < 2 ^ 32 → IsInner (hex_word n)
inner-hex_word n h =
    let small : n < 16 ^ 64 = omega (arith, h) in
    let figures = inner-digits 16 (digits 16 false n) (omega arith) (digits_is_IsNumeral 16 false (omega arith) (omega arith) n small).0.1 in
    (omega arith, (omega arith, inner-zeros (zeros n) (digits 16 false n) figures))

pub value-hex_word : (n : ℕ) → n < 2 ^ 32 → hex_value (hex_word n) ≡ n
value-hex_word n h =
    let small : n < 16 ^ 64 = omega (arith, h) in
    value-zeros (zeros n) (digits 16 false n) ∙ (digits_is_IsNumeral 16 false (omega arith) (omega arith) n small).1
