-- Numbers that are written are read again.
use Rattle.std.proofs.Common.{◌≡◌, ◌+◌, ◌-◌, ◌*◌, ◌^◌, ◌<◌, ◌≤◌, ◌==◌, ◌&&◌, ℕ, zero, suc, Bool, true, false, not, List, [], ◌∷◌, map, length, Some, refl, sym, ap, ◌∙◌, arith}
use Rattle.std.specs.Prelude.{nat_le, nat_lt}
use Rattle.std.specs.List.{list_all}
use Rattle.std.specs.Int.Digits.{digits_of, AllBelowBase, number_from_digits_after, number_from_digits}
use Rattle.std.proofs.lemmas.Bool.Decides.{nat_tests}
use Rattle.std.proofs.lemmas.Bool.{eqb-true}
use Rattle.std.proofs.lemmas.List.{length-map}
use Rattle.std.proofs.lemmas.Int.Digits.{length-digits_of_step, length-digits_of-le, all_below_base_digits_of, number_after_ge, number_digits_of}
use Rattle.vcd_text.specs.Words.{is_white, number, number_after, digits}
use Rattle.vcd_text.specs.Written.{numeral, bit_digit, bits}
use Rattle.vcd_text.proofs.Says.{IsWord, white_no}

abbrev shown : List ℕ → List ℕ
shown ds = map (λ d. 48 + d) ds

-- ---- words

inked_shown : (b : ℕ) (ds : List ℕ) → AllBelowBase b ds → list_all (λ c. not (is_white c)) (shown ds) ≡ true
inked_shown b [] h = refl
inked_shown b (d ∷ ds) h = rw (white_no (48 + d) (omega arith)) (inked_shown b ds h.1)

pub some_digits : (b n : ℕ) → 2 ≤ b → 0 < n → 0 < length (digits_of b n)
some_digits b n h k = omega (arith, length-digits_of_step b n h k)

numeral_word_by : (b n : ℕ) → 2 ≤ b → (x : Bool) → (n == 0) ≡ x → IsWord (numeral b n)
numeral_word_by b n h true e = rw e (record { some = omega arith; inked = refl })
numeral_word_by b n h false e = rw e (record {
  some = omega (arith, length-map (digits_of b n) (λ d. 48 + d), some_digits b n h (grind (arith, nat_tests)));
  inked = inked_shown b (digits_of b n) (all_below_base_digits_of b n h);
})

pub numeral_word : (b n : ℕ) → 2 ≤ b → IsWord (numeral b n)
numeral_word b n h = numeral_word_by b n h (n == 0) refl

-- ---- decimal

in_range : (a d : ℕ) → d < 10 → a * 10 + d < 2 ^ 64 → ((nat_le 48 (48 + d) && nat_le (48 + d) 57) && nat_lt (a * 10 + (48 + d - 48)) (2 ^ 64)) ≡ true
in_range a d h k = grind (arith, nat_tests)

number_after_is : (a : ℕ) (ds : List ℕ) → AllBelowBase 10 ds → number_from_digits_after 10 a ds < 2 ^ 64 → number_after a (shown ds) ≡ Some (number_from_digits_after 10 a ds)
number_after_is a [] h k = refl
number_after_is a (d ∷ ds) h k =
    let low : a * 10 + d ≤ number_from_digits_after 10 (a * 10 + d) ds = number_after_ge 10 (a * 10 + d) ds (omega arith) in
    let same : 48 + d - 48 ≡ d = omega arith in
    rw (in_range a d h.0 (omega arith)) (ap (λ x. number_after (a * 10 + x) (shown ds)) same ∙ number_after_is (a * 10 + d) ds h.1 k)

number_is : (bs : List ℕ) → 0 < length bs → number bs ≡ number_after 0 bs
number_is [] h = absurd (omega arith)
number_is (b ∷ bs) h = refl

number_by : (n : ℕ) → n < 2 ^ 64 → (x : Bool) → (n == 0) ≡ x → number (numeral 10 n) ≡ Some n
number_by n h true e = rw e (ap Some (sym (eqb-true n 0 e)))
number_by n h false e =
    let ds = digits_of 10 n in
    let back : number_from_digits 10 ds ≡ n = number_digits_of 10 n (omega arith) in
    rw e (number_is (shown ds) (omega (arith, length-map ds (λ d. 48 + d), some_digits 10 n (omega arith) (grind (arith, nat_tests))))
    ∙ number_after_is 0 ds (all_below_base_digits_of 10 n (omega arith)) (omega (arith, back)) ∙ ap Some back)

pub number_numeral : (n : ℕ) → n < 2 ^ 64 → number (numeral 10 n) ≡ Some n
number_numeral n h = number_by n h (n == 0) refl

-- ---- binary

digits_shown : (ds : List ℕ) → AllBelowBase 2 ds → digits (shown ds) ≡ Some (map bit_digit ds)
digits_shown [] h = refl
digits_shown (zero ∷ ds) h = rw (digits_shown ds h.1) refl
digits_shown (suc zero ∷ ds) h = rw (digits_shown ds h.1) refl
digits_shown (suc (suc d) ∷ ds) h = absurd (omega (arith, h.0))

digits_numeral_by : (n : ℕ) (x : Bool) → (n == 0) ≡ x → digits (numeral 2 n) ≡ Some (bits n)
digits_numeral_by n true e = rw e refl
digits_numeral_by n false e = rw e (digits_shown (digits_of 2 n) (all_below_base_digits_of 2 n (omega arith)))

pub digits_numeral : (n : ℕ) → digits (numeral 2 n) ≡ Some (bits n)
digits_numeral n = digits_numeral_by n (n == 0) refl

length_by : (w n : ℕ) → 0 < w → n < 2 ^ w → (x : Bool) → (n == 0) ≡ x → length (bits n) ≤ w
length_by w n h k true e = rw e (omega arith)
length_by w n h k false e = rw e (omega (arith, length-map (digits_of 2 n) bit_digit, length-digits_of-le 2 w n (omega arith) k))

pub length_bits : (w n : ℕ) → 0 < w → n < 2 ^ w → length (bits n) ≤ w
length_bits w n h k = length_by w n h k (n == 0) refl

some_bits_by : (n : ℕ) (x : Bool) → (n == 0) ≡ x → 0 < length (bits n)
some_bits_by n true e = rw e (omega arith)
some_bits_by n false e = rw e (omega (arith, length-map (digits_of 2 n) bit_digit, some_digits 2 n (omega arith) (grind (arith, nat_tests))))

pub some_bits : (n : ℕ) → 0 < length (bits n)
some_bits n = some_bits_by n (n == 0) refl
