-- Digits behind others.
use Rattle.std.proofs.Common.{◌≡◌, ℕ, List, [], ◌∷◌, ◌++◌, Option, Some, None, refl, ap, ◌∙◌}
use Rattle.std.proofs.lemmas.Option.{same_Some}
use Rattle.vcd_text.specs.declared.digit.Digit.{Digit}
use Rattle.vcd_text.specs.Words.{digit, digits, with_digit}

abbrev pub with_front : List Digit → Option (List Digit) → Option (List Digit)
with_front front None = None
with_front front (Some ds) = Some (front ++ ds)

-- digits of bytes in two parts
digits-append_by : (b : ℕ) (xs ys : List ℕ) (ds : List Digit) (d : Option Digit) (o : Option (List Digit)) → digit b ≡ d → digits xs ≡ o
    → ((es : List Digit) → digits xs ≡ Some es → digits (xs ++ ys) ≡ with_front es (digits ys))
    → with_digit d o ≡ Some ds → with_digit d (digits (xs ++ ys)) ≡ with_front ds (digits ys)
digits-append_by b xs ys ds None o p q h e = absurd cc
digits-append_by b xs ys ds (Some d) None p q h e = absurd cc
digits-append_by b xs ys ds (Some d) (Some es) p q h e =
    ap (with_digit (Some d)) (h es q) ∙ by (digits ys) ∙ ap (λ x. with_front x (digits ys)) (same_Some (d ∷ es) ds e)
  where
    by : (o : Option (List Digit)) → with_digit (Some d) (with_front es o) ≡ with_front (d ∷ es) o
    by None = refl
    by (Some ts) = refl

pub digits-append : (xs ys : List ℕ) (ds : List Digit) → digits xs ≡ Some ds → digits (xs ++ ys) ≡ with_front ds (digits ys)
digits-append [] ys ds e = by (digits ys) ∙ ap (λ x. with_front x (digits ys)) (same_Some [] ds e)
  where
    by : (o : Option (List Digit)) → o ≡ with_front [] o
    by None = refl
    by (Some ts) = refl
digits-append (b ∷ xs) ys ds e =
    digits-append_by b xs ys ds (digit b) (digits xs) refl refl (digits-append xs ys) e
