-- The first byte outside a memory.
use Rattle.std.proofs.Common.{◌≡◌, ◌<◌, ◌+◌, ℕ, Bool, suc, zero, List, [], ◌∷◌, Some, None, true, false, length, refl, ap, arith}
use Rattle.std.proofs.lemmas.Bool.Decides.{nat_tests}
use Rattle.std.specs.Option.{option_map}
use Rattle.xif_image.specs.Image.{bytes_from, IsWithin, is_within, IsFirstOutside, first_outside}

is_within-true : (base size address : ℕ) → IsWithin base size address → is_within base size address ≡ true
is_within-true base size address h = grind (arith, nat_tests, h.0, h.1)

within : (base size address : ℕ) → is_within base size address ≡ true → IsWithin base size address
within base size address e = (grind (arith, nat_tests), grind (arith, nat_tests))

is_within-false_by : (base size address : ℕ) (x : Bool) → is_within base size address ≡ x → ¬ IsWithin base size address → x ≡ false
is_within-false_by base size address true e n = absurd (n (within base size address e))
is_within-false_by base size address false e n = refl

is_within-false : (base size address : ℕ) → ¬ IsWithin base size address → is_within base size address ≡ false
is_within-false base size address n = is_within-false_by base size address (is_within base size address) refl n

-- one address further, and one index less
later : (base size load i : ℕ) → IsWithin base size (load + suc i) → IsWithin base size (load + 1 + i)
later base size load i h = (omega (arith, h.0), omega (arith, h.1))

-- where all addresses are the memory's, none is outside
pub none_outside : (base size load : ℕ) (bytes : List ℕ) → ((i : ℕ) → i < length bytes → IsWithin base size (load + i)) → first_outside base size (bytes_from load bytes) ≡ None
none_outside base size load [] h = refl
none_outside base size load (b ∷ bs) h =
    let zeroth : IsWithin base size (load + 0) = h 0 (omega arith) in
    let here : IsWithin base size load = (omega (arith, zeroth.0), omega (arith, zeroth.1)) in
    rw (is_within-true base size load here) (ap (option_map suc) (none_outside base size (load + 1) bs (λ i k. later base size load i (h (suc i) (omega (arith, k))))))

-- the first byte that is outside
pub some_outside : (base size load at : ℕ) (bytes : List ℕ) → IsFirstOutside base size load (length bytes) at → first_outside base size (bytes_from load bytes) ≡ Some at
some_outside base size load at [] h = absurd (omega (arith, h.there))
some_outside base size load zero (b ∷ bs) h =
    let here : ¬ IsWithin base size load = λ w. h.outside (omega (arith, w.0), omega (arith, w.1)) in
    rw (is_within-false base size load here) refl
some_outside base size load (suc at) (b ∷ bs) h =
    let zeroth : IsWithin base size (load + 0) = h.before 0 (omega arith) in
    let here : IsWithin base size load = (omega (arith, zeroth.0), omega (arith, zeroth.1)) in
    let rest : IsFirstOutside base size (load + 1) (length bs) at = record {
      there = omega (arith, h.there);
      outside = λ w. h.outside (omega (arith, w.0), omega (arith, w.1));
      before = λ i k. later base size load i (h.before (suc i) (omega (arith, k)));
    } in
    rw (is_within-true base size load here) (ap (option_map suc) (some_outside base size (load + 1) at bs rest))
