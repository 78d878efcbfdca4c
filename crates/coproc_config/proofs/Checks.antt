-- Tests in their order, and lists that are numbered from 0.
use Rattle.std.proofs.Common.{◌≡◌, ◌<◌, ◌≤◌, ◌+◌, ℕ, zero, suc, Bool, true, false, List, [], ◌∷◌, ◌++◌, drop, length, Some, None, Ok, Err, slice_get, inl, inr, refl, sym, ap, ◌∙◌, get_or, drop-cons, add-one, add-zero, arith}
use Rattle.std.specs.List.{flat_map, enumerate_from}
use Rattle.std.proofs.lemmas.Option.{slice_get_cases, get_or_from_slice_get}
use Rattle.std.proofs.lemmas.Grind.{common_steps, flat_map-append}
use Rattle.xif_base.specs.Checks.{first_failing}

pub first_failing-append-ok : {F : Type 0} (xs ys : List (Bool × F)) → first_failing xs ≡ Ok tt → first_failing (xs ++ ys) ≡ first_failing ys
first_failing-append-ok [] ys h = refl
first_failing-append-ok ((true, e) ∷ xs) ys h = first_failing-append-ok xs ys h
first_failing-append-ok ((false, e) ∷ xs) ys h = cc

pub first_failing-append-err : {F : Type 0} (xs ys : List (Bool × F)) (e : F) → first_failing xs ≡ Err e → first_failing (xs ++ ys) ≡ Err e
first_failing-append-err [] ys e h = cc
first_failing-append-err ((true, d) ∷ xs) ys e h = first_failing-append-err xs ys e h
first_failing-append-err ((false, d) ∷ xs) ys e h = h

pub first_failing-parts : {F : Type 0} (xs ys : List (Bool × F)) → first_failing (xs ++ ys) ≡ Ok tt → (first_failing xs ≡ Ok tt) × (first_failing ys ≡ Ok tt)
first_failing-parts [] ys h = (refl, h)
first_failing-parts ((true, e) ∷ xs) ys h = first_failing-parts xs ys h
first_failing-parts ((false, e) ∷ xs) ys h = cc

pub slice_get-within : {X : Type 0} (xs : List X) (i : ℕ) (x : X) → slice_get xs i ≡ Some x → i < length xs
slice_get-within xs i x h =
    elim (slice_get_cases xs i).1 [
      | inl found ↦ found.1
      | inr past ↦ let no : None ≡ Some x = sym past.1 ∙ h in cc
    ]

-- an item at the front of what is left
drop-found : {X : Type 0} (xs : List X) (i : ℕ) (x : X) → slice_get xs i ≡ Some x → drop i xs ≡ x ∷ drop (i + 1) xs
drop-found xs i x h =
    drop-cons xs i x (slice_get-within xs i x h)
    ∙ ap (λ y. y ∷ drop (suc i) xs) (get_or_from_slice_get xs i x x h)
    ∙ ap (λ k. x ∷ drop k xs) (sym (add-one i))

-- what is made of a numbered list from an index on
abbrev pub made_from : {X A : Type 0} → (ℕ × X → List A) → ℕ → List X → List A
made_from f i xs = flat_map f (enumerate_from i (drop i xs))

pub made_from-found : {X A : Type 0} (f : ℕ × X → List A) (xs : List X) (i : ℕ) (x : X) → slice_get xs i ≡ Some x → made_from f i xs ≡ f (i, x) ++ made_from f (i + 1) xs
made_from-found f xs i x h = ap (λ ys. flat_map f (enumerate_from i ys)) (drop-found xs i x h)

pub made_from-end : {X A : Type 0} (f : ℕ × X → List A) (xs : List X) (i : ℕ) → length xs ≤ i → made_from f i xs ≡ []
made_from-end f xs i h =
    let none : drop i xs ≡ [] = grind (arith, common_steps) in
    ap (λ ys. flat_map f (enumerate_from i ys)) none

-- the tests of an item pass, or one of them fails
pub passed : {X F : Type 0} (f : ℕ × X → List (Bool × F)) (xs : List X) (i : ℕ) (x : X) → slice_get xs i ≡ Some x → first_failing (f (i, x)) ≡ Ok tt → first_failing (made_from f i xs) ≡ first_failing (made_from f (i + 1) xs)
passed f xs i x h ok = ap first_failing (made_from-found f xs i x h) ∙ first_failing-append-ok (f (i, x)) (made_from f (i + 1) xs) ok

pub failed : {X F : Type 0} (f : ℕ × X → List (Bool × F)) (xs : List X) (i : ℕ) (x : X) (e : F) → slice_get xs i ≡ Some x → first_failing (f (i, x)) ≡ Err e → first_failing (made_from f i xs) ≡ Err e
failed f xs i x e h err = ap first_failing (made_from-found f xs i x h) ∙ first_failing-append-err (f (i, x)) (made_from f (i + 1) xs) e err

pub ended : {X F : Type 0} (f : ℕ × X → List (Bool × F)) (xs : List X) (i : ℕ) → length xs ≤ i → first_failing (made_from f i xs) ≡ Ok tt
ended f xs i h = ap first_failing (made_from-end f xs i h)

each_at : {X F : Type 0} (f : ℕ × X → List (Bool × F)) (k : ℕ) (xs : List X) (i : ℕ) (d : X) → first_failing (flat_map f (enumerate_from k xs)) ≡ Ok tt → i < length xs → first_failing (f (k + i, get_or xs i d)) ≡ Ok tt
each_at f k [] i d all h = absurd (omega arith)
each_at f k (y ∷ ys) zero d all h =
    ap (λ n. first_failing (f (n, y))) (add-zero k) ∙ (first_failing-parts (f (k, y)) (flat_map f (enumerate_from (k + 1) ys)) all).0
each_at f k (y ∷ ys) (suc i) d all h =
    let place : k + suc i ≡ k + 1 + i = omega arith in
    ap (λ n. first_failing (f (n, get_or ys i d))) place
    ∙ each_at f (k + 1) ys i d (first_failing-parts (f (k, y)) (flat_map f (enumerate_from (k + 1) ys)) all).1 (omega arith)

-- where no test of a numbered list fails, none fails of an item
pub each : {X F : Type 0} (f : ℕ × X → List (Bool × F)) (xs : List X) (i : ℕ) (x : X) → first_failing (flat_map f (enumerate_from 0 xs)) ≡ Ok tt → slice_get xs i ≡ Some x → first_failing (f (i, x)) ≡ Ok tt
each f xs i x all h =
    let place : 0 + i ≡ i = omega arith in
    ap (λ n. first_failing (f (n, x))) (sym place)
    ∙ ap (λ y. first_failing (f (0 + i, y))) (sym (get_or_from_slice_get xs i x x h))
    ∙ each_at f 0 xs i x all (slice_get-within xs i x h)

pub flat_map-flat_map : {A B C : Type 0} (g : B → List C) (f : A → List B) (xs : List A) → flat_map g (flat_map f xs) ≡ flat_map (λ x. flat_map g (f x)) xs
flat_map-flat_map g f [] = refl
flat_map-flat_map g f (x ∷ xs) = flat_map-append g (f x) (flat_map f xs) ∙ ap (λ ys. flat_map g (f x) ++ ys) (flat_map-flat_map g f xs)
