-- The entry that takes a word, and the halves of lanes that it reads.
use Rattle.std.proofs.Common.{◌≡◌, ◌+◌, ◌++◌, ℕ, zero, suc, Bool, true, false, Option, Some, None, List, [], ◌∷◌, length, slice_get, refl, sym, ap, subst, ◌∙◌, arith, if◌then◌else◌}
use Rattle.std.specs.Option.{option_map}
use Rattle.std.specs.List.{AllByRecursion, find, flat_map, enumerate_from}
use Rattle.std.specs.Prelude.{map}
use Rattle.xif_base.specs.declared.params.Params.{Params}
use Rattle.xif_base.specs.Params.{IsInRange}
use Rattle.coproc_config.specs.declared.operation.Entry.{Entry}
use Rattle.coproc_config.specs.declared.accept.Hit.{Hit}
use Rattle.coproc_config.specs.Set.{UnitTable, Place, place_of, places_of, places}
use Rattle.coproc_config.specs.Accept.{takes, hit_at, hit_of, entry_in, entry_at, HasFlagsOf, IsAllowed}
use Rattle.coproc_config.proofs.Allowed.{allowed}
use Rattle.ahead_laws.proofs.Lists.{all-append}

-- one that is found passes the test, and is one of them
found_by : {A : Type 0} (P : A → Type 0) (test : A → Bool) (xs : List A) (y : A) → AllByRecursion P xs → find test xs ≡ Some y → (test y ≡ true) × P y
found_by P test [] y h e = absurd cc
found_by P test (x ∷ xs) y h e = go (test x) refl e (found_by P test xs y h.1)
  where
    go : (t : Bool) → test x ≡ t → (if t then Some x else find test xs) ≡ Some y → (find test xs ≡ Some y → (test y ≡ true) × P y) → (test y ≡ true) × P y
    go true q e k = let same : x ≡ y = cc in (ap test (sym same) ∙ q, subst P same h.0)
    go false q e k = k e

-- the place of an entry tells where it is
abbrev IsThere : List UnitTable → Place → Type 0
IsThere units place = entry_in (slice_get units place.unit) place.entry ≡ Some place.row

slice_get-behind : {A : Type 0} (front : List A) (y : A) (back : List A) (n : ℕ) → length front ≡ n → slice_get (front ++ y ∷ back) n ≡ Some y
slice_get-behind [] y back zero e = refl
slice_get-behind [] y back (suc n) e = absurd (omega (arith, e))
slice_get-behind (x ∷ front) y back zero e = absurd (omega (arith, e))
slice_get-behind (x ∷ front) y back (suc n) e = slice_get-behind front y back n (omega (arith, e))

moved-over : {A : Type 0} (front : List A) (y : A) (back : List A) → front ++ y ∷ back ≡ (front ++ y ∷ []) ++ back
moved-over [] y back = refl
moved-over (x ∷ front) y back = ap (λ l. x ∷ l) (moved-over front y back)

longer : {A : Type 0} (front : List A) (y : A) (n : ℕ) → length front ≡ n → length (front ++ y ∷ []) ≡ n + 1
longer [] y n e = omega (arith, e)
longer (x ∷ front) y zero e = absurd (omega (arith, e))
longer (x ∷ front) y (suc n) e = omega (arith, longer front y n (omega (arith, e)))

entries-there : (units : List UnitTable) (number : ℕ) (unit : UnitTable) → slice_get units number ≡ Some unit → (front rest : List Entry) (n : ℕ) → length front ≡ n → unit.entries ≡ front ++ rest
    → AllByRecursion (IsThere units) (map (place_of (number, unit)) (enumerate_from n rest))
entries-there units number unit there front [] n e h = tt
entries-there units number unit there front (row ∷ rest) n e h = (
  ap (λ u. entry_in u n) there ∙ ap (λ l. slice_get l n) h ∙ slice_get-behind front row rest n e,
  entries-there units number unit there (front ++ row ∷ []) rest (n + 1) (longer front row n e) (h ∙ moved-over front row rest),
)

units-there : (units front rest : List UnitTable) (n : ℕ) → length front ≡ n → units ≡ front ++ rest → AllByRecursion (IsThere units) (flat_map places_of (enumerate_from n rest))
units-there units front [] n e h = tt
units-there units front (unit ∷ rest) n e h =
    let there : slice_get units n ≡ Some unit = ap (λ l. slice_get l n) h ∙ slice_get-behind front unit rest n e in
    all-append (IsThere units) (places_of (n, unit)) (flat_map places_of (enumerate_from (n + 1) rest))
    (entries-there units n unit there [] unit.entries 0 refl refl)
    (units-there units (front ++ unit ∷ []) rest (n + 1) (longer front unit n e) (h ∙ moved-over front unit rest))

-- a hit names an entry that takes the word, and has its flags
pub hit-flags : (units : List UnitTable) (p : Params) (word : ℕ) (hit : Hit) → hit_of units p word ≡ Some hit → HasFlagsOf (entry_at units hit) p word hit
hit-flags units p word hit h = go (find (λ place. takes p word place.row) (places units)) refl h
  where
    go : (o : Option Place) → find (λ place. takes p word place.row) (places units) ≡ o → option_map (hit_at p) o ≡ Some hit → HasFlagsOf (entry_at units hit) p word hit
    go None e h = absurd cc
    go (Some place) e h =
        let same : hit_at p place ≡ hit = cc in
        let facts = found_by (IsThere units) (λ q. takes p word q.row) (places units) place (units-there units [] units 0 refl refl) e in
        subst (λ k. HasFlagsOf (entry_at units k) p word k) same (record { entry = place.row; there = facts.1; taken = facts.0; reads = refl; writes = refl })

-- the interface allows it
pub hit-allowed : (units : List UnitTable) (p : Params) (word : ℕ) (hit : Hit) → IsInRange p → hit_of units p word ≡ Some hit → IsAllowed p word hit
hit-allowed units p word hit r h = allowed (entry_at units hit) p word hit r (hit-flags units p word hit h)
