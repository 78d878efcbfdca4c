-- A list is copied over another one of its length, item by item.
use Rattle.std.proofs.Common.{◌≡◌, ◌<◌, ◌+◌, ◌++◌, ℕ, suc, zero, List, [], ◌∷◌, length, take, drop, get_or, set, refl, sym, ap, ◌∙◌, Some, slice_get, arith}
use Rattle.std.proofs.lemmas.List.{get_or-set_same, get_or-map, length-map}
use Rattle.std.proofs.lemmas.Option.{get_or_from_slice_get}
use Rattle.coproc_config.proofs.Checks.{slice_get-within}
use Rattle.coproc_config.specs.Set.{UnitTable}
use Rattle.coproc_config.specs.State.{IsStateOf, accumulators_of, accumulator_of, with_accumulator}

copied_suc : {X : Type 0} (xs ys : List X) (i : ℕ) (d : X) → i < length xs → length ys ≡ length xs → set (take i xs ++ drop i ys) i (get_or xs i d) ≡ take (suc i) xs ++ drop (suc i) ys
copied_suc [] ys i d h l = absurd (omega arith)
copied_suc (x ∷ xs) [] i d h l = absurd (omega arith)
copied_suc (x ∷ xs) (y ∷ ys) zero d h l = refl
copied_suc (x ∷ xs) (y ∷ ys) (suc i) d h l = ap (λ zs. x ∷ zs) (copied_suc xs ys i d (omega arith) (omega arith))

-- one more item
pub copied_more : {X : Type 0} (xs ys now : List X) (i : ℕ) (d : X) → i < length xs → length ys ≡ length xs → now ≡ take i xs ++ drop i ys → set now i (get_or xs i d) ≡ take (i + 1) xs ++ drop (i + 1) ys
copied_more xs ys now i d h l e =
    let next : suc i ≡ i + 1 = omega arith in
    ap (λ zs. set zs i (get_or xs i d)) e ∙ copied_suc xs ys i d h l ∙ ap (λ n. take n xs ++ drop n ys) next

pub copied_all : {X : Type 0} (xs ys : List X) → length ys ≡ length xs → take (length xs) xs ++ drop (length xs) ys ≡ xs
copied_all [] [] l = refl
copied_all [] (y ∷ ys) l = absurd (omega arith)
copied_all (x ∷ xs) [] l = absurd (omega arith)
copied_all (x ∷ xs) (y ∷ ys) l = ap (λ zs. x ∷ zs) (copied_all xs ys (omega arith))

set-twice : {X : Type 0} (xs : List X) (i : ℕ) (a b : X) → set (set xs i a) i b ≡ set xs i b
set-twice [] i a b = refl
set-twice (x ∷ xs) zero a b = refl
set-twice (x ∷ xs) (suc i) a b = ap (λ zs. x ∷ zs) (set-twice xs i a b)

-- one more accumulator of a unit
pub accumulator_more : (from old now : List (List ℕ)) (unit acc : ℕ) → unit < length old → acc < length (accumulators_of from unit) → length (accumulators_of old unit) ≡ length (accumulators_of from unit) → now ≡ set old unit (take acc (accumulators_of from unit) ++ drop acc (accumulators_of old unit)) → with_accumulator now unit acc (accumulator_of from unit acc) ≡ set old unit (take (acc + 1) (accumulators_of from unit) ++ drop (acc + 1) (accumulators_of old unit))
accumulator_more from old now unit acc u a l e =
    ap (λ state. with_accumulator state unit acc (accumulator_of from unit acc)) e
    ∙ set-twice old unit part _
    ∙ ap (λ values. set old unit (set values acc (accumulator_of from unit acc))) (get_or-set_same old unit part [] u)
    ∙ ap (λ values. set old unit values) (copied_more (accumulators_of from unit) (accumulators_of old unit) part acc 0 a l refl)
  where
    part : List ℕ
    part = take acc (accumulators_of from unit) ++ drop acc (accumulators_of old unit)

pub state-length : (table : List UnitTable) (state : List (List ℕ)) → IsStateOf table state → length state ≡ length table
state-length table state same = sym (length-map state (λ accumulators. length accumulators)) ∙ ap (λ ns. length ns) same ∙ length-map table (λ unit. unit.accumulators)

-- a unit has as many accumulators as the set says
pub accumulators-there : (table : List UnitTable) (state : List (List ℕ)) (i : ℕ) (unit : UnitTable) → IsStateOf table state → slice_get table i ≡ Some unit → (i < length state) × (length (accumulators_of state i) ≡ unit.accumulators)
accumulators-there table state i unit same found =
    let within : i < length table = slice_get-within table i unit found in
    let inside : i < length state = omega (arith, state-length table state same) in (
      inside,
      sym (get_or-map (λ accumulators. length accumulators) state i [] 0 inside)
          ∙ ap (λ ns. get_or ns i 0) same
          ∙ get_or-map (λ unit. unit.accumulators) table i unit 0 within
          ∙ ap (λ unit. unit.accumulators) (get_or_from_slice_get table i unit unit found),
    )
