-- States, and the sets that they are of.
use Rattle.std.proofs.Common.{◌≡◌, ◌<◌, ◌+◌, ℕ, true, nat_lt, get_or, List, [], ◌∷◌, ◌++◌, take, length, map, replicate, Some, slice_get, refl, sym, ap, subst, ◌∙◌, inl, inr, arith}
use Rattle.std.proofs.lemmas.List.{length-replicate, take_more, map-append, length-map, get_or-map, get_or-set_same, get_or-set_other}
use Rattle.std.proofs.lemmas.Bool.{cases_eq}
use Rattle.std.proofs.lemmas.Bool.Decides.{nat_tests}
use Rattle.std.proofs.Math.Seq.{map-set_same}
use Rattle.std.proofs.Math.ListN.{set, length-set}
use Rattle.std.proofs.lemmas.Option.{get_or_from_slice_get}
use Rattle.coproc_config.proofs.Checks.{slice_get-within}
use Rattle.coproc_config.specs.Set.{UnitTable}
use Rattle.coproc_config.specs.declared.operation.Names.{Names}
use Rattle.coproc_config.specs.declared.operation.Names.TheVariants as names
use Rattle.coproc_config.specs.Check.{has_accumulator}
use Rattle.coproc_config.specs.State.{zeros, accumulators_of, accumulator_of, HasAccumulator, with_accumulator, IsStateOf}

pub IsStateOf-zeros : (units : List UnitTable) → IsStateOf units (zeros units)
IsStateOf-zeros [] = refl
IsStateOf-zeros (unit ∷ units) =
    ap (λ n. n ∷ map (λ accumulators. length accumulators) (zeros units)) (length-replicate unit.accumulators 0)
    ∙ ap (λ ns. unit.accumulators ∷ ns) (IsStateOf-zeros units)

pub zeros-more : (units : List UnitTable) (i n : ℕ) (unit : UnitTable) → slice_get units i ≡ Some unit → n ≡ unit.accumulators → zeros (take (i + 1) units) ≡ zeros (take i units) ++ replicate n 0 ∷ []
zeros-more units i n unit found same =
    ap zeros (take_more units i unit (slice_get-within units i unit found))
    ∙ ap (λ u. zeros (take i units ++ u ∷ [])) (get_or_from_slice_get units i unit unit found)
    ∙ map-append (λ u. replicate u.accumulators 0) (take i units) (unit ∷ [])
    ∙ ap (λ k. zeros (take i units) ++ replicate k 0 ∷ []) (sym same)

-- a unit has as many accumulators as the set says
accumulators-there : (units : List UnitTable) (state : List (List ℕ)) (i : ℕ) (unit : UnitTable) → IsStateOf units state → slice_get units i ≡ Some unit → (i < length state) × (length (accumulators_of state i) ≡ unit.accumulators)
accumulators-there units state i unit same found =
    let within : i < length units = slice_get-within units i unit found in
    let lengths : length state ≡ length units = sym (length-map state (λ accumulators. length accumulators)) ∙ ap (λ ns. length ns) same ∙ length-map units (λ unit. unit.accumulators) in
    let inside : i < length state = omega arith in (
      inside,
      sym (get_or-map (λ accumulators. length accumulators) state i [] 0 inside)
          ∙ ap (λ ns. get_or ns i 0) same
          ∙ get_or-map (λ unit. unit.accumulators) units i unit 0 within
          ∙ ap (λ unit. unit.accumulators) (get_or_from_slice_get units i unit unit found),
    )

pub accumulator-below : (units : List UnitTable) (state : List (List ℕ)) (i : ℕ) (unit : UnitTable) (acc : ℕ) → IsStateOf units state → slice_get units i ≡ Some unit → acc < unit.accumulators → HasAccumulator state i acc
accumulator-below units state i unit acc same found below =
    let there = accumulators-there units state i unit same found in
    record {
      unit_is = there.0;
      acc_is = omega (arith, there.1);
    }

-- the accumulator that an entry of a unit names
pub accumulator-there : (units : List UnitTable) (state : List (List ℕ)) (i : ℕ) (unit : UnitTable) (acc : ℕ) (n : Names) → IsStateOf units state → slice_get units i ≡ Some unit → has_accumulator n acc unit.accumulators ≡ true → n ≡ names.Accumulator → HasAccumulator state i acc
accumulator-there units state i unit acc n same found test is =
    let passes : nat_lt acc unit.accumulators ≡ true = ap (λ n. has_accumulator n acc unit.accumulators) (sym is) ∙ test in
    let below : acc < unit.accumulators = grind (arith, nat_tests) in
    accumulator-below units state i unit acc same found below

-- a state with another value in an accumulator is of the same set
pub IsStateOf-with_accumulator : (units : List UnitTable) (state : List (List ℕ)) (i acc value : ℕ) → IsStateOf units state → IsStateOf units (with_accumulator state i acc value)
IsStateOf-with_accumulator units state i acc value same =
    map-set_same (λ accumulators. length accumulators) state i (set (accumulators_of state i) acc value) [] (length-set (accumulators_of state i) acc value) ∙ same

-- the other accumulators stay
pub others-with_accumulator : (state : List (List ℕ)) (i acc value u a : ℕ) → i < length state → ¬ ((u ≡ i) × (a ≡ acc)) → accumulator_of (with_accumulator state i acc value) u a ≡ accumulator_of state u a
others-with_accumulator state i acc value u a h other =
    elim (cases_eq u i) [
      | inl same ↦
          let P : ℕ → Type 0 = λ n. accumulator_of (with_accumulator state i acc value) n a ≡ accumulator_of state n a in
          subst P (sym same) (
          ap (λ xs. get_or xs a 0) (get_or-set_same state i (set (accumulators_of state i) acc value) [] h)
          ∙ get_or-set_other (accumulators_of state i) acc a value 0 (λ e. other (same, e)))
      | inr apart ↦ ap (λ xs. get_or xs a 0) (get_or-set_other state i u (set (accumulators_of state i) acc value) [] apart)
    ]
