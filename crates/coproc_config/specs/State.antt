-- The accumulators of all units: a list for each unit.
use Rattle.std.specs.Prelude.{◌≡◌, ◌<◌, ℕ, List, [], length, map, replicate, slice_set, slice_index_or, slice_index}
use Rattle.coproc_config.specs.Set.{UnitTable}

-- all accumulators of a set, 0 each
abbrev pub zeros : List UnitTable → List (List ℕ)
zeros units = map (λ unit. replicate unit.accumulators 0) units

-- the accumulators of a unit
abbrev pub accumulators_of : List (List ℕ) → ℕ → List ℕ
accumulators_of state unit = slice_index_or state unit []

-- an accumulator
abbrev pub accumulator_of : List (List ℕ) → ℕ → ℕ → ℕ
accumulator_of state unit acc = slice_index (accumulators_of state unit) acc

-- there is such a unit with such an accumulator
pub record HasAccumulator (state : List (List ℕ)) (unit acc : ℕ) : Type 0 where
  pub unit_is : unit < length state
  pub acc_is : acc < length (accumulators_of state unit)

-- the state with another value in one accumulator
abbrev pub with_accumulator : List (List ℕ) → ℕ → ℕ → ℕ → List (List ℕ)
with_accumulator state unit acc value =
    slice_set state unit (slice_set (accumulators_of state unit) acc value)

-- the state has the set's numbers of units and of accumulators
abbrev pub IsStateOf : List UnitTable → List (List ℕ) → Type 0
IsStateOf units state =
    map (λ accumulators. length accumulators) state ≡ map (λ unit. unit.accumulators) units
