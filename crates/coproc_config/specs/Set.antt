-- Sets of units: the entries of each unit, and the places of all entries in their order.
use Rattle.std.specs.Prelude.{◌++◌, ◌-◌, ℕ, List, [], ◌∷◌, length, map, slice_set, slice_index_or}
use Rattle.std.specs.List.{flat_map, enumerate_from}
use Rattle.coproc_config.specs.declared.operation.Entry.{Entry}

-- a unit: the number of its accumulators, and its entries
pub record UnitTable : Type 0 where
  pub accumulators : ℕ
  pub entries : List Entry

-- a unit without entries
abbrev pub new_unit : ℕ → UnitTable
new_unit accumulators = record { accumulators = accumulators; entries = [] }

-- a unit with one more entry, at its end
abbrev pub with_entry : UnitTable → Entry → UnitTable
with_entry unit entry = record unit { entries = unit.entries ++ entry ∷ [] }

-- a set with one more entry, at the end of its last unit
abbrev pub with_last_entry : List UnitTable → Entry → List UnitTable
with_last_entry units entry =
    slice_set units (length units - 1)
    (with_entry (slice_index_or units (length units - 1) (new_unit 0)) entry)

-- an entry of a set, with the number of its unit, its own number in the unit, and the unit's number
-- of accumulators
pub record Place : Type 0 where
  pub unit : ℕ
  pub entry : ℕ
  pub accumulators : ℕ
  pub row : Entry

abbrev pub place_of : ℕ × UnitTable → ℕ × Entry → Place
place_of unit entry = record {
  unit = unit.0;
  entry = entry.0;
  accumulators = unit.1.accumulators;
  row = entry.1;
}

abbrev pub places_of : ℕ × UnitTable → List Place
places_of unit = map (place_of unit) (enumerate_from 0 unit.1.entries)

-- all entries of a set, in unit order and then entry order
abbrev pub places : List UnitTable → List Place
places units = flat_map places_of (enumerate_from 0 units)
