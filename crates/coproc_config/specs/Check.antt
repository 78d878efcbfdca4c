-- The checks of a set.
use Rattle.std.specs.Prelude.{◌≡◌, ◌==◌, ◌&&◌, ◌+◌, ◌++◌, ℕ, Bool, true, List, [], ◌∷◌, length, Ok, nat_lt, nat_le, bit_and}
use Rattle.std.specs.List.{flat_map, enumerate_from}
use Rattle.xif_base.specs.Checks.{first_failing}
use Rattle.coproc_config.specs.declared.operation.Names.{Names}
use Rattle.coproc_config.specs.declared.operation.Names.TheVariants as names
use Rattle.coproc_config.specs.declared.check.SetFault.{SetFault}
use Rattle.coproc_config.specs.declared.check.SetCause.{SetCause}
use Rattle.coproc_config.specs.declared.check.SetCause.TheVariants.{TooManyUnits, TooManyEntries, BadMask, BadAccumulator, BadField}
use Rattle.coproc_config.specs.Table.{operation_line}
use Rattle.coproc_config.specs.Set.{UnitTable, Place, places}

abbrev pub fault : SetCause → ℕ → ℕ → SetFault
fault cause unit entry = record { cause = cause; unit = unit; entry = entry }

-- an accumulator that is named is one of the unit's
abbrev pub has_accumulator : Names → ℕ → ℕ → Bool
has_accumulator names.Accumulator acc accumulators = nat_lt acc accumulators
has_accumulator names.Field acc accumulators = true
has_accumulator names.Nothing acc accumulators = true

-- bits that are named lie in a word of 32 bits, and are not none
abbrev pub has_field : Names → ℕ → ℕ → Bool
has_field names.Field low len = nat_lt 0 len && nat_le (low + len) 32
has_field names.Accumulator low len = true
has_field names.Nothing low len = true

-- the checks of a unit's sizes
abbrev pub unit_checks : ℕ × UnitTable → List (Bool × SetFault)
unit_checks unit =
    (nat_le (length unit.1.entries) 32, fault TooManyEntries unit.0 0)
    ∷ (nat_le unit.1.accumulators 16, fault BadAccumulator unit.0 0)
    ∷ []

-- the checks of an entry
abbrev pub entry_checks : Place → List (Bool × SetFault)
entry_checks place = (
  bit_and place.row.matched place.row.mask == place.row.matched,
  fault BadMask place.unit place.entry,
)
    ∷ (
      has_accumulator (operation_line place.row.op).names place.row.acc place.accumulators,
      fault BadAccumulator place.unit place.entry,
    )
    ∷ (
      has_field (operation_line place.row.op).names place.row.low place.row.len,
      fault BadField place.unit place.entry,
    )
    ∷ []

abbrev pub size_checks : List UnitTable → List (Bool × SetFault)
size_checks units = flat_map unit_checks (enumerate_from 0 units)

abbrev pub all_entry_checks : List UnitTable → List (Bool × SetFault)
all_entry_checks units = flat_map entry_checks (places units)

-- the checks of a set in their order, each a test and the fault where it fails
abbrev pub checks : List UnitTable → List (Bool × SetFault)
checks units =
    (nat_le (length units) 8, fault TooManyUnits 0 0)
    ∷ (size_checks units ++ all_entry_checks units)

-- no check of a set fails
abbrev pub IsLawful : List UnitTable → Type 0
IsLawful units = first_failing (checks units) ≡ Ok tt
