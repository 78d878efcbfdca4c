-- What entries hold back of a younger one. Internal: nothing here has to be believed.
use Rattle.std.specs.Prelude.{◌≡◌, ◌<◌, ℕ, Bool, not, List, Some, slice_get}
use Rattle.std.specs.List.{list_any}
use Rattle.cycle_spec.specs.declared.entry.Entry.{Entry}
use Rattle.cycle_spec.specs.Flight.{is_store, is_pending, is_here, operand_behind}
use Rattle.flight_table.specs.declared.older.Older.{Older}

-- of each register, whether an operand behind these entries isn't here yet
abbrev pub AreWaits : (dual_write : Bool) → (registers : List ℕ) → List Entry → (waits : List Bool) → Type 0
AreWaits dual_write registers es waits =
    (r : ℕ) → r < 32 → slice_get waits r ≡ Some (not (is_here (operand_behind dual_write registers es r)))

pub record IsOlder (dual_write : Bool) (registers : List ℕ) (es : List Entry) (older : Older)
    : Type 0 where
  pub waits : AreWaits dual_write registers es older.waits
  pub store : older.store ≡ list_any is_store es
  pub pending : older.pending ≡ list_any is_pending es
