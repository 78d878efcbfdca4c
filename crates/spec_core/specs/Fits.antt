-- Internal: what holds of the state of a core, and how far its counts may go. These are conditions
-- of the code; nothing here has to be believed.
use Rattle.std.specs.Prelude.{◌≡◌, ◌<◌, ◌≤◌, ◌^◌, ℕ, List, All}
use Rattle.xif_base.specs.declared.params.Params.{Params}
use Rattle.xif_base.specs.Params.{IsInRange}
use Rattle.xif_image.specs.Region.{Region}
use Rattle.xif_drive.specs.Scripts.{Lists, IsLawful}
use Rattle.inorder_machine.specs.declared.line.Retire.{Retire}
use Rattle.inorder_machine.specs.declared.line.Write.{Write}
use Rattle.inorder_machine.specs.declared.line.Write.TheVariants as write
use Rattle.inorder_machine.specs.Lines.{IsStore, IfRetired}
use Rattle.cycle_spec.specs.declared.choices.Executed.{Executed}
use Rattle.cycle_spec.specs.declared.entry.Entry.{Entry}
use Rattle.cycle_spec.specs.Counts.{CanCountOn}
use Rattle.cycle_spec.specs.State.{Core}
use Rattle.flight_table.specs.Table.{Table}

-- ---- entries

-- a write doesn't name x0; the register behind it may be none
abbrev pub IsKeptWrite : Write → Type 0
IsKeptWrite write.None = Unit {0}
IsKeptWrite (write.One rd value) = 0 < rd
IsKeptWrite (write.Pair rd low high) = (0 < rd) × (rd < 32)

-- an entry holds an id of the interface, and can retire
pub record IsEntry (p : Params) (m : Region) (e : Entry) : Type 0 where
  pub id : e.id < 2 ^ p.id_width
  pub write : IsKeptWrite e.write
  pub store : IsStore m e.store

abbrev pub AreEntries : Params → Region → List Entry → Type 0
AreEntries p m es = All (IsEntry p m) es

-- an instruction can retire with its line
pub record IsKeptLine (m : Region) (l : Retire) : Type 0 where
  pub write : IsKeptWrite l.write
  pub store : IsStore m l.store

abbrev pub IsKeptOutcome : Region → Executed → Type 0
IsKeptOutcome m x = IfRetired x.outcome (IsKeptLine m)

-- ---- the state

-- what params, script and window of a core are
pub record IsSetUp (p : Params) (script : Lists) (window : ℕ) : Type 0 where
  pub in_range : IsInRange p
  pub lawful : IsLawful script
  -- each instruction in flight may have an id of its own
  pub ids : window ≤ 2 ^ p.id_width

-- the table is one for these params and this window
pub record IsTable (p : Params) (window : ℕ) (t : Table) : Type 0 where
  pub room : t.window ≡ window
  pub dual_write : t.dual_write ≡ p.dual_write

-- ---- the counts

-- a core can count on for a cycle
pub record CanGoOn (w : Core) : Type 0 where
  pub dispatches : w.next_seq < 2 ^ 63
  pub registers : CanCountOn w.register_turns
  pub results : CanCountOn w.result_turns
