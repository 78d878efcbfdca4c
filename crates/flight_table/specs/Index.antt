-- What the table keeps beside its entries, so that the youngest writer of a register is at hand.
use Rattle.std.specs.Prelude.{◌≡◌, ◌<◌, ◌≤◌, ◌+◌, ◌==◌, ℕ, Bool, if◌then◌else◌, Option, Some, None, List, [], ◌∷◌, length, slice_get}
use Rattle.rv32_table.specs.Instr.{rd_field}
use Rattle.cycle_spec.specs.declared.entry.Entry.{Entry}
use Rattle.cycle_spec.specs.declared.entry.EntryKind.{EntryKind}
use Rattle.cycle_spec.specs.declared.entry.EntryKind.TheVariants.{Local, Unknown, Nowhere}
use Rattle.flight_table.specs.Table.{Table, writer_of}

-- the numbers rise, from at least one and to below another
abbrev pub Rises : (least : ℕ) → List Entry → (next : ℕ) → Type 0
Rises least [] next = least ≤ next
Rises least (e ∷ es) next = (least ≤ e.seq) × Rises (e.seq + 1) es next

-- of each register the number of the youngest entry that may write it
abbrev pub IsIndex : (dual_write : Bool) → List Entry → (writers : List (Option ℕ)) → Type 0
IsIndex dual_write es writers =
    (r : ℕ) → r < 32 → slice_get writers r ≡ Some (writer_of dual_write es r)

pub record IsKept (t : Table) (writers : List (Option ℕ)) : Type 0 where
  pub room : length t.entries ≤ t.window
  pub window : t.window ≤ 32
  pub rises : Rises 0 t.entries t.next_seq
  pub index : IsIndex t.dual_write t.entries writers

-- The first register that an entry may write. If it may write another, that is the one behind it.
abbrev pub first_target_by : EntryKind → (word : ℕ) → ℕ
first_target_by (Local i) word = i.rd
first_target_by Unknown word = rd_field word
first_target_by Nowhere word = 0

abbrev pub first_target : Entry → ℕ
first_target e = first_target_by e.kind e.word

-- the writer of a register after the oldest entry is gone, which has this number
abbrev pub forgotten : (seq : ℕ) → Option ℕ → Option ℕ
forgotten seq None = None
forgotten seq (Some writer) = if writer == seq then None else Some writer
