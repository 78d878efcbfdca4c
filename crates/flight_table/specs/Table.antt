-- What a table of the instructions in flight is seen as.
use Rattle.std.specs.Prelude.{ℕ, Bool, List, Option}
use Rattle.std.specs.Option.{option_map}
use Rattle.inorder_machine.specs.declared.line.Retire.{Retire}
use Rattle.inorder_machine.specs.declared.line.Store.{Store}
use Rattle.inorder_machine.specs.declared.line.Write.{Write}
use Rattle.cycle_spec.specs.declared.entry.Entry.{Entry}
use Rattle.cycle_spec.specs.Flight.{youngest_writer}

pub record Table : Type 0 where
  -- X_DUALWRITE: an unknown word without a response may write a pair of registers
  pub dual_write : Bool
  -- how many entries there may be
  pub window : ℕ
  -- the number of the next dispatch
  pub next_seq : ℕ
  -- the oldest first
  pub entries : List Entry

-- the number of the youngest entry that may write a register, if there is one
abbrev pub writer_of : (dual_write : Bool) → List Entry → (r : ℕ) → Option ℕ
writer_of dual_write es r = option_map (λ e. e.seq) (youngest_writer dual_write es r)

-- what an instruction does when it retires; its address and its word don't count here
abbrev pub line_with : Write → Option Store → (next : ℕ) → Retire
line_with write store next =
    record { pc = 0; word = 0; next = next; write = write; store = store }
