-- What a line has to be, so that registers and memory can be moved on by it. Internal: conditions,
-- and what the contracts of private functions cite; nothing here has to be believed.
use Rattle.std.specs.Prelude.{◌≡◌, ◌<◌, ◌+◌, ℕ, Option, Some, None}
use Rattle.rv32_table.specs.declared.instr.Instr.{Instr}
use Rattle.rv32_table.specs.Instr.{NamesRegisters}
use Rattle.xif_image.specs.Region.{Region, IsWidth, fault_of}
use Rattle.inorder_machine.specs.declared.line.Retire.{Retire}
use Rattle.inorder_machine.specs.declared.line.Store.{Store}
use Rattle.inorder_machine.specs.declared.line.Write.{Write}
use Rattle.inorder_machine.specs.declared.line.Write.TheVariants as write
use Rattle.inorder_machine.specs.declared.line.Stepped.{Stepped}
use Rattle.inorder_machine.specs.declared.line.Stepped.TheVariants.{Retired, Stop}
use Rattle.inorder_machine.specs.Execute.{At, executed}
use Rattle.inorder_machine.specs.Machine.{State, moved}

-- a write names registers other than x0
abbrev pub IsWrite : Write → Type 0
IsWrite write.None = Unit {0}
IsWrite (write.One rd value) = (0 < rd) × (rd < 32)
IsWrite (write.Pair rd low high) = (0 < rd) × (rd + 1 < 32)

-- a store can be done
abbrev pub IsStore : Region → Option Store → Type 0
IsStore m None = Unit {0}
IsStore m (Some store) = IsWidth store.width × (fault_of m store.addr store.width ≡ None)

-- registers and memory can be moved on by a line
pub record IsLine (m : Region) (l : Retire) : Type 0 where
  pub write : IsWrite l.write
  pub store : IsStore m l.store

-- what holds of a line, if one retires
abbrev pub IfRetired : Stepped → (Retire → Type 0) → Type 0
IfRetired (Retired l) P = P l
IfRetired (Stop cause) P = Unit {0}

-- the state after a step that leaves the accumulators as they are
abbrev pub state_beside_units : State → Stepped → State
state_beside_units s (Retired l) = moved s l s.units
state_beside_units s (Stop cause) = s

-- an instruction is executed: the outcome is that of the definition, and its line can be taken
pub record Executes (m : Region) (at : At) (i : Instr) (a b : ℕ) (result : Stepped) : Type 0 where
  pub outcome : result ≡ executed m at i a b
  pub line : NamesRegisters i → IfRetired result (IsLine m)
