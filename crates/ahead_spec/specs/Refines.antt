-- The machine that runs ahead beside the in-order machine.
use Rattle.std.specs.Prelude.{◌≡◌, ℕ, zero, suc, Option, Some, None, List, [], ◌∷◌, ◌++◌, length}
use Rattle.inorder_machine.specs.declared.line.Retire.{Retire}
use Rattle.inorder_machine.specs.declared.line.Stepped.{Stepped}
use Rattle.inorder_machine.specs.declared.line.Stepped.TheVariants.{Retired, Stop}
use Rattle.inorder_machine.specs.declared.stop.StopCause.{StopCause}
use Rattle.inorder_machine.specs.Machine.{Extension, State, next_step}
use Rattle.inorder_machine.specs.After.{after}
use Rattle.ahead_spec.specs.Walk.{Item}
use Rattle.ahead_spec.specs.World.{World}

-- ---- the lines of the in-order machine

abbrev pub line_in : Stepped → List Retire
line_in (Retired line) = line ∷ []
line_in (Stop cause) = []

abbrev pub line_from : Extension → Option State → List Retire
line_from x None = []
line_from x (Some s) = line_in (next_step x s)

-- the lines of its first so many instructions, the newest first
abbrev pub lines : Extension → (count : ℕ) → State → List Retire
lines x zero s = []
lines x (suc n) s = line_from x (after x n s) ++ lines x n s

-- ---- refinement

-- the cause of the oldest instruction in flight, if it is to stop the machine
abbrev pub stop_in : List Item → Option StopCause
stop_in [] = None
stop_in (y ∷ ys) = y.entry.stop

-- Registers, memory and the retired lines are those of the in-order machine after as many
-- instructions. So are the accumulators, where nothing is in flight and where the oldest
-- instruction stops the machine; the in-order machine then stops there, for the same cause.
pub record Refines (x : Extension) (start : State) (w : World) : Type 0 where
  pub now : State
  pub arrived : after x (length w.retired) start ≡ Some now
  pub lines_are : w.retired ≡ lines x (length w.retired) start
  pub pc_is : w.pc ≡ now.pc
  pub registers_are : w.registers ≡ now.registers
  pub memory_is : w.memory ≡ now.memory
  pub units_are : w.flight ≡ [] → w.units ≡ now.units
  pub stops : (cause : StopCause) → stop_in w.flight ≡ Some cause
      → (next_step x now ≡ Stop cause) × (w.units ≡ now.units)
