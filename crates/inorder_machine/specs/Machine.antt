-- The in-order machine: what becomes of the next instruction, and the state after it.
use Rattle.std.specs.Prelude.{◌+◌, ◌==◌, ℕ, List, Option, Some, None, slice_index, slice_set, if◌then◌else◌}
use Rattle.rv32_table.specs.declared.instr.Instr.{Instr}
use Rattle.rv32_table.specs.Instr.{decoded, rd_field}
use Rattle.xif_base.specs.declared.params.Params.{Params}
use Rattle.coproc_config.specs.declared.accept.Hit.{Hit}
use Rattle.coproc_config.specs.Set.{UnitTable}
use Rattle.coproc_config.specs.Accept.{hit_of}
use Rattle.coproc_config.specs.Apply.{Outcome, applied}
use Rattle.xif_image.specs.Region.{Region, word_at, stored}
use Rattle.inorder_machine.specs.declared.line.Retire.{Retire}
use Rattle.inorder_machine.specs.declared.line.Write.{Write}
use Rattle.inorder_machine.specs.declared.line.Write.TheVariants as write
use Rattle.inorder_machine.specs.declared.line.Store.{Store}
use Rattle.inorder_machine.specs.declared.line.Stepped.{Stepped}
use Rattle.inorder_machine.specs.declared.line.Stepped.TheVariants.{Retired, Stop}
use Rattle.inorder_machine.specs.declared.stop.StopCause.TheVariants.{Illegal, FetchOutside}
use Rattle.inorder_machine.specs.Execute.{At, line_of, executed}
use Rattle.inorder_machine.specs.Units.{lane_values, unit_write}

-- what words mean that are no instruction of RV32IM: a set of coprocessor units, and the parameters
-- of the interface
pub record Extension : Type 0 where
  pub set : List UnitTable
  pub params : Params

-- the address of the next instruction, the registers x0 to x31, the memory, and the accumulators of
-- the units
pub record State : Type 0 where
  pub pc : ℕ
  pub registers : List ℕ
  pub memory : Region
  pub units : List (List ℕ)

-- the value of a register; x0 reads 0 (section 2.1)
abbrev pub register_in : List ℕ → ℕ → ℕ
register_in registers i = if i == 0 then 0 else slice_index registers i

abbrev pub register_of : State → ℕ → ℕ
register_of s i = register_in s.registers i

-- what the units make of a word that an entry of theirs takes
abbrev pub unit_outcome : Extension → State → ℕ → Hit → Outcome
unit_outcome x s word hit =
    applied x.set hit s.units (lane_values x.params (register_of s) word hit.register_read.0)

-- a word that no entry takes stops the machine
abbrev pub offered_outcome : Extension → State → At → Option Hit → Stepped
offered_outcome x s at None = Stop Illegal
offered_outcome x s at (Some hit) =
    let value = (unit_outcome x s at.word hit).result in
    Retired (line_of at (unit_write (rd_field at.word) hit.writeback.0 value) None)

-- a word that is no instruction of RV32IM is offered to the units
abbrev pub decoded_outcome : Extension → State → At → Option Instr → Stepped
decoded_outcome x s at None = offered_outcome x s at (hit_of x.set x.params at.word)
decoded_outcome x s at (Some i) = executed s.memory at i (register_of s i.rs1) (register_of s i.rs2)

-- what becomes of an instruction in a state: it stops the machine, or retires with a line
abbrev pub outcome_at : Extension → State → At → Stepped
outcome_at x s at = decoded_outcome x s at (decoded at.word)

-- of the word at the address of the next instruction; the memory may have none there
abbrev pub fetched_outcome : Extension → State → Option ℕ → Stepped
fetched_outcome x s None = Stop FetchOutside
fetched_outcome x s (Some word) = outcome_at x s (record { pc = s.pc; word = word })

-- what becomes of the next instruction
abbrev pub next_step : Extension → State → Stepped
next_step x s = fetched_outcome x s (word_at s.memory s.pc)

abbrev pub registers_after : List ℕ → Write → List ℕ
registers_after registers write.None = registers
registers_after registers (write.One rd value) = slice_set registers rd value
registers_after registers (write.Pair rd low high) =
    slice_set (slice_set registers rd low) (rd + 1) high

abbrev pub memory_after : Region → Option Store → Region
memory_after m None = m
memory_after m (Some store) = stored m store.addr store.width store.value

abbrev pub units_offered : Extension → State → ℕ → Option Hit → List (List ℕ)
units_offered x s word None = s.units
units_offered x s word (Some hit) = (unit_outcome x s word hit).state

abbrev pub units_decoded : Extension → State → ℕ → Option Instr → List (List ℕ)
units_decoded x s word None = units_offered x s word (hit_of x.set x.params word)
units_decoded x s word (Some i) = s.units

-- the accumulators after a word that retired: only a word that is offered to the units changes them
abbrev pub units_after : Extension → State → ℕ → List (List ℕ)
units_after x s word = units_decoded x s word (decoded word)

-- a state moved on by a line, with these accumulators
abbrev pub moved : State → Retire → List (List ℕ) → State
moved s l units = record {
  pc = l.next;
  registers = registers_after s.registers l.write;
  memory = memory_after s.memory l.store;
  units = units;
}

-- the state after an instruction that retired with this line
abbrev pub taken : Extension → State → Retire → State
taken x s l = moved s l (units_after x s l.word)

-- the state after a step; only a retired instruction changes it
abbrev pub state_after : Extension → State → Stepped → State
state_after x s (Retired l) = taken x s l
state_after x s (Stop cause) = s
