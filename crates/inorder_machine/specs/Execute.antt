-- What an instruction of RV32IM does (RISC-V Unprivileged ISA, version 20191213, chapters 2 and 7).
use Rattle.std.specs.Prelude.{◌+◌, ◌*◌, ◌%◌, ◌^◌, ℕ, Bool, Option, Some, None, Result, Ok, Err, if◌then◌else◌}
use Rattle.rv32_table.specs.declared.rows.Row.{Row}
use Rattle.rv32_table.specs.declared.rows.Row.TheVariants as row
use Rattle.rv32_table.specs.declared.instr.Instr.{Instr}
use Rattle.rv32_table.specs.declared.control.Next.{Next}
use Rattle.rv32_table.specs.declared.control.Next.TheVariants.{Go, Misaligned}
use Rattle.rv32_table.specs.Word.{wrapped, sign_extended}
use Rattle.rv32_table.specs.Table.{Meaning, Computes, Loads, Stores, Jumps, Branches, Fences, Stops, row_line}
use Rattle.rv32_table.specs.Instr.{target_of, value_of, next_of, access_of}
use Rattle.xif_image.specs.declared.memory.MemFault.{MemFault}
use Rattle.xif_image.specs.declared.memory.MemFault.TheVariants as fault
use Rattle.xif_image.specs.Region.{Region, fault_of, loaded}
use Rattle.inorder_machine.specs.declared.line.Retire.{Retire}
use Rattle.inorder_machine.specs.declared.line.Write.{Write}
use Rattle.inorder_machine.specs.declared.line.Write.TheVariants as write
use Rattle.inorder_machine.specs.declared.line.Store.{Store}
use Rattle.inorder_machine.specs.declared.line.Stepped.{Stepped}
use Rattle.inorder_machine.specs.declared.line.Stepped.TheVariants.{Retired, Stop}
use Rattle.inorder_machine.specs.declared.stop.StopCause.{StopCause}
use Rattle.inorder_machine.specs.declared.stop.StopCause.TheVariants.{Ecall, Ebreak, LoadOutside, StoreOutside, TargetMisaligned}

-- an instruction where it is: its address, and its word
pub record At : Type 0 where
  pub pc : ℕ
  pub word : ℕ

-- a write to the target of an instruction, if it has one
abbrev pub write_to : Option ℕ → ℕ → Write
write_to None value = write.None
write_to (Some rd) value = write.One rd value

-- the line of an instruction that is followed by the one at an address
abbrev pub line_to : At → ℕ → Write → Option Store → Retire
line_to at next written store = record {
  pc = at.pc;
  word = at.word;
  next = next;
  write = written;
  store = store;
}

-- the line of an instruction that is followed by the one behind it
abbrev pub line_of : At → Write → Option Store → Retire
line_of at written store = line_to at (wrapped (at.pc + 4)) written store

-- a loaded number of so many bytes as a word: extended by its sign, or by 0 (section 2.6)
abbrev pub extended : ℕ → Bool → ℕ → ℕ
extended width signed value = if signed then sign_extended (8 * width) value else value

-- an instruction that loads: it writes the value to its target, or stops
abbrev pub load_outcome : At → Instr → ℕ → Bool → Result ℕ MemFault → Stepped
load_outcome at i width signed (Ok value) =
    Retired (line_of at (write_to (target_of i) (extended width signed value)) None)
load_outcome at i width signed (Err fault.Outside) = Stop LoadOutside

-- an instruction that stores: it has this store, or stops
abbrev pub store_outcome : At → Store → Option MemFault → Stepped
store_outcome at store None = Retired (line_of at write.None (Some store))
store_outcome at store (Some fault.Outside) = Stop StoreOutside

-- an instruction that jumps or branches: it writes this value to its target and goes there, or
-- stops
abbrev pub control_outcome : At → Instr → ℕ → Next → Stepped
control_outcome at i value (Go next) = Retired (line_to at next (write_to (target_of i) value) None)
control_outcome at i value (Misaligned target) = Stop TargetMisaligned

-- the cause of an instruction that stops
abbrev pub cause_of : Row → StopCause
cause_of row.Ebreak = Ebreak
cause_of _ = Ecall

-- the store of the lowest bytes of a value
abbrev pub store_of : ℕ → ℕ → ℕ → Store
store_of addr width value = record { addr = addr; width = width; value = value % 2 ^ (8 * width) }

-- what an instruction does by its meaning; a and b are the values of rs1 and rs2
abbrev pub executed_by : Meaning → Region → At → Instr → ℕ → ℕ → Stepped
executed_by (Computes value) m at i a b =
    Retired (line_of at (write_to (target_of i) (value_of i a b at.pc)) None)
executed_by (Loads width signed) m at i a b =
    load_outcome at i width signed (loaded m (access_of i a).addr width)
executed_by (Stores width) m at i a b =
    store_outcome at (store_of (access_of i a).addr width b) (fault_of m (access_of i a).addr width)
executed_by (Jumps target) m at i a b =
    control_outcome at i (value_of i a b at.pc) (next_of i a b at.pc)
executed_by (Branches taken) m at i a b =
    control_outcome at i (value_of i a b at.pc) (next_of i a b at.pc)
executed_by Fences m at i a b = Retired (line_of at write.None None)
executed_by Stops m at i a b = Stop (cause_of i.row)

-- what an instruction does there, with this memory; a and b are the values of rs1 and rs2
abbrev pub executed : Region → At → Instr → ℕ → ℕ → Stepped
executed m at i a b = executed_by (row_line i.row).meaning m at i a b
