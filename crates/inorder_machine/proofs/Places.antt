-- A line has the address and the word of its instruction.
use Rattle.std.proofs.Common.{◌≡◌, ℕ, Bool, Option, Some, None, Result, Ok, Err, refl, ap, sym, subst, ◌∙◌}
use Rattle.rv32_table.specs.declared.instr.Instr.{Instr}
use Rattle.rv32_table.specs.declared.control.Next.{Next}
use Rattle.rv32_table.specs.declared.control.Next.TheVariants.{Go, Misaligned}
use Rattle.rv32_table.specs.Table.{Meaning, Computes, Loads, Stores, Jumps, Branches, Fences, Stops, row_line}
use Rattle.rv32_table.specs.Instr.{decoded, access_of, value_of, next_of}
use Rattle.coproc_config.specs.declared.accept.Hit.{Hit}
use Rattle.coproc_config.specs.Accept.{hit_of}
use Rattle.xif_image.specs.declared.memory.MemFault.{MemFault}
use Rattle.xif_image.specs.declared.memory.MemFault.TheVariants as fault
use Rattle.xif_image.specs.Region.{Region, loaded, fault_of}
use Rattle.inorder_machine.specs.declared.line.Store.{Store}
use Rattle.inorder_machine.specs.declared.line.Stepped.{Stepped}
use Rattle.inorder_machine.specs.declared.line.Stepped.TheVariants.{Retired, Stop}
use Rattle.inorder_machine.specs.Execute.{At, store_of, load_outcome, store_outcome, control_outcome, executed_by, executed}
use Rattle.inorder_machine.specs.Machine.{Extension, State, register_of, offered_outcome, decoded_outcome, outcome_at, units_decoded, moved, state_after}
use Rattle.inorder_machine.specs.Lines.{state_beside_units}

-- a line that retires is of the instruction there
abbrev pub IsAt : At → Stepped → Type 0
IsAt at (Retired l) = (l.pc ≡ at.pc) × (l.word ≡ at.word)
IsAt at (Stop cause) = Unit {0}

load-at : (at : At) (i : Instr) (width : ℕ) (signed : Bool) (r : Result ℕ MemFault) → IsAt at (load_outcome at i width signed r)
load-at at i width signed (Ok v) = (refl, refl)
load-at at i width signed (Err fault.Outside) = tt

store-at : (at : At) (store : Store) (f : Option MemFault) → IsAt at (store_outcome at store f)
store-at at store None = (refl, refl)
store-at at store (Some fault.Outside) = tt

control-at : (at : At) (i : Instr) (value : ℕ) (n : Next) → IsAt at (control_outcome at i value n)
control-at at i value (Go next) = (refl, refl)
control-at at i value (Misaligned target) = tt

executed_by-at : (meaning : Meaning) (m : Region) (at : At) (i : Instr) (a b : ℕ) → IsAt at (executed_by meaning m at i a b)
executed_by-at (Computes value) m at i a b = (refl, refl)
executed_by-at (Loads width signed) m at i a b = load-at at i width signed (loaded m (access_of i a).addr width)
executed_by-at (Stores width) m at i a b = store-at at (store_of (access_of i a).addr width b) (fault_of m (access_of i a).addr width)
executed_by-at (Jumps target) m at i a b = control-at at i (value_of i a b at.pc) (next_of i a b at.pc)
executed_by-at (Branches taken) m at i a b = control-at at i (value_of i a b at.pc) (next_of i a b at.pc)
executed_by-at Fences m at i a b = (refl, refl)
executed_by-at Stops m at i a b = tt

executed-at : (m : Region) (at : At) (i : Instr) (a b : ℕ) → IsAt at (executed m at i a b)
executed-at m at i a b = executed_by-at (row_line i.row).meaning m at i a b

offered-at : (x : Extension) (s : State) (at : At) (hit : Option Hit) → IsAt at (offered_outcome x s at hit)
offered-at x s at None = tt
offered-at x s at (Some hit) = (refl, refl)

decoded-at : (x : Extension) (s : State) (at : At) (i : Option Instr) → IsAt at (decoded_outcome x s at i)
decoded-at x s at None = offered-at x s at (hit_of x.set x.params at.word)
decoded-at x s at (Some i) = executed-at s.memory at i (register_of s i.rs1) (register_of s i.rs2)

pub outcome-at : (x : Extension) (s : State) (at : At) → IsAt at (outcome_at x s at)
outcome-at x s at = decoded-at x s at (decoded at.word)

-- an instruction of RV32IM leaves the units
beside_units : (x : Extension) (s : State) (at : At) (i : Instr) (o : Stepped) → decoded at.word ≡ Some i → IsAt at o → state_beside_units s o ≡ state_after x s o
beside_units x s at i (Stop cause) e p = refl
beside_units x s at i (Retired l) e p =
    let offered : units_decoded x s l.word (decoded l.word) ≡ units_decoded x s at.word (decoded at.word) = ap (λ w. units_decoded x s w (decoded w)) p.1 in
    ap (moved s l) (sym (offered ∙ ap (units_decoded x s at.word) e))

pub executed-state : (x : Extension) (s : State) (at : At) (i : Instr) (a b : ℕ) (o : Stepped) → decoded at.word ≡ Some i → o ≡ executed s.memory at i a b → state_beside_units s o ≡ state_after x s o
executed-state x s at i a b o e is = beside_units x s at i o e (subst (IsAt at) (sym is) (executed-at s.memory at i a b))
