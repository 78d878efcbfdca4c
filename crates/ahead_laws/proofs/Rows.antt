-- What the table of RV32IM says of what an instruction does.
use Rattle.std.proofs.Common.{◌≡◌, ◌⊎◌, ◌||◌, ◌==◌, ℕ, Bool, true, false, Option, Some, None, Result, Ok, Err, refl, ap, subst, inl, inr, arith}
use Rattle.std.specs.List.{list_all}
use Rattle.std.specs.Option.{option_map}
use Rattle.std.proofs.lemmas.Bool.{or_cases, eqb-true}
use Rattle.rv32_table.specs.declared.rows.Row.{Row}
use Rattle.rv32_table.specs.declared.instr.Instr.{Instr}
use Rattle.rv32_table.specs.declared.instr.Kind.TheVariants as kind
use Rattle.rv32_table.specs.declared.control.Next.{Next}
use Rattle.rv32_table.specs.declared.control.Next.TheVariants.{Go, Misaligned}
use Rattle.rv32_table.specs.Table.{Meaning, Computes, Loads, Stores, Jumps, Branches, Fences, Stops, row_line, rows}
use Rattle.rv32_table.specs.Instr.{row_of, instr_of, decoded, kind_by, kind_of, access_of, value_of, next_of, NamesRegisters}
use Rattle.rv32_table.proofs.Distinct.{passes}
use Rattle.xif_drive.specs.Predictors.{following}
use Rattle.xif_image.specs.declared.memory.MemFault.{MemFault}
use Rattle.xif_image.specs.declared.memory.MemFault.TheVariants as fault
use Rattle.xif_image.specs.Region.{Region, IsWidth, loaded, fault_of}
use Rattle.inorder_machine.specs.declared.line.Retire.{Retire}
use Rattle.inorder_machine.specs.declared.line.Store.{Store}
use Rattle.inorder_machine.specs.declared.line.Stepped.{Stepped}
use Rattle.inorder_machine.specs.declared.line.Stepped.TheVariants.{Retired, Stop}
use Rattle.inorder_machine.specs.declared.stop.StopCause.{StopCause}
use Rattle.inorder_machine.specs.Execute.{At, cause_of, store_of, load_outcome, store_outcome, control_outcome, executed_by, executed}
use Rattle.inorder_machine.specs.Lines.{IfRetired, IsStore}
use Rattle.cycle_spec.specs.Flight.{is_store_row, is_control_row, stop_row}

-- the fields of a decoded instruction are numbers of registers
instr-registers : (word : ℕ) (row : Row) → NamesRegisters (instr_of word row)
instr-registers word row = record { rd = omega arith; rs1 = omega arith; rs2 = omega arith }

pub decoded-registers : (word : ℕ) (i : Instr) → decoded word ≡ Some i → NamesRegisters i
decoded-registers word i h = go (row_of word) h
  where
    go : (o : Option Row) → option_map (instr_of word) o ≡ Some i → NamesRegisters i
    go None h = absurd cc
    go (Some row) h = let same : instr_of word row ≡ i = cc in subst NamesRegisters same (instr-registers word row)

-- ---- an instruction that computes or orders accesses never stops

never-stops_by : (meaning : Meaning) (m : Region) (at : At) (i : Instr) (a b : ℕ) (cause : StopCause) → (kind_by meaning ≡ kind.Alu) ⊎ (kind_by meaning ≡ kind.Fence) → executed_by meaning m at i a b ≡ Stop cause → ⊥
never-stops_by (Computes value) m at i a b cause k h = cc
never-stops_by (Loads width signed) m at i a b cause (inl k) h = cc
never-stops_by (Loads width signed) m at i a b cause (inr k) h = cc
never-stops_by (Stores width) m at i a b cause (inl k) h = cc
never-stops_by (Stores width) m at i a b cause (inr k) h = cc
never-stops_by (Jumps target) m at i a b cause (inl k) h = cc
never-stops_by (Jumps target) m at i a b cause (inr k) h = cc
never-stops_by (Branches taken) m at i a b cause (inl k) h = cc
never-stops_by (Branches taken) m at i a b cause (inr k) h = cc
never-stops_by Fences m at i a b cause k h = cc
never-stops_by Stops m at i a b cause (inl k) h = cc
never-stops_by Stops m at i a b cause (inr k) h = cc

pub never-stops : (m : Region) (at : At) (i : Instr) (a b : ℕ) (cause : StopCause) → (kind_of i ≡ kind.Alu) ⊎ (kind_of i ≡ kind.Fence) → executed m at i a b ≡ Stop cause → ⊥
never-stops m at i a b cause k h = never-stops_by (row_line i.row).meaning m at i a b cause k h

-- ECALL and EBREAK always stop
always-stops_by : (meaning : Meaning) (m : Region) (at : At) (i : Instr) (a b : ℕ) (cause : StopCause) → stop_row (kind_by meaning) (cause_of i.row) ≡ Some cause → executed_by meaning m at i a b ≡ Stop cause
always-stops_by (Computes value) m at i a b cause h = absurd cc
always-stops_by (Loads width signed) m at i a b cause h = absurd cc
always-stops_by (Stores width) m at i a b cause h = absurd cc
always-stops_by (Jumps target) m at i a b cause h = absurd cc
always-stops_by (Branches taken) m at i a b cause h = absurd cc
always-stops_by Fences m at i a b cause h = absurd cc
always-stops_by Stops m at i a b cause h = let same : cause_of i.row ≡ cause = cc in ap Stop same

pub always-stops : (m : Region) (at : At) (i : Instr) (a b : ℕ) (cause : StopCause) → stop_row (kind_of i) (cause_of i.row) ≡ Some cause → executed m at i a b ≡ Stop cause
always-stops m at i a b cause h = always-stops_by (row_line i.row).meaning m at i a b cause h

-- ---- only a control transfer leads elsewhere than behind itself

abbrev Straight : At → Stepped → Type 0
Straight at o = IfRetired o (λ l. l.next ≡ following at.pc)

load-straight : (at : At) (i : Instr) (width : ℕ) (signed : Bool) (r : Result ℕ MemFault) → Straight at (load_outcome at i width signed r)
load-straight at i width signed (Ok v) = refl
load-straight at i width signed (Err fault.Outside) = tt

store-straight : (at : At) (store : Store) (f : Option MemFault) → Straight at (store_outcome at store f)
store-straight at store None = refl
store-straight at store (Some fault.Outside) = tt

straight_by : (meaning : Meaning) (m : Region) (at : At) (i : Instr) (a b : ℕ) → is_control_row (kind_by meaning) ≡ false → Straight at (executed_by meaning m at i a b)
straight_by (Computes value) m at i a b h = refl
straight_by (Loads width signed) m at i a b h = load-straight at i width signed (loaded m (access_of i a).addr width)
straight_by (Stores width) m at i a b h = store-straight at (store_of (access_of i a).addr width b) (fault_of m (access_of i a).addr width)
straight_by (Jumps target) m at i a b h = absurd cc
straight_by (Branches taken) m at i a b h = absurd cc
straight_by Fences m at i a b h = refl
straight_by Stops m at i a b h = tt

pub straight : (m : Region) (at : At) (i : Instr) (a b : ℕ) (l : Retire) → is_control_row (kind_of i) ≡ false → executed m at i a b ≡ Retired l → l.next ≡ following at.pc
straight m at i a b l h e = subst (Straight at) e (straight_by (row_line i.row).meaning m at i a b h)

-- ---- only a store has a store, and it lies in the memory

abbrev NoStore : Stepped → Type 0
NoStore o = IfRetired o (λ l. l.store ≡ None)

load-no_store : (at : At) (i : Instr) (width : ℕ) (signed : Bool) (r : Result ℕ MemFault) → NoStore (load_outcome at i width signed r)
load-no_store at i width signed (Ok v) = refl
load-no_store at i width signed (Err fault.Outside) = tt

control-no_store : (at : At) (i : Instr) (value : ℕ) (n : Next) → NoStore (control_outcome at i value n)
control-no_store at i value (Go next) = refl
control-no_store at i value (Misaligned target) = tt

no_store_by : (meaning : Meaning) (m : Region) (at : At) (i : Instr) (a b : ℕ) → is_store_row (kind_by meaning) ≡ false → NoStore (executed_by meaning m at i a b)
no_store_by (Computes value) m at i a b h = refl
no_store_by (Loads width signed) m at i a b h = load-no_store at i width signed (loaded m (access_of i a).addr width)
no_store_by (Stores width) m at i a b h = absurd cc
no_store_by (Jumps target) m at i a b h = control-no_store at i (value_of i a b at.pc) (next_of i a b at.pc)
no_store_by (Branches taken) m at i a b h = control-no_store at i (value_of i a b at.pc) (next_of i a b at.pc)
no_store_by Fences m at i a b h = refl
no_store_by Stops m at i a b h = tt

pub no_store : (m : Region) (at : At) (i : Instr) (a b : ℕ) (l : Retire) → is_store_row (kind_of i) ≡ false → executed m at i a b ≡ Retired l → l.store ≡ None
no_store m at i a b l h e = subst NoStore e (no_store_by (row_line i.row).meaning m at i a b h)

-- the widths of stores
abbrev is_width : ℕ → Bool
is_width w = (w == 1) || ((w == 2) || (w == 4))

abbrev has_width_by : Meaning → Bool
has_width_by (Stores width) = is_width width
has_width_by _ = true

abbrev has_width : Row → Bool
has_width r = has_width_by (row_line r).meaning

all_widths : list_all has_width rows ≡ true
all_widths = refl

width_is : (w : ℕ) → is_width w ≡ true → IsWidth w
width_is w h = elim (or_cases (w == 1) ((w == 2) || (w == 4)) h) [
  | inl e ↦ inl (eqb-true w 1 e)
  | inr k ↦ inr (elim (or_cases (w == 2) (w == 4) k) [ inl e ↦ inl (eqb-true w 2 e) | inr e ↦ inr (eqb-true w 4 e) ])
]

abbrev Fitting : Region → Stepped → Type 0
Fitting m o = IfRetired o (λ l. IsStore m l.store)

load-fitting : (m : Region) (at : At) (i : Instr) (width : ℕ) (signed : Bool) (r : Result ℕ MemFault) → Fitting m (load_outcome at i width signed r)
load-fitting m at i width signed (Ok v) = tt
load-fitting m at i width signed (Err fault.Outside) = tt

control-fitting : (m : Region) (at : At) (i : Instr) (value : ℕ) (n : Next) → Fitting m (control_outcome at i value n)
control-fitting m at i value (Go next) = tt
control-fitting m at i value (Misaligned target) = tt

store-fitting : (m : Region) (at : At) (store : Store) (f : Option MemFault) → IsWidth store.width → fault_of m store.addr store.width ≡ f → Fitting m (store_outcome at store f)
store-fitting m at store None w e = (w, e)
store-fitting m at store (Some fault.Outside) w e = tt

fitting_by : (meaning : Meaning) (m : Region) (at : At) (i : Instr) (a b : ℕ) → has_width_by meaning ≡ true → Fitting m (executed_by meaning m at i a b)
fitting_by (Computes value) m at i a b h = tt
fitting_by (Loads width signed) m at i a b h = load-fitting m at i width signed (loaded m (access_of i a).addr width)
fitting_by (Stores width) m at i a b h = store-fitting m at (store_of (access_of i a).addr width b) (fault_of m (access_of i a).addr width) (width_is width h) refl
fitting_by (Jumps target) m at i a b h = control-fitting m at i (value_of i a b at.pc) (next_of i a b at.pc)
fitting_by (Branches taken) m at i a b h = control-fitting m at i (value_of i a b at.pc) (next_of i a b at.pc)
fitting_by Fences m at i a b h = tt
fitting_by Stops m at i a b h = tt

pub fitting : (m : Region) (at : At) (i : Instr) (a b : ℕ) (l : Retire) → executed m at i a b ≡ Retired l → IsStore m l.store
fitting m at i a b l e = subst (Fitting m) e (fitting_by (row_line i.row).meaning m at i a b (passes has_width all_widths i.row))
