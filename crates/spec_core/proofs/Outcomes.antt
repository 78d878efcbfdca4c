-- What an instruction that executes leaves can be taken when it retires.
use Rattle.std.proofs.Common.{◌≡◌, ◌<◌, ◌==◌, ◌||◌, ℕ, Bool, true, false, Option, Some, None, Result, Ok, Err, inl, inr, refl, arith, if◌then◌else◌}
use Rattle.std.specs.List.{list_all}
use Rattle.std.proofs.lemmas.Bool.{eqb-false, eqb-true}
use Rattle.rv32_table.specs.declared.rows.Row.{Row}
use Rattle.rv32_table.specs.declared.instr.Instr.{Instr}
use Rattle.rv32_table.specs.declared.control.Next.{Next}
use Rattle.rv32_table.specs.declared.control.Next.TheVariants.{Go, Misaligned}
use Rattle.rv32_table.specs.Table.{Meaning, Computes, Loads, Stores, Jumps, Branches, Fences, Stops, row_line, rows}
use Rattle.rv32_table.specs.Instr.{target_of, access_of, value_of, next_of}
use Rattle.rv32_table.proofs.Distinct.{passes}
use Rattle.xif_image.specs.declared.memory.MemFault.{MemFault}
use Rattle.xif_image.specs.declared.memory.MemFault.TheVariants as fault
use Rattle.xif_image.specs.Region.{Region, IsWidth, loaded, fault_of}
use Rattle.inorder_machine.specs.declared.line.Store.{Store}
use Rattle.inorder_machine.specs.declared.line.Write.TheVariants as write
use Rattle.inorder_machine.specs.declared.line.Stepped.{Stepped}
use Rattle.inorder_machine.specs.Lines.{IfRetired}
use Rattle.inorder_machine.specs.Execute.{At, write_to, store_of, load_outcome, store_outcome, control_outcome, executed_by, executed}
use Rattle.inorder_machine.specs.Units.{unit_write, halves_write, has_flag}
use Rattle.spec_core.specs.Fits.{IsKeptWrite, IsKeptLine}

-- ---- the write of an instruction

kept_target : (writes : Bool) (rd value : ℕ) → IsKeptWrite (write_to (if writes then (if rd == 0 then None else Some rd) else None) value)
kept_target false rd value = tt
kept_target true rd value = go (rd == 0) refl
  where
    go : (t : Bool) → (rd == 0) ≡ t → IsKeptWrite (write_to (if t then None else Some rd) value)
    go true h = tt
    go false h =
        let some : rd ≡ 0 → ⊥ = eqb-false rd 0 h in
        omega (arith, some)

kept_write : (i : Instr) (value : ℕ) → IsKeptWrite (write_to (target_of i) value)
kept_write i value = kept_target (row_line i.row).writes i.rd value

-- ---- the widths of stores

abbrev is_width : ℕ → Bool
is_width width = (width == 1) || ((width == 2) || (width == 4))

abbrev has_width : Meaning → Bool
has_width (Stores width) = is_width width
has_width _ = true

abbrev stores_width : Row → Bool
stores_width r = has_width (row_line r).meaning

all_widths : list_all stores_width rows ≡ true
all_widths = refl

width_is : (width : ℕ) → is_width width ≡ true → IsWidth width
width_is width h = go (width == 1) (width == 2) (width == 4) refl refl refl h
  where
    go : (a b c : Bool) → (width == 1) ≡ a → (width == 2) ≡ b → (width == 4) ≡ c → (a || (b || c)) ≡ true → IsWidth width
    go true b c x y z h = inl (eqb-true width 1 x)
    go false true c x y z h = inr (inl (eqb-true width 2 y))
    go false false true x y z h = inr (inr (eqb-true width 4 z))
    go false false false x y z h = absurd (cc)

-- ---- the outcomes

abbrev Kept : Region → Stepped → Type 0
Kept m s = IfRetired s (IsKeptLine m)

kept_load : (m : Region) (at : At) (i : Instr) (width : ℕ) (signed : Bool) (r : Result ℕ MemFault) → Kept m (load_outcome at i width signed r)
kept_load m at i width signed (Ok value) = record { write = kept_write i _; store = tt }
kept_load m at i width signed (Err fault.Outside) = tt

kept_store : (m : Region) (at : At) (store : Store) (f : Option MemFault) → IsWidth store.width → fault_of m store.addr store.width ≡ f → Kept m (store_outcome at store f)
kept_store m at store None w h = record { write = tt; store = (w, h) }
kept_store m at store (Some fault.Outside) w h = tt

kept_control : (m : Region) (at : At) (i : Instr) (value : ℕ) (n : Next) → Kept m (control_outcome at i value n)
kept_control m at i value (Go next) = record { write = kept_write i value; store = tt }
kept_control m at i value (Misaligned target) = tt

kept_by : (meaning : Meaning) (m : Region) (at : At) (i : Instr) (a b : ℕ) → has_width meaning ≡ true → Kept m (executed_by meaning m at i a b)
kept_by (Computes value) m at i a b h = record { write = kept_write i (value_of i a b at.pc); store = tt }
kept_by (Loads width signed) m at i a b h = kept_load m at i width signed (loaded m (access_of i a).addr width)
kept_by (Stores width) m at i a b h = kept_store m at (store_of (access_of i a).addr width b) (fault_of m (access_of i a).addr width) (width_is width h) refl
kept_by (Jumps target) m at i a b h = kept_control m at i (value_of i a b at.pc) (next_of i a b at.pc)
kept_by (Branches taken) m at i a b h = kept_control m at i (value_of i a b at.pc) (next_of i a b at.pc)
kept_by Fences m at i a b h = record { write = tt; store = tt }
kept_by Stops m at i a b h = tt

pub kept_outcome : (m : Region) (at : At) (i : Instr) (a b : ℕ) → IfRetired (executed m at i a b) (IsKeptLine m)
kept_outcome m at i a b = kept_by (row_line i.row).meaning m at i a b (passes stores_width all_widths i.row)

-- ---- the write of a result

pub kept_result : (rd flags value : ℕ) → rd < 32 → IsKeptWrite (unit_write rd flags value)
kept_result rd flags value l = go (rd == 0) refl (has_flag flags 0) (has_flag flags 1)
  where
    go : (t : Bool) → (rd == 0) ≡ t → (a b : Bool) → IsKeptWrite (if t then write.None else halves_write a b rd value)
    go true h a b = tt
    go false h false false = tt
    go false h true false =
        let some : rd ≡ 0 → ⊥ = eqb-false rd 0 h in
        omega (arith, some)
    go false h false true = omega arith
    go false h true true =
        let some : rd ≡ 0 → ⊥ = eqb-false rd 0 h in
        (omega (arith, some), l)
