-- The memory along the instructions in flight, and what an instruction does with another memory.
use Rattle.std.proofs.Common.{◌≡◌, ℕ, Bool, false, Option, Some, None, List, [], ◌∷◌, length, nat_le, refl, sym, ap, subst, ◌∙◌, ◌+◌, ◌&&◌, if◌then◌else◌}
use Rattle.std.specs.List.{AllByRecursion}
use Rattle.rv32_table.specs.declared.instr.Instr.{Instr}
use Rattle.rv32_table.specs.declared.instr.Kind.TheVariants as row
use Rattle.rv32_table.specs.Table.{Meaning, Computes, Loads, Stores, Jumps, Branches, Fences, Stops, row_line}
use Rattle.rv32_table.specs.Instr.{kind_by, kind_of, access_of}
use Rattle.xif_image.specs.declared.memory.MemFault.TheVariants.{Outside}
use Rattle.xif_image.specs.Region.{Region, loaded}
use Rattle.xif_image.proofs.Stores.{length-stored}
use Rattle.inorder_machine.specs.declared.line.Retire.{Retire}
use Rattle.inorder_machine.specs.declared.line.Store.{Store}
use Rattle.inorder_machine.specs.declared.line.Stepped.{Stepped}
use Rattle.inorder_machine.specs.declared.line.Stepped.TheVariants.{Retired, Stop}
use Rattle.inorder_machine.specs.Execute.{At, store_of, load_outcome, store_outcome, executed_by, executed}
use Rattle.inorder_machine.specs.Lines.{IsStore}
use Rattle.inorder_machine.specs.Machine.{Extension, State, register_of, memory_after, state_after}
use Rattle.cycle_spec.specs.declared.entry.EntryKind.{EntryKind}
use Rattle.cycle_spec.specs.declared.entry.EntryKind.TheVariants.{Local, Unknown, Nowhere}
use Rattle.cycle_spec.specs.Flight.{is_row, is_store_row, is_store}
use Rattle.ahead_spec.specs.Walk.{Item, outcome, stepped, along, Walked}
use Rattle.ahead_spec.specs.Invariant.{Agrees}
use Rattle.ahead_laws.proofs.Rows.{no_store, fitting}
use Rattle.ahead_laws.proofs.Outcomes.{outcome-nowhere, retired-taken, entry-unknown, entry-outcome-local}

-- the same addresses
pub record SameBounds (m n : Region) : Type 0 where
  pub base : n.base ≡ m.base
  pub count : length n.bytes ≡ length m.bytes

pub same-bounds : (m : Region) → SameBounds m m
same-bounds m = record { base = refl; count = refl }

bounds-through : (m n o : Region) → SameBounds m n → SameBounds n o → SameBounds m o
bounds-through m n o a b = record { base = b.base ∙ a.base; count = b.count ∙ a.count }

-- what an instruction does depends on the bounds of the memory, and if it loads on all of it
executed-memory_by : (meaning : Meaning) (m n : Region) (at : At) (i : Instr) (a b : ℕ) → SameBounds m n → (kind_by meaning ≡ row.Load → n ≡ m) → executed_by meaning n at i a b ≡ executed_by meaning m at i a b
executed-memory_by (Computes value) m n at i a b s h = refl
executed-memory_by (Loads width signed) m n at i a b s h = ap (λ k. load_outcome at i width signed (loaded k (access_of i a).addr width)) (h refl)
executed-memory_by (Stores width) m n at i a b s h =
    let address = (access_of i a).addr in
    let fault = λ (base count : ℕ). if nat_le base address && nat_le (address + width) (base + count) then None else Some Outside in
    ap (λ base. store_outcome at (store_of address width b) (fault base (length n.bytes))) s.base
    ∙ ap (λ count. store_outcome at (store_of address width b) (fault m.base count)) s.count
executed-memory_by (Jumps target) m n at i a b s h = refl
executed-memory_by (Branches taken) m n at i a b s h = refl
executed-memory_by Fences m n at i a b s h = refl
executed-memory_by Stops m n at i a b s h = refl

pub executed-memory : (m n : Region) (at : At) (i : Instr) (a b : ℕ) → SameBounds m n → (kind_of i ≡ row.Load → n ≡ m) → executed n at i a b ≡ executed m at i a b
executed-memory m n at i a b s h = executed-memory_by (row_line i.row).meaning m n at i a b s h

-- ---- one instruction in flight

-- what is said of the store of a line
pub record StoreOf (m : Region) (stores : Bool) (store : Option Store) : Type 0 where
  pub none : stores ≡ false → store ≡ None
  pub fits : IsStore m store

pub entry-store : (x : Extension) (memory : Region) (s : State) (y : Item) (l : Retire) → Agrees x memory s y → outcome x s y.entry.pc y.entry.kind y.entry.word ≡ Retired l → StoreOf s.memory (is_store y.entry) l.store
entry-store x memory s y l g h = go y.entry.kind refl
  where
    go : (k : EntryKind) → y.entry.kind ≡ k → StoreOf s.memory (is_row is_store_row k) l.store
    go (Local i) e =
        let done = sym (entry-outcome-local x memory s y i g e) ∙ h in
        record {
          none = λ n. no_store s.memory (record { pc = y.entry.pc; word = y.entry.word }) i (register_of s i.rs1) (register_of s i.rs2) l n done;
          fits = fitting s.memory (record { pc = y.entry.pc; word = y.entry.word }) i (register_of s i.rs1) (register_of s i.rs2) l done;
        }
    go Unknown e =
        let t = retired-taken x s y.entry.pc y.entry.word l (entry-unknown x memory s y g e) (sym (ap (λ q. outcome x s y.entry.pc q y.entry.word) e) ∙ h) in
        let none : l.store ≡ None = ap (λ k. k.store) t.2 in
        record { none = λ _. none; fits = subst (IsStore s.memory) (sym none) tt }
    go Nowhere e = absurd (no (sym (ap (λ q. outcome x s y.entry.pc q y.entry.word) e ∙ outcome-nowhere x s y.entry.pc y.entry.word) ∙ h))
      where
        no : {c : _} → Stop c ≡ Retired l → ⊥
        no k = cc

memory_after-bounds : (m : Region) (store : Option Store) → IsStore m store → SameBounds m (memory_after m store)
memory_after-bounds m None f = same-bounds m
memory_after-bounds m (Some store) f = record { base = refl; count = length-stored m store.addr store.width store.value f.0 f.1 }

step-memory_by : (x : Extension) (memory : Region) (s : State) (y : Item) (o : Stepped) → outcome x s y.entry.pc y.entry.kind y.entry.word ≡ o → Agrees x memory s y
    → SameBounds s.memory (state_after x s o).memory × (is_store y.entry ≡ false → (state_after x s o).memory ≡ s.memory)
step-memory_by x memory s y (Stop c) e g = (same-bounds s.memory, λ _. refl)
step-memory_by x memory s y (Retired l) e g =
    let store = entry-store x memory s y l g e in
    (memory_after-bounds s.memory l.store store.fits, λ n. ap (memory_after s.memory) (store.none n))

step-memory : (x : Extension) (memory : Region) (s : State) (y : Item) → Agrees x memory s y
    → SameBounds s.memory (stepped x s y.entry.pc y.entry.kind y.entry.word).memory
    × (is_store y.entry ≡ false → (stepped x s y.entry.pc y.entry.kind y.entry.word).memory ≡ s.memory)
unfolding stepped
step-memory x memory s y g = step-memory_by x memory s y (outcome x s y.entry.pc y.entry.kind y.entry.word) refl g

-- ---- along all of them

pub along-bounds : (x : Extension) (memory : Region) (ys : List Item) (s : State) → Walked x (Agrees x memory) s ys → SameBounds s.memory (along x s ys).memory
along-bounds x memory [] s g = same-bounds s.memory
along-bounds x memory (y ∷ ys) s g =
    let t = stepped x s y.entry.pc y.entry.kind y.entry.word in
    bounds-through s.memory t.memory (along x t ys).memory (step-memory x memory s y g.0).0 (along-bounds x memory ys t g.1)

pub along-memory : (x : Extension) (memory : Region) (ys : List Item) (s : State) → Walked x (Agrees x memory) s ys → AllByRecursion (λ y. is_store y.entry ≡ false) ys → (along x s ys).memory ≡ s.memory
along-memory x memory [] s g n = refl
along-memory x memory (y ∷ ys) s g n =
    along-memory x memory ys (stepped x s y.entry.pc y.entry.kind y.entry.word) g.1 n.1 ∙ (step-memory x memory s y g.0).1 n.0
