-- What an instruction in flight reads is a word, and so is what it writes.
use Rattle.std.proofs.Common.{◌<◌, ◌≤◌, ◌^◌, ◌==◌, ◌++◌, ℕ, Bool, true, false, if◌then◌else◌, List, [], ◌∷◌, filter, Option, Some, None, IfSome}
use Rattle.std.specs.Prelude.{⊤}
use Rattle.std.specs.Prelude.{slice_index}
use Rattle.std.specs.List.{last_or}
use Rattle.std.proofs.lemmas.Nat.{pow_pos}
use Rattle.rv32_table.specs.Instr.{sources_of}
use Rattle.inorder_machine.specs.declared.line.Write.{Write}
use Rattle.inorder_machine.specs.declared.line.Write.TheVariants as write
use Rattle.inorder_machine.specs.Machine.{register_in}
use Rattle.cycle_spec.specs.declared.entry.Entry.{Entry}
use Rattle.cycle_spec.specs.declared.entry.EntryKind.{EntryKind}
use Rattle.cycle_spec.specs.declared.entry.EntryKind.TheVariants.{Local, Unknown, Nowhere}
use Rattle.cycle_spec.specs.declared.entry.Operand.TheVariants.{Here, NotYet}
use Rattle.cycle_spec.specs.Flight.{has_seq, older_than, may_write, value_in, operand_from, operand_behind, operand_at, source_behind, value_or_zero, may_execute, ready_behind}
use Rattle.cycle_spec.specs.State.{Core}
use Rattle.cycle_spec.specs.Choices.{executed_kind, executed_entry, execution}
use Rattle.cycle_lists.specs.Lists.{Each}
use Rattle.cycle_lists.proofs.Every.{Each-filter}
use Rattle.width_laws.proofs.Memories.{IsByte, Each-or}
use Rattle.width_laws.proofs.Rows.{AreWritten, IsOutcome, executed-words}

abbrev pub IsWord : ℕ → Type 0
IsWord n = n < 2 ^ 32

abbrev pub FitsKind : EntryKind → Type 0
FitsKind (Local i) = i.imm < 2 ^ 32
FitsKind Unknown = ⊤
FitsKind Nowhere = ⊤

-- an instruction in flight has numbers that fit, with so many bits for its id
pub record FitsEntry (id_width : ℕ) (e : Entry) : Type 0 where
  pub id : e.id < 2 ^ id_width
  pub word : e.word < 2 ^ 32
  pub kind : FitsKind e.kind
  pub write : AreWritten e.write

-- a core has
pub record FitsCore (w : Core) : Type 0 where
  pub ids : w.window ≤ 2 ^ w.params.id_width
  pub registers : Each IsWord w.registers
  pub memory : Each IsByte w.memory.bytes
  pub entries : Each (FitsEntry w.params.id_width) w.flight

-- ---- a register behind entries

value-word : (w : Write) (r : ℕ) → AreWritten w → value_in w r < 2 ^ 32
value-word write.None r h = pow_pos 32
value-word (write.One rd value) r h = h
value-word (write.Pair rd low high) r h = go (r == rd)
  where
    go : (t : Bool) → (if t then low else high) < 2 ^ 32
    go true = h.0
    go false = h.1

register-word : (registers : List ℕ) (r : ℕ) → Each IsWord registers → register_in registers r < 2 ^ 32
register-word registers r h = go (r == 0)
  where
    go : (t : Bool) → (if t then 0 else slice_index registers r) < 2 ^ 32
    go true = pow_pos 32
    go false = Each-or IsWord registers r 0 h (pow_pos 32)

from-word : (n : ℕ) (registers : List ℕ) (o : Option Entry) (r : ℕ) → Each IsWord registers → IfSome o (FitsEntry n) → value_or_zero (operand_from registers o r) < 2 ^ 32
from-word n registers None r h k = register-word registers r h
from-word n registers (Some e) r h k = go e.done
  where
    go : (t : Bool) → value_or_zero (if t then Here (value_in e.write r) else NotYet) < 2 ^ 32
    go true = value-word e.write r k.write
    go false = pow_pos 32

-- the last of a list
pub last-is : {A : Type 0} (P : A → Type 0) (o : Option A) (xs : List A) → IfSome o P → Each P xs → IfSome (last_or o xs) P
last-is P o [] h a = h
last-is P o (x ∷ xs) h a = last-is P (Some x) xs a.0 a.1

behind-word : (n : ℕ) (dual : Bool) (registers : List ℕ) (older : List Entry) (r : ℕ) → Each IsWord registers → Each (FitsEntry n) older → value_or_zero (operand_behind dual registers older r) < 2 ^ 32
behind-word n dual registers older r h a =
    from-word n registers (last_or None (filter (may_write dual r) older)) r h
    (last-is (FitsEntry n) None (filter (may_write dual r) older) tt (Each-filter (FitsEntry n) (may_write dual r) older a))

older-are : (P : Entry → Type 0) (seq : ℕ) (es : List Entry) → Each P es → Each P (older_than seq es)
older-are P seq [] a = tt
older-are P seq (e ∷ es) a = go (has_seq seq e) (older-are P seq es a.1)
  where
    go : (t : Bool) → Each P (older_than seq es) → Each P (if t then [] else e ∷ older_than seq es)
    go true h = tt
    go false h = (a.0, h)

pub at-word : (n : ℕ) (dual : Bool) (registers : List ℕ) (es : List Entry) (seq r : ℕ) → Each IsWord registers → Each (FitsEntry n) es → value_or_zero (operand_at dual registers es seq r) < 2 ^ 32
at-word n dual registers es seq r h a = behind-word n dual registers (older_than seq es) r h (older-are (FitsEntry n) seq es a)

source-word : (n : ℕ) (dual : Bool) (registers : List ℕ) (older : List Entry) (source : Option ℕ) → Each IsWord registers → Each (FitsEntry n) older → value_or_zero (source_behind dual registers older source) < 2 ^ 32
source-word n dual registers older None h a = pow_pos 32
source-word n dual registers older (Some r) h a = behind-word n dual registers older r h a

-- ---- execution

kind-outcome : (w : Core) (e : Entry) (k : EntryKind) → FitsCore w → FitsKind k → IfSome (executed_kind w e k) (λ x. IsOutcome x.outcome)
kind-outcome w e (Local i) f h =
    let older = older-are (FitsEntry w.params.id_width) e.seq w.flight f.entries in
    executed-words w.memory (record { pc = e.pc; word = e.word }) i _ _ f.memory h
    (source-word w.params.id_width w.params.dual_write w.registers (older_than e.seq w.flight) (sources_of i).0 f.registers older)
    (source-word w.params.id_width w.params.dual_write w.registers (older_than e.seq w.flight) (sources_of i).1 f.registers older)
kind-outcome w e Unknown f h = tt
kind-outcome w e Nowhere f h = tt

ready-is : (P : Entry → Type 0) (dual : Bool) (registers : List ℕ) (older es : List Entry) → Each P es → IfSome (ready_behind dual registers older es) P
ready-is P dual registers older [] a = tt
ready-is P dual registers older (e ∷ es) a = go (may_execute dual registers older e) (ready-is P dual registers (older ++ e ∷ []) es a.1)
  where
    go : (t : Bool) → IfSome (ready_behind dual registers (older ++ e ∷ []) es) P → IfSome (if t then Some e else ready_behind dual registers (older ++ e ∷ []) es) P
    go true h = a.0
    go false h = h

pub execution-words : (w : Core) (es : List Entry) → FitsCore w → Each (FitsEntry w.params.id_width) es → IfSome (execution w es) (λ x. IsOutcome x.outcome)
execution-words w es f a = go (ready_behind w.params.dual_write w.registers [] es) (ready-is (FitsEntry w.params.id_width) w.params.dual_write w.registers [] es a)
  where
    go : (o : Option Entry) → IfSome o (FitsEntry w.params.id_width) → IfSome (Rattle.std.specs.Option.option_and_then (executed_entry w) o) (λ x. IsOutcome x.outcome)
    go None h = tt
    go (Some e) h = kind-outcome w e e.kind f h.kind
