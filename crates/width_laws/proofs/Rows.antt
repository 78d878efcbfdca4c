-- What an instruction of RV32IM writes is a word.
use Rattle.std.proofs.Common.{◌≡◌, ◌⊎◌, ◌<◌, ◌+◌, ◌-◌, ◌*◌, ◌*ℤ◌, ◌%◌, ◌^◌, ℕ, pos, Bool, true, false, if◌then◌else◌, Option, Some, None, bit_and, inl, inr, refl, sym, subst, arith}
use Rattle.std.specs.Prelude.{⊤}
use Rattle.std.specs.Prelude.{ℤ}
use Rattle.std.specs.Int.{w32, from_le_bytes, int_div_euclid}
use Rattle.std.specs.Ordering.{int_eq}
use Rattle.std.proofs.lemmas.Nat.{pow_pos, or_lt, xor_lt, and_le_l}
use Rattle.std.proofs.Math.Nat.{mod-lt}
use Rattle.rv32_table.specs.declared.rows.Row.{Row}
use Rattle.rv32_table.specs.declared.rows.Row.TheVariants as row
use Rattle.rv32_table.specs.declared.instr.Instr.{Instr}
use Rattle.rv32_table.specs.declared.control.Next.{Next}
use Rattle.rv32_table.specs.declared.control.Next.TheVariants.{Go, Misaligned}
use Rattle.rv32_table.specs.Table.{Format, NoImmediate, IType, SType, BType, UType, JType, Operands, Meaning, Computes, Loads, Stores, Jumps, Branches, Fences, Stops, row_line}
use Rattle.rv32_table.specs.Word.{bits, high_word, shifted_right, quotient, remainder, signed}
use Rattle.rv32_table.specs.Instr.{immediate_of, row_of, instr_of, decoded, value_by, value_of, next_of, operands_of, target_of, access_of}
use Rattle.xif_image.specs.declared.memory.MemFault.{MemFault}
use Rattle.xif_image.specs.declared.memory.MemFault.TheVariants as fault
use Rattle.xif_image.specs.Region.{Region, fault_of, loaded, bytes_at}
use Rattle.inorder_machine.specs.declared.line.Write.{Write}
use Rattle.inorder_machine.specs.declared.line.Write.TheVariants as write
use Rattle.inorder_machine.specs.declared.line.Store.{Store}
use Rattle.inorder_machine.specs.declared.line.Stepped.{Stepped}
use Rattle.inorder_machine.specs.declared.line.Stepped.TheVariants.{Retired, Stop}
use Rattle.inorder_machine.specs.Execute.{At, write_to, extended, load_outcome, store_outcome, control_outcome, executed_by, executed}
use Rattle.cycle_lists.specs.Lists.{Each}
use Rattle.width_laws.proofs.Bounds.{word-zero, word-wrapped, word-of, word-flag, word-signed}
use Rattle.width_laws.proofs.Memories.{IsByte, number-word, number-byte, number-pair, bytes-at}

-- ---- immediates

bits-below : (word high low : ℕ) → bits word high low < 2 ^ (high + 1 - low)
bits-below word high low = mod-lt _ (pow_pos (high + 1 - low))

pub immediate-word : (format : Format) (word : ℕ) → immediate_of format word < 2 ^ 32
immediate-word NoImmediate word = word-zero
immediate-word IType word = let h = bits-below word 31 20 in word-signed 12 (bits word 31 20) h (omega (arith, h))
immediate-word SType word =
    let h = bits-below word 31 25 in
    let k = bits-below word 11 7 in
    word-signed 12 (2 ^ 5 * bits word 31 25 + bits word 11 7) (omega (arith, h, k)) (omega (arith, h, k))
immediate-word BType word =
    let h = bits-below word 31 31 in
    let i = bits-below word 7 7 in
    let j = bits-below word 30 25 in
    let k = bits-below word 11 8 in
    let n = 2 ^ 12 * bits word 31 31 + 2 ^ 11 * bits word 7 7 + 2 ^ 5 * bits word 30 25 + 2 * bits word 11 8 in
    word-signed 13 n (omega (arith, h, i, j, k)) (omega (arith, h, i, j, k))
immediate-word UType word = let h = bits-below word 31 12 in omega (arith, h)
immediate-word JType word =
    let h = bits-below word 31 31 in
    let i = bits-below word 19 12 in
    let j = bits-below word 20 20 in
    let k = bits-below word 30 21 in
    let n = 2 ^ 20 * bits word 31 31 + 2 ^ 12 * bits word 19 12 + 2 ^ 11 * bits word 20 20 + 2 * bits word 30 21 in
    word-signed 21 n (omega (arith, h, i, j, k)) (omega (arith, h, i, j, k))

-- ---- the table

pub record AreWords (x : Operands) : Type 0 where
  pub a : x.a < 2 ^ 32
  pub b : x.b < 2 ^ 32
  pub imm : x.imm < 2 ^ 32

-- what a row computes is a word, and it extends only bytes and halves by their sign
abbrev pub IsPlain : Meaning → Type 0
IsPlain (Computes value) = (x : Operands) → AreWords x → value x < 2 ^ 32
IsPlain (Loads width signed) = ((width ≡ 1) ⊎ (width ≡ 2)) ⊎ (signed ≡ false)
IsPlain _ = ⊤

right-word : (z : ℤ) (amount : ℕ) → shifted_right z amount < 2 ^ 32
right-word z amount = word-of (int_div_euclid z (pos (2 ^ (amount % 32))))

high-word : (z : ℤ) → high_word z < 2 ^ 32
high-word z = word-of (int_div_euclid z (pos (2 ^ 32)))

quotient-word : (a b : ℤ) → quotient a b < 2 ^ 32
quotient-word a b = go (int_eq b (pos 0)) (word-of _)
  where
    go : (t : Bool) {n : ℕ} → n < 2 ^ 32 → (if t then 2 ^ 32 - 1 else n) < 2 ^ 32
    go true h = omega arith
    go false h = h

remainder-word : (a b : ℤ) → remainder a b < 2 ^ 32
remainder-word a b = go (int_eq b (pos 0)) (word-of _) (word-of _)
  where
    go : (t : Bool) {m n : ℕ} → m < 2 ^ 32 → n < 2 ^ 32 → (if t then m else n) < 2 ^ 32
    go true h k = h
    go false h k = k

and-word : (a b : ℕ) → a < 2 ^ 32 → bit_and a b < 2 ^ 32
and-word a b h = omega (arith, and_le_l a b, h)

plain : (r : Row) → IsPlain (row_line r).meaning
plain row.Lui = λ x h. h.imm
plain row.Auipc = λ x h. word-wrapped _
plain row.Jal = tt
plain row.Jalr = tt
plain row.Beq = tt
plain row.Bne = tt
plain row.Blt = tt
plain row.Bge = tt
plain row.Bltu = tt
plain row.Bgeu = tt
plain row.Lb = inl (inl refl)
plain row.Lh = inl (inr refl)
plain row.Lw = inr refl
plain row.Lbu = inr refl
plain row.Lhu = inr refl
plain row.Sb = tt
plain row.Sh = tt
plain row.Sw = tt
plain row.Addi = λ x h. word-wrapped _
plain row.Slti = λ x h. word-flag _
plain row.Sltiu = λ x h. word-flag _
plain row.Xori = λ x h. xor_lt 32 x.a x.imm h.a h.imm
plain row.Ori = λ x h. or_lt 32 x.a x.imm h.a h.imm
plain row.Andi = λ x h. and-word x.a x.imm h.a
plain row.Fence = tt
plain row.Slli = λ x h. word-wrapped _
plain row.Srli = λ x h. right-word (pos x.a) x.shamt
plain row.Srai = λ x h. right-word (signed x.a) x.shamt
plain row.Add = λ x h. word-wrapped _
plain row.Sub = λ x h. word-of _
plain row.Sll = λ x h. word-wrapped _
plain row.Slt = λ x h. word-flag _
plain row.Sltu = λ x h. word-flag _
plain row.Xor = λ x h. xor_lt 32 x.a x.b h.a h.b
plain row.Srl = λ x h. right-word (pos x.a) x.b
plain row.Sra = λ x h. right-word (signed x.a) x.b
plain row.Or = λ x h. or_lt 32 x.a x.b h.a h.b
plain row.And = λ x h. and-word x.a x.b h.a
plain row.Mul = λ x h. word-wrapped _
plain row.Mulh = λ x h. high-word (signed x.a *ℤ signed x.b)
plain row.Mulhsu = λ x h. high-word (signed x.a *ℤ pos x.b)
plain row.Mulhu = λ x h. high-word (pos x.a *ℤ pos x.b)
plain row.Div = λ x h. quotient-word (signed x.a) (signed x.b)
plain row.Divu = λ x h. quotient-word (pos x.a) (pos x.b)
plain row.Rem = λ x h. remainder-word (signed x.a) (signed x.b)
plain row.Remu = λ x h. remainder-word (pos x.a) (pos x.b)
plain row.Ecall = tt
plain row.Ebreak = tt

-- ---- what is written

abbrev pub AreWritten : Write → Type 0
AreWritten write.None = ⊤
AreWritten (write.One rd value) = value < 2 ^ 32
AreWritten (write.Pair rd low high) = (low < 2 ^ 32) × (high < 2 ^ 32)

abbrev pub IsOutcome : Stepped → Type 0
IsOutcome (Retired line) = AreWritten line.write
IsOutcome (Stop cause) = ⊤

to-target : (target : Option ℕ) (value : ℕ) → value < 2 ^ 32 → AreWritten (write_to target value)
to-target None value h = tt
to-target (Some rd) value h = h

value-word : (m : Meaning) (x : Operands) → IsPlain m → AreWords x → value_by m x < 2 ^ 32
value-word (Computes value) x p h = p x h
value-word (Loads width signed) x p h = word-zero
value-word (Stores width) x p h = word-zero
value-word (Jumps target) x p h = word-wrapped _
value-word (Branches taken) x p h = word-zero
value-word Fences x p h = word-zero
value-word Stops x p h = word-zero

control-outcome : (at : At) (i : Instr) (value : ℕ) (next : Next) → value < 2 ^ 32 → IsOutcome (control_outcome at i value next)
control-outcome at i value (Go next) h = to-target (target_of i) value h
control-outcome at i value (Misaligned target) h = tt

store-outcome : (at : At) (store : Store) (o : Option MemFault) → IsOutcome (store_outcome at store o)
store-outcome at store None = tt
store-outcome at store (Some fault.Outside) = tt

-- a loaded number as a word
extended-word : (m : Region) (address width : ℕ) (signed : Bool) → Each IsByte m.bytes → IsPlain (Loads width signed)
    → extended width signed (from_le_bytes w32 (bytes_at m address width)) < 2 ^ 32
extended-word m address width false h p = number-word (bytes_at m address width) (bytes-at m address width h)
extended-word m address width true h (inl (inl e)) =
    subst (λ n. extended n true (from_le_bytes w32 (bytes_at m address n)) < 2 ^ 32) (sym e)
    (let k = number-byte m address h in word-signed 8 (from_le_bytes w32 (bytes_at m address 1)) k (omega (arith, k)))
extended-word m address width true h (inl (inr e)) =
    subst (λ n. extended n true (from_le_bytes w32 (bytes_at m address n)) < 2 ^ 32) (sym e)
    (let k = number-pair m address h in word-signed 16 (from_le_bytes w32 (bytes_at m address 2)) k (omega (arith, k)))
extended-word m address width true h (inr e) = cc

load-outcome : (at : At) (i : Instr) (m : Region) (address width : ℕ) (signed : Bool) → Each IsByte m.bytes → IsPlain (Loads width signed)
    → IsOutcome (load_outcome at i width signed (loaded m address width))
load-outcome at i m address width signed h p = go (fault_of m address width)
  where
    go : (o : Option MemFault) → IsOutcome (load_outcome at i width signed (Rattle.xif_image.specs.Region.unless o (from_le_bytes w32 (bytes_at m address width))))
    go None = to-target (target_of i) _ (extended-word m address width signed h p)
    go (Some fault.Outside) = tt

by-meaning : (meaning : Meaning) (m : Region) (at : At) (i : Instr) (a b : ℕ) → Each IsByte m.bytes → IsPlain meaning → value_of i a b at.pc < 2 ^ 32 → IsOutcome (executed_by meaning m at i a b)
by-meaning (Computes value) m at i a b h p v = to-target (target_of i) _ v
by-meaning (Loads width signed) m at i a b h p v = load-outcome at i m (access_of i a).addr width signed h p
by-meaning (Stores width) m at i a b h p v = store-outcome at _ _
by-meaning (Jumps target) m at i a b h p v = control-outcome at i _ (next_of i a b at.pc) v
by-meaning (Branches taken) m at i a b h p v = control-outcome at i _ (next_of i a b at.pc) v
by-meaning Fences m at i a b h p v = tt
by-meaning Stops m at i a b h p v = tt

-- what an instruction does by words, in a memory of bytes
pub executed-words : (m : Region) (at : At) (i : Instr) (a b : ℕ) → Each IsByte m.bytes → i.imm < 2 ^ 32 → a < 2 ^ 32 → b < 2 ^ 32 → IsOutcome (executed m at i a b)
executed-words m at i a b h imm ha hb =
    by-meaning (row_line i.row).meaning m at i a b h (plain i.row)
    (value-word (row_line i.row).meaning (operands_of i a b at.pc) (plain i.row) (record { a = ha; b = hb; imm = imm }))

-- the immediate of a decoded word
abbrev pub HasImmediate : Option Instr → Type 0
HasImmediate None = ⊤
HasImmediate (Some i) = i.imm < 2 ^ 32

pub decoded-immediate : (word : ℕ) → HasImmediate (decoded word)
decoded-immediate word = go (row_of word)
  where
    go : (o : Option Row) → HasImmediate (Rattle.std.specs.Option.option_map (instr_of word) o)
    go None = tt
    go (Some r) = immediate-word (row_line r).format word
