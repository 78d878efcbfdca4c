-- The instruction table of RV32IM (RISC-V Unprivileged ISA, version 20191213, chapters 2 and 7; the
-- masks and matches are the encodings of chapter 24).
use Rattle.std.specs.Prelude.{◌==◌, ◌+◌, ◌*◌, ◌/◌, ◌*ℤ◌, ◌-ℤ◌, ℕ, pos, Bool, true, false, not, nat_lt, bit_and, bit_or, bit_xor, List, [], ◌∷◌}
use Rattle.std.specs.Int.RustNames.{int_lt}
use Rattle.rv32_table.specs.declared.rows.Row.{Row}
use Rattle.rv32_table.specs.declared.rows.Row.TheVariants.{Lui, Auipc, Jal, Jalr, Beq, Bne, Blt, Bge, Bltu, Bgeu, Lb, Lh, Lw, Lbu, Lhu, Sb, Sh, Sw, Addi, Slti, Sltiu, Xori, Ori, Andi, Fence, Slli, Srli, Srai, Add, Sub, Sll, Slt, Sltu, Xor, Srl, Sra, Or, And, Mul, Mulh, Mulhsu, Mulhu, Div, Divu, Rem, Remu, Ecall, Ebreak}
use Rattle.rv32_table.specs.Word.{wrapped, signed, to_word, high_word, flag, shifted_left, shifted_right, quotient, remainder}

-- how the immediate lies in a word (section 2.3)
pub data Format : Type 0 where
  NoImmediate : Format
  IType : Format
  SType : Format
  BType : Format
  UType : Format
  JType : Format

-- which of rs1 and rs2 are read
pub data Reads : Type 0 where
  ReadsNone : Reads
  ReadsRs1 : Reads
  ReadsBoth : Reads

-- what an instruction computes from: the values of rs1 and rs2, its address, its immediate, and the
-- number in its rs2 field
pub record Operands : Type 0 where
  pub a : ℕ
  pub b : ℕ
  pub pc : ℕ
  pub imm : ℕ
  pub shamt : ℕ

-- what an instruction does
pub data Meaning : Type 0 where
  -- writes this value to rd
  Computes : (Operands → ℕ) → Meaning
  -- reads so many bytes at rs1 plus the immediate, extends them to a word, by their sign or by 0,
  -- and writes it to rd
  Loads : ℕ → Bool → Meaning
  -- writes so many low bytes of rs2 at rs1 plus the immediate
  Stores : ℕ → Meaning
  -- goes to this address, and writes the address after its own to rd
  Jumps : (Operands → ℕ) → Meaning
  -- goes to its own address plus the immediate, where this holds
  Branches : (Operands → Bool) → Meaning
  -- orders memory accesses, which changes nothing on one hart
  Fences : Meaning
  -- stops the machine
  Stops : Meaning

-- A line of the table. A word is of the row where its bits under the mask are the match.
pub record Line : Type 0 where
  pub mask : ℕ
  pub matched : ℕ
  pub format : Format
  pub reads : Reads
  -- whether rd is written
  pub writes : Bool
  pub meaning : Meaning

abbrev pub with : ℕ → ℕ → Format → Reads → Bool → Meaning → Line
with mask matched format reads writes meaning = record {
  mask = mask;
  matched = matched;
  format = format;
  reads = reads;
  writes = writes;
  meaning = meaning;
}

-- the table
abbrev pub row_line : Row → Line
row_line Lui = with 0x7f 0x37 UType ReadsNone true (Computes (λ x. x.imm))
row_line Auipc = with 0x7f 0x17 UType ReadsNone true (Computes (λ x. wrapped (x.pc + x.imm)))
row_line Jal = with 0x7f 0x6f JType ReadsNone true (Jumps (λ x. wrapped (x.pc + x.imm)))
row_line Jalr = with 0x707f 0x67 IType ReadsRs1 true (Jumps (λ x. wrapped (x.a + x.imm) / 2 * 2))
row_line Beq = with 0x707f 0x63 BType ReadsBoth false (Branches (λ x. x.a == x.b))
row_line Bne = with 0x707f 0x1063 BType ReadsBoth false (Branches (λ x. not (x.a == x.b)))
row_line Blt = with 0x707f 0x4063 BType ReadsBoth false (Branches (λ x. int_lt (signed x.a) (signed x.b)))
row_line Bge = with 0x707f 0x5063 BType ReadsBoth false (Branches (λ x. not (int_lt (signed x.a) (signed x.b))))
row_line Bltu = with 0x707f 0x6063 BType ReadsBoth false (Branches (λ x. nat_lt x.a x.b))
row_line Bgeu = with 0x707f 0x7063 BType ReadsBoth false (Branches (λ x. not (nat_lt x.a x.b)))
row_line Lb = with 0x707f 0x3 IType ReadsRs1 true (Loads 1 true)
row_line Lh = with 0x707f 0x1003 IType ReadsRs1 true (Loads 2 true)
row_line Lw = with 0x707f 0x2003 IType ReadsRs1 true (Loads 4 false)
row_line Lbu = with 0x707f 0x4003 IType ReadsRs1 true (Loads 1 false)
row_line Lhu = with 0x707f 0x5003 IType ReadsRs1 true (Loads 2 false)
row_line Sb = with 0x707f 0x23 SType ReadsBoth false (Stores 1)
row_line Sh = with 0x707f 0x1023 SType ReadsBoth false (Stores 2)
row_line Sw = with 0x707f 0x2023 SType ReadsBoth false (Stores 4)
row_line Addi = with 0x707f 0x13 IType ReadsRs1 true (Computes (λ x. wrapped (x.a + x.imm)))
row_line Slti = with 0x707f 0x2013 IType ReadsRs1 true (Computes (λ x. flag (int_lt (signed x.a) (signed x.imm))))
row_line Sltiu = with 0x707f 0x3013 IType ReadsRs1 true (Computes (λ x. flag (nat_lt x.a x.imm)))
row_line Xori = with 0x707f 0x4013 IType ReadsRs1 true (Computes (λ x. bit_xor x.a x.imm))
row_line Ori = with 0x707f 0x6013 IType ReadsRs1 true (Computes (λ x. bit_or x.a x.imm))
row_line Andi = with 0x707f 0x7013 IType ReadsRs1 true (Computes (λ x. bit_and x.a x.imm))
row_line Fence = with 0x707f 0xf NoImmediate ReadsNone false Fences
row_line Slli = with 0xfe00707f 0x1013 NoImmediate ReadsRs1 true (Computes (λ x. shifted_left x.a x.shamt))
row_line Srli = with 0xfe00707f 0x5013 NoImmediate ReadsRs1 true (Computes (λ x. shifted_right (pos x.a) x.shamt))
row_line Srai = with 0xfe00707f 0x40005013 NoImmediate ReadsRs1 true (Computes (λ x. shifted_right (signed x.a) x.shamt))
row_line Add = with 0xfe00707f 0x33 NoImmediate ReadsBoth true (Computes (λ x. wrapped (x.a + x.b)))
row_line Sub = with 0xfe00707f 0x40000033 NoImmediate ReadsBoth true (Computes (λ x. to_word (pos x.a -ℤ pos x.b)))
row_line Sll = with 0xfe00707f 0x1033 NoImmediate ReadsBoth true (Computes (λ x. shifted_left x.a x.b))
row_line Slt = with 0xfe00707f 0x2033 NoImmediate ReadsBoth true (Computes (λ x. flag (int_lt (signed x.a) (signed x.b))))
row_line Sltu = with 0xfe00707f 0x3033 NoImmediate ReadsBoth true (Computes (λ x. flag (nat_lt x.a x.b)))
row_line Xor = with 0xfe00707f 0x4033 NoImmediate ReadsBoth true (Computes (λ x. bit_xor x.a x.b))
row_line Srl = with 0xfe00707f 0x5033 NoImmediate ReadsBoth true (Computes (λ x. shifted_right (pos x.a) x.b))
row_line Sra = with 0xfe00707f 0x40005033 NoImmediate ReadsBoth true (Computes (λ x. shifted_right (signed x.a) x.b))
row_line Or = with 0xfe00707f 0x6033 NoImmediate ReadsBoth true (Computes (λ x. bit_or x.a x.b))
row_line And = with 0xfe00707f 0x7033 NoImmediate ReadsBoth true (Computes (λ x. bit_and x.a x.b))
row_line Mul = with 0xfe00707f 0x2000033 NoImmediate ReadsBoth true (Computes (λ x. wrapped (x.a * x.b)))
row_line Mulh = with 0xfe00707f 0x2001033 NoImmediate ReadsBoth true (Computes (λ x. high_word (signed x.a *ℤ signed x.b)))
row_line Mulhsu = with 0xfe00707f 0x2002033 NoImmediate ReadsBoth true (Computes (λ x. high_word (signed x.a *ℤ pos x.b)))
row_line Mulhu = with 0xfe00707f 0x2003033 NoImmediate ReadsBoth true (Computes (λ x. high_word (pos x.a *ℤ pos x.b)))
row_line Div = with 0xfe00707f 0x2004033 NoImmediate ReadsBoth true (Computes (λ x. quotient (signed x.a) (signed x.b)))
row_line Divu = with 0xfe00707f 0x2005033 NoImmediate ReadsBoth true (Computes (λ x. quotient (pos x.a) (pos x.b)))
row_line Rem = with 0xfe00707f 0x2006033 NoImmediate ReadsBoth true (Computes (λ x. remainder (signed x.a) (signed x.b)))
row_line Remu = with 0xfe00707f 0x2007033 NoImmediate ReadsBoth true (Computes (λ x. remainder (pos x.a) (pos x.b)))
row_line Ecall = with 0xffffffff 0x73 NoImmediate ReadsNone false Stops
row_line Ebreak = with 0xffffffff 0x100073 NoImmediate ReadsNone false Stops

-- every row
abbrev pub rows : List Row
rows =
    Lui
    ∷ Auipc
    ∷ Jal
    ∷ Jalr
    ∷ Beq
    ∷ Bne
    ∷ Blt
    ∷ Bge
    ∷ Bltu
    ∷ Bgeu
    ∷ Lb
    ∷ Lh
    ∷ Lw
    ∷ Lbu
    ∷ Lhu
    ∷ Sb
    ∷ Sh
    ∷ Sw
    ∷ Addi
    ∷ Slti
    ∷ Sltiu
    ∷ Xori
    ∷ Ori
    ∷ Andi
    ∷ Fence
    ∷ Slli
    ∷ Srli
    ∷ Srai
    ∷ Add
    ∷ Sub
    ∷ Sll
    ∷ Slt
    ∷ Sltu
    ∷ Xor
    ∷ Srl
    ∷ Sra
    ∷ Or
    ∷ And
    ∷ Mul
    ∷ Mulh
    ∷ Mulhsu
    ∷ Mulhu
    ∷ Div
    ∷ Divu
    ∷ Rem
    ∷ Remu
    ∷ Ecall
    ∷ Ebreak
    ∷ []
