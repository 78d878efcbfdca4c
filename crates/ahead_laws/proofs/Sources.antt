-- An instruction of RV32IM does the same whatever a register holds that it doesn't read.
use Rattle.std.proofs.Common.{◌≡◌, ℕ, Option, Some, None, refl}
use Rattle.rv32_table.specs.declared.rows.Row.{Row}
use Rattle.rv32_table.specs.declared.rows.Row.TheVariants.{Lui, Auipc, Jal, Jalr, Beq, Bne, Blt, Bge, Bltu, Bgeu, Lb, Lh, Lw, Lbu, Lhu, Sb, Sh, Sw, Addi, Slti, Sltiu, Xori, Ori, Andi, Fence, Slli, Srli, Srai, Add, Sub, Sll, Slt, Sltu, Xor, Srl, Sra, Or, And, Mul, Mulh, Mulhsu, Mulhu, Div, Divu, Rem, Remu, Ecall, Ebreak}
use Rattle.rv32_table.specs.declared.instr.Instr.{Instr}
use Rattle.rv32_table.specs.Table.{Reads, ReadsNone, ReadsRs1, ReadsBoth, row_line}
use Rattle.rv32_table.specs.Instr.{sources_by, sources_of}
use Rattle.xif_image.specs.Region.{Region}
use Rattle.inorder_machine.specs.Execute.{At, executed}

-- a value, and 0 where nothing is read
abbrev pub if_read : Option ℕ → ℕ → ℕ
if_read None v = 0
if_read (Some r) v = v

unread_row : (r : Row) (rd rs1 rs2 imm : ℕ) (m : Region) (at : At) (a b : ℕ)
    → let i : Instr = record { row = r; rd = rd; rs1 = rs1; rs2 = rs2; imm = imm } in
    executed m at i (if_read (sources_of i).0 a) (if_read (sources_of i).1 b) ≡ executed m at i a b
unread_row Lui rd rs1 rs2 imm m at a b = refl
unread_row Auipc rd rs1 rs2 imm m at a b = refl
unread_row Jal rd rs1 rs2 imm m at a b = refl
unread_row Jalr rd rs1 rs2 imm m at a b = refl
unread_row Beq rd rs1 rs2 imm m at a b = refl
unread_row Bne rd rs1 rs2 imm m at a b = refl
unread_row Blt rd rs1 rs2 imm m at a b = refl
unread_row Bge rd rs1 rs2 imm m at a b = refl
unread_row Bltu rd rs1 rs2 imm m at a b = refl
unread_row Bgeu rd rs1 rs2 imm m at a b = refl
unread_row Lb rd rs1 rs2 imm m at a b = refl
unread_row Lh rd rs1 rs2 imm m at a b = refl
unread_row Lw rd rs1 rs2 imm m at a b = refl
unread_row Lbu rd rs1 rs2 imm m at a b = refl
unread_row Lhu rd rs1 rs2 imm m at a b = refl
unread_row Sb rd rs1 rs2 imm m at a b = refl
unread_row Sh rd rs1 rs2 imm m at a b = refl
unread_row Sw rd rs1 rs2 imm m at a b = refl
unread_row Addi rd rs1 rs2 imm m at a b = refl
unread_row Slti rd rs1 rs2 imm m at a b = refl
unread_row Sltiu rd rs1 rs2 imm m at a b = refl
unread_row Xori rd rs1 rs2 imm m at a b = refl
unread_row Ori rd rs1 rs2 imm m at a b = refl
unread_row Andi rd rs1 rs2 imm m at a b = refl
unread_row Fence rd rs1 rs2 imm m at a b = refl
unread_row Slli rd rs1 rs2 imm m at a b = refl
unread_row Srli rd rs1 rs2 imm m at a b = refl
unread_row Srai rd rs1 rs2 imm m at a b = refl
unread_row Add rd rs1 rs2 imm m at a b = refl
unread_row Sub rd rs1 rs2 imm m at a b = refl
unread_row Sll rd rs1 rs2 imm m at a b = refl
unread_row Slt rd rs1 rs2 imm m at a b = refl
unread_row Sltu rd rs1 rs2 imm m at a b = refl
unread_row Xor rd rs1 rs2 imm m at a b = refl
unread_row Srl rd rs1 rs2 imm m at a b = refl
unread_row Sra rd rs1 rs2 imm m at a b = refl
unread_row Or rd rs1 rs2 imm m at a b = refl
unread_row And rd rs1 rs2 imm m at a b = refl
unread_row Mul rd rs1 rs2 imm m at a b = refl
unread_row Mulh rd rs1 rs2 imm m at a b = refl
unread_row Mulhsu rd rs1 rs2 imm m at a b = refl
unread_row Mulhu rd rs1 rs2 imm m at a b = refl
unread_row Div rd rs1 rs2 imm m at a b = refl
unread_row Divu rd rs1 rs2 imm m at a b = refl
unread_row Rem rd rs1 rs2 imm m at a b = refl
unread_row Remu rd rs1 rs2 imm m at a b = refl
unread_row Ecall rd rs1 rs2 imm m at a b = refl
unread_row Ebreak rd rs1 rs2 imm m at a b = refl

pub unread : (m : Region) (at : At) (i : Instr) (a b : ℕ) → executed m at i (if_read (sources_of i).0 a) (if_read (sources_of i).1 b) ≡ executed m at i a b
unread m at i a b = unread_row i.row i.rd i.rs1 i.rs2 i.imm m at a b

-- a source is the field of its register, or none
pub first_source : (i : Instr) (r : ℕ) → (sources_of i).0 ≡ Some r → r ≡ i.rs1
first_source i r h = go (row_line i.row).reads h
  where
    go : (reads : Reads) → (sources_by reads i.rs1 i.rs2).0 ≡ Some r → r ≡ i.rs1
    go ReadsNone h = absurd cc
    go ReadsRs1 h = cc
    go ReadsBoth h = cc

pub second_source : (i : Instr) (r : ℕ) → (sources_of i).1 ≡ Some r → r ≡ i.rs2
second_source i r h = go (row_line i.row).reads h
  where
    go : (reads : Reads) → (sources_by reads i.rs1 i.rs2).1 ≡ Some r → r ≡ i.rs2
    go ReadsNone h = absurd cc
    go ReadsRs1 h = absurd cc
    go ReadsBoth h = cc
