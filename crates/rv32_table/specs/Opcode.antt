-- Which registers an instruction names, by its opcode and the format that the standard gives to
-- that: a second view of what the table says of each row, apart from it.
use Rattle.std.specs.Prelude.{◌==◌, ℕ, Bool, Option, Some, None, List, [], ◌∷◌, if◌then◌else◌}
use Rattle.std.specs.List.{list_any}
use Rattle.rv32_table.specs.Word.{bits}

-- the opcodes of RV32IM by their names (chapter 24, table 24.1), without MISC-MEM (FENCE) and
-- SYSTEM (ECALL and EBREAK), which name no register
abbrev pub load : ℕ
load = 0x03

abbrev pub op_imm : ℕ
op_imm = 0x13

abbrev pub auipc : ℕ
auipc = 0x17

abbrev pub store : ℕ
store = 0x23

abbrev pub op : ℕ
op = 0x33

abbrev pub lui : ℕ
lui = 0x37

abbrev pub branch : ℕ
branch = 0x63

abbrev pub jalr : ℕ
jalr = 0x67

abbrev pub jal : ℕ
jal = 0x6f

-- the opcode of a word
abbrev pub opcode_of : ℕ → ℕ
opcode_of word = bits word 6 0

abbrev pub is_one_of : List ℕ → ℕ → Bool
is_one_of opcodes opcode = list_any (λ o. o == opcode) opcodes

-- The formats (section 2.2): R-type has rd, rs1 and rs2, I-type rd and rs1, S-type and B-type rs1
-- and rs2, U-type and J-type rd. OP is R-type; LOAD, OP-IMM and JALR are I-type; STORE is S-type;
-- BRANCH is B-type; LUI and AUIPC are U-type; JAL is J-type.
abbrev pub has_rd : ℕ → Bool
has_rd = is_one_of (op ∷ load ∷ op_imm ∷ jalr ∷ lui ∷ auipc ∷ jal ∷ [])

abbrev pub has_rs1 : ℕ → Bool
has_rs1 = is_one_of (op ∷ load ∷ op_imm ∷ jalr ∷ store ∷ branch ∷ [])

abbrev pub has_rs2 : ℕ → Bool
has_rs2 = is_one_of (op ∷ store ∷ branch ∷ [])

-- a register, if the instruction has its field
abbrev pub named : Bool → ℕ → Option ℕ
named has register = if has then Some register else None
