-- What the table says of a word, and of a decoded instruction.
use Rattle.std.specs.Prelude.{◌==◌, ◌<◌, ◌+◌, ◌*◌, ◌%◌, ◌^◌, ℕ, Bool, false, if◌then◌else◌, Option, Some, None, bit_and, find}
use Rattle.std.specs.Option.{option_map}
use Rattle.rv32_table.specs.declared.rows.Row.{Row}
use Rattle.rv32_table.specs.declared.instr.Instr.{Instr}
use Rattle.rv32_table.specs.declared.instr.Kind.{Kind}
use Rattle.rv32_table.specs.declared.instr.Kind.TheVariants.{Alu, Load, Store, Control, Fence, Stop}
use Rattle.rv32_table.specs.declared.control.Next.{Next}
use Rattle.rv32_table.specs.declared.control.Next.TheVariants.{Go, Misaligned}
use Rattle.rv32_table.specs.declared.instr.Access.{Access}
use Rattle.rv32_table.specs.Word.{wrapped, bits, sign_extended}
use Rattle.rv32_table.specs.Table.{Format, NoImmediate, IType, SType, BType, UType, JType, Reads, ReadsNone, ReadsRs1, ReadsBoth, Operands, Meaning, Computes, Loads, Stores, Jumps, Branches, Fences, Stops, Line, row_line, rows}

-- the bits of a word under the mask of a line are its match
abbrev pub matches : ℕ → Line → Bool
matches word l = bit_and word l.mask == l.matched

-- the row of a word
abbrev pub row_of : ℕ → Option Row
row_of word = find (λ r. matches word (row_line r)) rows

-- the immediate of a word, extended by its sign (section 2.3)
abbrev pub immediate_of : Format → ℕ → ℕ
immediate_of NoImmediate word = 0
immediate_of IType word = sign_extended 12 (bits word 31 20)
immediate_of SType word = sign_extended 12 (2 ^ 5 * bits word 31 25 + bits word 11 7)
immediate_of BType word =
    sign_extended 13 (2 ^ 12 * bits word 31 31 + 2 ^ 11 * bits word 7 7
    + 2 ^ 5 * bits word 30 25 + 2 * bits word 11 8)
immediate_of UType word = 2 ^ 12 * bits word 31 12
immediate_of JType word =
    sign_extended 21 (2 ^ 20 * bits word 31 31 + 2 ^ 12 * bits word 19 12
    + 2 ^ 11 * bits word 20 20 + 2 * bits word 30 21)

-- a word, read as an instruction of a row
abbrev pub instr_of : ℕ → Row → Instr
instr_of word row = record {
  row = row;
  rd = bits word 11 7;
  rs1 = bits word 19 15;
  rs2 = bits word 24 20;
  imm = immediate_of (row_line row).format word;
}

-- the instruction that a word is
abbrev pub decoded : ℕ → Option Instr
decoded word = option_map (instr_of word) (row_of word)

-- the fields for registers are numbers of registers, x0 to x31
pub record NamesRegisters (i : Instr) : Type 0 where
  pub rd : i.rd < 32
  pub rs1 : i.rs1 < 32
  pub rs2 : i.rs2 < 32

-- the fields of a word for registers: rd, and source 0, 1 or 2, which is rs1, rs2 or rs3
abbrev pub rd_field : ℕ → ℕ
rd_field word = bits word 11 7

abbrev pub source_field : ℕ → ℕ → ℕ
source_field word lane =
    if lane == 0 then bits word 19 15
    else if lane == 1 then bits word 24 20
    else bits word 31 27

abbrev pub kind_by : Meaning → Kind
kind_by (Computes value) = Alu
kind_by (Loads width signed) = Load
kind_by (Stores width) = Store
kind_by (Jumps target) = Control
kind_by (Branches taken) = Control
kind_by Fences = Fence
kind_by Stops = Stop

abbrev pub kind_of : Instr → Kind
kind_of i = kind_by (row_line i.row).meaning

abbrev pub sources_by : Reads → ℕ → ℕ → Option ℕ × Option ℕ
sources_by ReadsNone rs1 rs2 = (None, None)
sources_by ReadsRs1 rs1 rs2 = (Some rs1, None)
sources_by ReadsBoth rs1 rs2 = (Some rs1, Some rs2)

-- the registers that an instruction reads
abbrev pub sources_of : Instr → Option ℕ × Option ℕ
sources_of i = sources_by (row_line i.row).reads i.rs1 i.rs2

-- the register that it writes, which is never x0
abbrev pub target_of : Instr → Option ℕ
target_of i = if (row_line i.row).writes then (if i.rd == 0 then None else Some i.rd) else None

-- what it computes from, with the values of rs1 and rs2 and its address
abbrev pub operands_of : Instr → ℕ → ℕ → ℕ → Operands
operands_of i a b pc = record { a = a; b = b; pc = pc; imm = i.imm; shamt = i.rs2 }

abbrev pub value_by : Meaning → Operands → ℕ
value_by (Computes value) x = value x
value_by (Jumps target) x = wrapped (x.pc + 4)
value_by _ x = 0

-- the value of rd, of an instruction that computes one or jumps
abbrev pub value_of : Instr → ℕ → ℕ → ℕ → ℕ
value_of i a b pc = value_by (row_line i.row).meaning (operands_of i a b pc)

-- to a target, which has to be a multiple of 4 (section 2.5)
abbrev pub to_target : ℕ → Next
to_target target = if target % 4 == 0 then Go target else Misaligned target

abbrev pub next_by : Meaning → Operands → Next
next_by (Jumps target) x = to_target (target x)
next_by (Branches taken) x =
    if taken x then to_target (wrapped (x.pc + x.imm)) else Go (wrapped (x.pc + 4))
next_by _ x = Go (wrapped (x.pc + 4))

-- where the machine goes after an instruction
abbrev pub next_of : Instr → ℕ → ℕ → ℕ → Next
next_of i a b pc = next_by (row_line i.row).meaning (operands_of i a b pc)

abbrev pub width_by : Meaning → ℕ
width_by (Loads width signed) = width
width_by (Stores width) = width
width_by _ = 0

abbrev pub signed_by : Meaning → Bool
signed_by (Loads width signed) = signed
signed_by _ = false

-- the bytes that a load or a store accesses, with the value of rs1
abbrev pub access_of : Instr → ℕ → Access
access_of i a = record {
  addr = wrapped (a + i.imm);
  width = width_by (row_line i.row).meaning;
  signed = signed_by (row_line i.row).meaning;
}
