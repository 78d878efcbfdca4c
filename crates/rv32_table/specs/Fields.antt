-- The row of a word again, by the fields of the word: opcode, funct3 and funct7 (section 2.2).
-- Internal: what the contracts of private functions cite; nothing here has to be believed.
use Rattle.std.specs.Prelude.{◌==◌, ◌&&◌, ℕ, Bool, true, if◌then◌else◌, Option, find}
use Rattle.rv32_table.specs.declared.rows.Row.{Row}
use Rattle.rv32_table.specs.Word.{bits}
use Rattle.rv32_table.specs.Table.{Line, row_line, rows}

-- the fields that the mask keeps are those of the match
abbrev pub fields_match : ℕ → ℕ → ℕ → ℕ → Line → Bool
fields_match opcode funct3 funct7 word l =
    (opcode == bits l.matched 6 0) && (
    if l.mask == 0x7f then true
    else if l.mask == 0xffffffff then word == l.matched
    else (funct3 == bits l.matched 14 12) && (
    if l.mask == 0x707f then true else funct7 == bits l.matched 31 25))

abbrev pub row_of_fields : ℕ → ℕ → ℕ → ℕ → Option Row
row_of_fields opcode funct3 funct7 word =
    find (λ r. fields_match opcode funct3 funct7 word (row_line r)) rows
