-- The columns of the table that name registers are those of the formats, by a test over the rows.
use Rattle.std.proofs.Common.{◌≡◌, ◌==◌, ◌&&◌, ℕ, Bool, true, false, not, List, [], ◌∷◌, Option, Some, None, bit_and, refl, sym, ap, ◌∙◌, inl, inr, if◌then◌else◌}
use Rattle.std.specs.List.{find, list_all}
use Rattle.std.specs.Option.{option_map}
use Rattle.std.proofs.lemmas.Bool.{cases_Bool, cond-true, cond-false, eqb-true, and_parts}
use Rattle.std.proofs.lemmas.Nat.{and_assoc}
use Rattle.rv32_table.specs.declared.rows.Row.{Row}
use Rattle.rv32_table.specs.declared.instr.Instr.{Instr}
use Rattle.rv32_table.specs.Table.{Line, Reads, ReadsNone, ReadsRs1, ReadsBoth, row_line, rows}
use Rattle.rv32_table.specs.Instr.{matches, row_of, instr_of, decoded, sources_by, sources_of, target_of}
use Rattle.rv32_table.specs.Opcode.{opcode_of, has_rd, has_rs1, has_rs2, named}
use Rattle.rv32_table.proofs.Masks.{and_opcode}
use Rattle.rv32_table.proofs.Distinct.{passes}

-- what is found passes the test
find-passes : {X : Type 0} (p : X → Bool) (xs : List X) (x : X) → find p xs ≡ Some x → p x ≡ true
find-passes p [] x e = absurd cc
find-passes p (y ∷ xs) x e =
    elim (cases_Bool (p y)) [
      | inl t ↦
          let found : Some y ≡ Some x = sym (cond-true (p y) (Some y) (find p xs) t) ∙ e in
          let same : x ≡ y = cc in
          ap p same ∙ t
      | inr f ↦ find-passes p xs x (sym (cond-false (p y) (Some y) (find p xs) f) ∙ e)
    ]

-- the mask of a line keeps the opcode
abbrev keeps_opcode : Line → Bool
keeps_opcode l = bit_and l.mask 0x7f == 0x7f

-- the opcode of a word is that of its line
opcode-matches : (w : ℕ) (l : Line) → keeps_opcode l ≡ true → matches w l ≡ true → opcode_of w ≡ opcode_of l.matched
opcode-matches w l kept h =
    let whole : bit_and l.mask 0x7f ≡ 0x7f = eqb-true (bit_and l.mask 0x7f) 0x7f kept in
    let e : bit_and w l.mask ≡ l.matched = eqb-true (bit_and w l.mask) l.matched h in
    sym (and_opcode w)
    ∙ ap (bit_and w) (sym whole)
    ∙ sym (and_assoc 0x7f w l.mask)
    ∙ ap (λ v. bit_and v 0x7f) e
    ∙ and_opcode l.matched

-- the columns as tests
abbrev reads_rs1 : Reads → Bool
reads_rs1 ReadsNone = false
reads_rs1 ReadsRs1 = true
reads_rs1 ReadsBoth = true

abbrev reads_rs2 : Reads → Bool
reads_rs2 ReadsNone = false
reads_rs2 ReadsRs1 = false
reads_rs2 ReadsBoth = true

sources-named : (reads : Reads) (rs1 rs2 : ℕ) → sources_by reads rs1 rs2 ≡ (named (reads_rs1 reads) rs1, named (reads_rs2 reads) rs2)
sources-named ReadsNone rs1 rs2 = refl
sources-named ReadsRs1 rs1 rs2 = refl
sources-named ReadsBoth rs1 rs2 = refl

abbrev agree : Bool → Bool → Bool
agree a b = if a then b else not b

agree-true : (a b : Bool) → agree a b ≡ true → a ≡ b
agree-true true true h = refl
agree-true true false h = absurd cc
agree-true false true h = absurd cc
agree-true false false h = refl

-- a line names the registers of the format of its opcode
abbrev is_of_format : Line → Bool
is_of_format l =
    (keeps_opcode l && agree l.writes (has_rd (opcode_of l.matched)))
    && (agree (reads_rs1 l.reads) (has_rs1 (opcode_of l.matched)) && agree (reads_rs2 l.reads) (has_rs2 (opcode_of l.matched)))

all_of_format : list_all (λ r. is_of_format (row_line r)) rows ≡ true
all_of_format = refl

-- the registers that the line of a word names are those of the word's own opcode
pub record NamesRegistersOf (w : ℕ) (l : Line) : Type 0 where
  pub rd : l.writes ≡ has_rd (opcode_of w)
  pub rs1 : reads_rs1 l.reads ≡ has_rs1 (opcode_of w)
  pub rs2 : reads_rs2 l.reads ≡ has_rs2 (opcode_of w)

named-of : (w : ℕ) (l : Line) → is_of_format l ≡ true → matches w l ≡ true → NamesRegistersOf w l
named-of w l h m =
    let parts = and_parts (keeps_opcode l && agree l.writes (has_rd (opcode_of l.matched))) (agree (reads_rs1 l.reads) (has_rs1 (opcode_of l.matched)) && agree (reads_rs2 l.reads) (has_rs2 (opcode_of l.matched))) h in
    let first = and_parts (keeps_opcode l) (agree l.writes (has_rd (opcode_of l.matched))) parts.0 in
    let last = and_parts (agree (reads_rs1 l.reads) (has_rs1 (opcode_of l.matched))) (agree (reads_rs2 l.reads) (has_rs2 (opcode_of l.matched))) parts.1 in
    let same : opcode_of l.matched ≡ opcode_of w = sym (opcode-matches w l first.0 m) in
    record {
      rd = agree-true l.writes (has_rd (opcode_of l.matched)) first.1 ∙ ap has_rd same;
      rs1 = agree-true (reads_rs1 l.reads) (has_rs1 (opcode_of l.matched)) last.0 ∙ ap has_rs1 same;
      rs2 = agree-true (reads_rs2 l.reads) (has_rs2 (opcode_of l.matched)) last.1 ∙ ap has_rs2 same;
    }

registers-of : (w : ℕ) (r : Row) → row_of w ≡ Some r → NamesRegistersOf w (row_line r)
registers-of w r e =
    let right : is_of_format (row_line r) ≡ true = passes (λ r. is_of_format (row_line r)) all_of_format r in
    named-of w (row_line r) right (find-passes (λ r. matches w (row_line r)) rows r e)

-- the row of an instruction is that of its word
row_of-decoded : (w : ℕ) (i : Instr) (o : Option Row) → option_map (instr_of w) o ≡ Some i → o ≡ Some i.row
row_of-decoded w i None e = absurd cc
row_of-decoded w i (Some r) e =
    let same : instr_of w r ≡ i = cc in
    ap (λ j. Some j.row) same

named_here : (w : ℕ) (i : Instr) → decoded w ≡ Some i → NamesRegistersOf w (row_line i.row)
named_here w i e = registers-of w i.row (row_of-decoded w i (row_of w) e)

pub sources-of : (w : ℕ) (i : Instr) → decoded w ≡ Some i → sources_of i ≡ (named (has_rs1 (opcode_of w)) i.rs1, named (has_rs2 (opcode_of w)) i.rs2)
sources-of w i e =
    let here = named_here w i e in
    sources-named (row_line i.row).reads i.rs1 i.rs2
    ∙ ap (λ b. (named b i.rs1, named (reads_rs2 (row_line i.row).reads) i.rs2)) here.rs1
    ∙ ap (λ b. (named (has_rs1 (opcode_of w)) i.rs1, named b i.rs2)) here.rs2

-- whether a row writes, and whether it names x0, can be tested in either order
target-named : (writes zero : Bool) (rd : ℕ) → (if writes then (if zero then None else Some rd) else None) ≡ (if zero then None else named writes rd)
target-named true true rd = refl
target-named true false rd = refl
target-named false true rd = refl
target-named false false rd = refl

pub target-of : (w : ℕ) (i : Instr) → decoded w ≡ Some i → target_of i ≡ (if i.rd == 0 then None else named (has_rd (opcode_of w)) i.rd)
target-of w i e =
    target-named (row_line i.row).writes (i.rd == 0) i.rd
    ∙ ap (λ b. if i.rd == 0 then None else named b i.rd) (named_here w i e).rd
