-- Under the masks of the table, a word is the match of a line where its fields are those of the match.
use Rattle.std.proofs.Common.{◌≡◌, ◌<◌, ◌+◌, ◌*◌, ◌/◌, ◌%◌, ◌^◌, ◌&&◌, ◌||◌, ◌==◌, ℕ, Bool, true, cond, List, [], ◌∷◌, Some, bit_and, sym, refl, ◌∙◌, ap, subst, arith, lit<, inl, inr}
use Rattle.std.specs.List.{find, list_all}
use Rattle.std.proofs.lemmas.Nat.{and_mask, and_block}
use Rattle.std.proofs.lemmas.Bool.{and_parts, eqb-true, or_cases}
use Rattle.std.proofs.lemmas.Bool.Decides.{nat_tests}
use Rattle.rv32_table.specs.Table.{Line, row_line, rows}
use Rattle.rv32_table.specs.Instr.{matches, row_of}
use Rattle.rv32_table.specs.Word.{bits}
use Rattle.rv32_table.specs.Fields.{fields_match, row_of_fields}

-- what the masks keep of a word, as a number
abbrev to_opcode : ℕ → ℕ
to_opcode w = bits w 6 0

abbrev to_funct3 : ℕ → ℕ
to_funct3 w = to_opcode w + 4096 * bits w 14 12

abbrev to_funct7 : ℕ → ℕ
to_funct7 w = to_funct3 w + 33554432 * bits w 31 25

abbrev all_of : ℕ → ℕ
all_of w = w

pub and_opcode : (w : ℕ) → bit_and w 0x7f ≡ bits w 6 0
and_opcode w = and_mask w 7 ∙ omega arith

and_funct3 : (w : ℕ) → bit_and w 0x707f ≡ to_funct3 w
and_funct3 w =
    let parts : w ≡ w / 4096 * 4096 + w % 4096 = omega arith in
    let low : w % 4096 < 4096 = omega arith in
    let both : bit_and (w / 4096 * 4096 + w % 4096) 0x707f ≡ bit_and (w / 4096) 7 * 4096 + bit_and (w % 4096) 127 = and_block 12 (w / 4096) 7 (w % 4096) 127 low (lit< tt) in
    ap (λ v. bit_and v 0x707f) parts ∙ both ∙ omega (arith, and_mask (w / 4096) 3, and_opcode (w % 4096))

and_funct7 : (w : ℕ) → bit_and w 0xfe00707f ≡ to_funct7 w
and_funct7 w =
    let parts : w ≡ w / 33554432 * 33554432 + w % 33554432 = omega arith in
    let low : w % 33554432 < 33554432 = omega arith in
    let both : bit_and (w / 33554432 * 33554432 + w % 33554432) 0xfe00707f ≡ bit_and (w / 33554432) 127 * 33554432 + bit_and (w % 33554432) 0x707f = and_block 25 (w / 33554432) 127 (w % 33554432) 0x707f low (lit< tt) in
    ap (λ v. bit_and v 0xfe00707f) parts ∙ both ∙ omega (arith, and_mask (w / 33554432) 7, and_funct3 (w % 33554432))

-- a line has this mask, which keeps its match
abbrev keeps : ℕ → (ℕ → ℕ) → Line → Bool
keeps mask kept l = (l.mask == mask) && (l.matched == kept l.matched)

abbrev is_regular : Line → Bool
is_regular l =
    (keeps 0x7f to_opcode l || keeps 0x707f to_funct3 l)
    || (keeps 0xfe00707f to_funct7 l || keeps 0xffffffff all_of l)

-- a word matches a line where its fields match
abbrev SameMatch : ℕ → Line → Type 0
SameMatch w l = matches w l ≡ fields_match (bits w 6 0) (bits w 14 12) (bits w 31 25) w l

with_mask : (w : ℕ) (l : Line) (mask : ℕ) (kept : ℕ → ℕ) → keeps mask kept l ≡ true → (l.matched ≡ kept l.matched → SameMatch w (record l { mask = mask })) → SameMatch w l
with_mask w l mask kept h same =
    let both : ((l.mask == mask) ≡ true) × ((l.matched == kept l.matched) ≡ true) = and_parts (l.mask == mask) (l.matched == kept l.matched) h in
    let P : ℕ → Type 0 = λ n. SameMatch w (record l { mask = n }) in
    subst P (sym (eqb-true l.mask mask both.0)) (same (eqb-true l.matched (kept l.matched) both.1))

-- the same for each of the four masks
opcode_matches : (w k : ℕ) → k ≡ to_opcode k → (bit_and w 0x7f == k) ≡ ((bits w 6 0 == bits k 6 0) && true)
opcode_matches w k e = ap (λ v. v == k) (and_opcode w) ∙ grind (arith, nat_tests)

funct3_matches : (w k : ℕ) → k ≡ to_funct3 k → (bit_and w 0x707f == k) ≡ ((bits w 6 0 == bits k 6 0) && ((bits w 14 12 == bits k 14 12) && true))
funct3_matches w k e = ap (λ v. v == k) (and_funct3 w) ∙ grind (arith, nat_tests)

funct7_matches : (w k : ℕ) → k ≡ to_funct7 k → (bit_and w 0xfe00707f == k) ≡ ((bits w 6 0 == bits k 6 0) && ((bits w 14 12 == bits k 14 12) && (bits w 31 25 == bits k 31 25)))
funct7_matches w k e = ap (λ v. v == k) (and_funct7 w) ∙ grind (arith, nat_tests)

word_matches : (w k : ℕ) → w < 2 ^ 32 → (bit_and w 0xffffffff == k) ≡ ((bits w 6 0 == bits k 6 0) && (w == k))
word_matches w k h =
    let whole : bit_and w 0xffffffff ≡ w = and_mask w 32 ∙ omega arith in
    ap (λ v. v == k) whole ∙ grind (arith, nat_tests)

matches-fields : (w : ℕ) (l : Line) → w < 2 ^ 32 → is_regular l ≡ true → SameMatch w l
matches-fields w l h r =
    let opcode = keeps 0x7f to_opcode l in
    let funct3 = keeps 0x707f to_funct3 l in
    let funct7 = keeps 0xfe00707f to_funct7 l in
    let word = keeps 0xffffffff all_of l in
    elim (or_cases (opcode || funct3) (funct7 || word) r) [
      | inl low ↦ elim (or_cases opcode funct3 low) [
        | inl k ↦ with_mask w l 0x7f to_opcode k (opcode_matches w l.matched)
        | inr k ↦ with_mask w l 0x707f to_funct3 k (funct3_matches w l.matched)
      ]
      | inr high ↦ elim (or_cases funct7 word high) [
        | inl k ↦ with_mask w l 0xfe00707f to_funct7 k (funct7_matches w l.matched)
        | inr k ↦ with_mask w l 0xffffffff all_of k (λ e. word_matches w l.matched h)
      ]
    ]

-- two tests that agree at each element find the same one
find-same : {X : Type 0} (p q r : X → Bool) → ((x : X) → r x ≡ true → p x ≡ q x) → (xs : List X) → list_all r xs ≡ true → find p xs ≡ find q xs
find-same p q r same [] h = refl
find-same p q r same (x ∷ xs) h =
    let both : (r x ≡ true) × (list_all r xs ≡ true) = and_parts (r x) (list_all r xs) h in
    ap (λ b. cond b (Some x) (find p xs)) (same x both.0) ∙ ap (cond (q x) (Some x)) (find-same p q r same xs both.1)

-- each line of the table is regular, by a test over the table
all_regular : list_all (λ r. is_regular (row_line r)) rows ≡ true
all_regular = refl

pub row_of-fields : (w : ℕ) → w < 2 ^ 32 → row_of w ≡ row_of_fields (bits w 6 0) (bits w 14 12) (bits w 31 25) w
row_of-fields w h =
    find-same (λ r. matches w (row_line r)) (λ r. fields_match (bits w 6 0) (bits w 14 12) (bits w 31 25) w (row_line r)) (λ r. is_regular (row_line r))
    (λ r. matches-fields w (row_line r) h) rows all_regular
