-- The words of a program: where they lie in memory, and what they are.
use Rattle.std.proofs.Common.{◌≡◌, ◌<◌, ◌+◌, ◌-◌, ◌*◌, ◌/◌, ◌%◌, ◌^◌, ◌==◌, ◌&&◌, ◌≤◌, ◌++◌, ℕ, zero, suc, true, List, [], ◌∷◌, length, take, drop, get_or, bit_and, Some, None, refl, ap, ◌∙◌, arith, lit<}
use Rattle.std.specs.Int.{w32, from_le_bytes, to_le_bytes}
use Rattle.std.specs.List.{flat_map, AllByRecursion}
use Rattle.std.specs.Option.{option_map}
use Rattle.std.proofs.lemmas.Nat.{and_mask, and_block, from_le_bytes-to_le_bytes_4}
use Rattle.std.proofs.lemmas.Bool.{cond-true}
use Rattle.std.proofs.lemmas.Bool.Decides.{nat_tests}
use Rattle.rv32_table.specs.declared.instr.Instr.{Instr}
use Rattle.rv32_table.specs.declared.rows.Row.TheVariants.{Lui, Addi}
use Rattle.rv32_table.specs.Word.{bits, wrapped, sign_extended}
use Rattle.rv32_table.specs.Instr.{row_of, instr_of, decoded}
use Rattle.rv32_table.proofs.Distinct.{found}
use Rattle.rv32_table.proofs.Masks.{and_opcode}
use Rattle.xif_image.specs.Region.{Region, is_inside, word_at}
use Rattle.generator.specs.Generated.{lui_word, addi_word, upper_bits, lower_bits}

-- ---- where they lie

bytes-of-word : (words rest : List ℕ) (i : ℕ) → i < length words → take 4 (drop (4 * i) (flat_map (to_le_bytes w32) words ++ rest)) ≡ to_le_bytes w32 (get_or words i 0)
bytes-of-word [] rest i h = absurd (omega arith)
bytes-of-word (w ∷ ws) rest zero h = refl
bytes-of-word (w ∷ ws) rest (suc i) h =
    let four : 4 * suc i ≡ suc (suc (suc (suc (4 * i)))) = omega arith in
    ap (λ n. take 4 (drop n (flat_map (to_le_bytes w32) (w ∷ ws) ++ rest))) four ∙ bytes-of-word ws rest i (omega arith)

length-words : (words rest : List ℕ) → length (flat_map (to_le_bytes w32) words ++ rest) ≡ 4 * length words + length rest
length-words [] rest = omega arith
length-words (w ∷ ws) rest =
    let ih = length-words ws rest in
    omega arith

small-at : (words : List ℕ) (i : ℕ) → AllByRecursion (λ w. w < 2 ^ 32) words → i < length words → get_or words i 0 < 2 ^ 32
small-at [] i all h = absurd (omega arith)
small-at (w ∷ ws) zero all h = all.0
small-at (w ∷ ws) (suc i) all h = small-at ws i all.1 (omega arith)

abbrev pub region : List ℕ → Region
region bytes = record { base = 0; bytes = bytes }

pub word-there : (words rest : List ℕ) (i : ℕ) → AllByRecursion (λ w. w < 2 ^ 32) words → i < length words → word_at (region (flat_map (to_le_bytes w32) words ++ rest)) (4 * i) ≡ Some (get_or words i 0)
word-there words rest i all h =
    let bytes : List ℕ = flat_map (to_le_bytes w32) words ++ rest in
    let size : length bytes ≡ 4 * length words + length rest = length-words words rest in
    let value : from_le_bytes w32 (take 4 (drop (4 * i) bytes)) ≡ get_or words i 0 =
    ap (from_le_bytes w32) (bytes-of-word words rest i h) ∙ from_le_bytes-to_le_bytes_4 (get_or words i 0) (small-at words i all h)
    in
    let aligned : (4 * i % 4 == 0) ≡ true = grind (arith, nat_tests) in
    let inside : is_inside (region bytes) (4 * i) 4 ≡ true = inside-is bytes (4 * i) (omega arith) in
    let here : 4 * i - 0 ≡ 4 * i = omega arith in
    cond-true ((4 * i % 4 == 0) && is_inside (region bytes) (4 * i) 4) (Some (from_le_bytes w32 (take 4 (drop (4 * i - 0) bytes)))) None
    (ap (λ t. t && is_inside (region bytes) (4 * i) 4) aligned ∙ inside)
    ∙ ap (λ n. Some (from_le_bytes w32 (take 4 (drop n bytes)))) here
    ∙ ap Some value
  where
    inside-is : (bytes : List ℕ) (address : ℕ) → address + 4 ≤ length bytes → is_inside (region bytes) address 4 ≡ true
    inside-is bytes address h = grind (arith, nat_tests)

-- ---- what they are

and_funct3 : (w : ℕ) → bit_and w 0x707f ≡ bits w 6 0 + 4096 * bits w 14 12
and_funct3 w =
    let parts : w ≡ w / 4096 * 4096 + w % 4096 = omega arith in
    let low : w % 4096 < 4096 = omega arith in
    let both : bit_and (w / 4096 * 4096 + w % 4096) 0x707f ≡ bit_and (w / 4096) 7 * 4096 + bit_and (w % 4096) 127 = and_block 12 (w / 4096) 7 (w % 4096) 127 low (lit< tt) in
    ap (λ v. bit_and v 0x707f) parts ∙ both ∙ omega (arith, and_mask (w / 4096) 3, and_opcode (w % 4096))

-- LUI to a register
abbrev pub lui : (r b : ℕ) → Instr
lui r b = record {
  row = Lui;
  rd = r;
  rs1 = bits (lui_word r b) 19 15;
  rs2 = bits (lui_word r b) 24 20;
  imm = 2 ^ 12 * b;
}

pub lui-is : (r b : ℕ) → r < 32 → b < 2 ^ 20 → decoded (lui_word r b) ≡ Some (lui r b)
lui-is r b h k =
    let w : ℕ = lui_word r b in
    let low : bits w 6 0 ≡ 55 = omega arith in
    let row : row_of w ≡ Some Lui = found w Lui (ap (λ v. v == 55) (and_opcode w ∙ low)) in
    let rd : bits w 11 7 ≡ r = omega arith in
    let imm : 2 ^ 12 * bits w 31 12 ≡ 2 ^ 12 * b = omega arith in
    ap (option_map (instr_of w)) row
    ∙ λ j. Some (record { row = Lui; rd = rd j; rs1 = bits w 19 15; rs2 = bits w 24 20; imm = imm j })

-- ADDI to a register from itself
abbrev pub addi : (r b : ℕ) → Instr
addi r b = record {
  row = Addi;
  rd = r;
  rs1 = r;
  rs2 = bits (addi_word r b) 24 20;
  imm = sign_extended 12 b;
}

pub addi-is : (r b : ℕ) → r < 32 → b < 4096 → decoded (addi_word r b) ≡ Some (addi r b)
addi-is r b h k =
    let w : ℕ = addi_word r b in
    let low : bits w 6 0 + 4096 * bits w 14 12 ≡ 19 = omega arith in
    let row : row_of w ≡ Some Addi = found w Addi (ap (λ v. v == 19) (and_funct3 w ∙ low)) in
    let rd : bits w 11 7 ≡ r = omega arith in
    let rs1 : bits w 19 15 ≡ r = omega arith in
    let imm : bits w 31 20 ≡ b = omega arith in
    ap (option_map (instr_of w)) row
    ∙ λ j. Some (record { row = Addi; rd = rd j; rs1 = rs1 j; rs2 = bits w 24 20; imm = sign_extended 12 (imm j) })

-- the two parts of a value add up to it
pub parts-add : (value : ℕ) → value < 2 ^ 32 → wrapped (2 ^ 12 * upper_bits value + sign_extended 12 (lower_bits value)) ≡ value
parts-add value h = grind (arith, nat_tests)

pub upper-small : (value : ℕ) → upper_bits value < 2 ^ 20
upper-small value = omega arith

pub lower-small : (value : ℕ) → lower_bits value < 4096
lower-small value = omega arith

pub lui-small : (r b : ℕ) → r < 32 → b < 2 ^ 20 → lui_word r b < 2 ^ 32
lui-small r b h k = omega arith

pub addi-small : (r b : ℕ) → r < 32 → b < 4096 → addi_word r b < 2 ^ 32
addi-small r b h k = omega arith
