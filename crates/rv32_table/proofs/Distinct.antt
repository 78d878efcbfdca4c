-- No word matches two rows, by a test over the pairs of rows.
use Rattle.std.proofs.Common.{◌≡◌, ◌<◌, ◌==◌, ◌||◌, ℕ, zero, suc, Bool, true, false, not, List, [], ◌∷◌, Some, length, get_or, bit_and, refl, sym, ap, ◌∙◌, inl, inr, arith}
use Rattle.std.specs.List.{find, list_all}
use Rattle.std.proofs.lemmas.Bool.{cases_Bool, or_cases, both_ways, cond-true, cond-false, eqb-true, eq-eqb}
use Rattle.std.proofs.lemmas.List.Elements.{All-contains}
use Rattle.std.proofs.lemmas.List.Sums.{AllPass-from_list_all}
use Rattle.std.proofs.lemmas.Nat.{and_assoc, and_comm}
use denote.Enum.Bare.{tag_one}
use Rattle.rv32_table.specs.contracts.rows.Row.{the_type}
use Rattle.rv32_table.specs.declared.rows.Row.{Row}
use Rattle.rv32_table.specs.declared.rows.Row.TheVariants.{Addi}
use Rattle.rv32_table.specs.Table.{Line, row_line, rows}
use Rattle.rv32_table.specs.Instr.{matches, row_of}
use Rattle.rv32_table.proofs.Listed.{place_of, place_of-below, listed, listed_at}

-- the matches of two lines differ at a bit of both masks
abbrev apart : Line → Line → Bool
apart l m = not (bit_and l.matched m.mask == bit_and m.matched l.mask)

apart-matches : (w : ℕ) (l m : Line) → matches w l ≡ true → matches w m ≡ true → apart l m ≡ false
apart-matches w l m h k =
    let e : bit_and w l.mask ≡ l.matched = eqb-true (bit_and w l.mask) l.matched h in
    let f : bit_and w m.mask ≡ m.matched = eqb-true (bit_and w m.mask) m.matched k in
    let same : bit_and l.matched m.mask ≡ bit_and m.matched l.mask =
    ap (λ v. bit_and v m.mask) (sym e)
    ∙ and_assoc m.mask w l.mask
    ∙ ap (bit_and w) (and_comm l.mask m.mask)
    ∙ sym (and_assoc l.mask w m.mask)
    ∙ ap (λ v. bit_and v l.mask) f
    in
    ap not (eq-eqb (bit_and l.matched m.mask) (bit_and m.matched l.mask) same)

-- what a test of the list says of each row
pub passes : (p : Row → Bool) → list_all p rows ≡ true → (r : Row) → p r ≡ true
passes p h r = All-contains (λ r. p r ≡ true) rows r (AllPass-from_list_all p rows h) (listed r)

abbrev distinct : Row → Row → Bool
distinct r s = (place_of r == place_of s) || apart (row_line r) (row_line s)

all_distinct : list_all (λ r. list_all (distinct r) rows) rows ≡ true
all_distinct = refl

pub only : (w : ℕ) (r s : Row) → matches w (row_line r) ≡ true → matches w (row_line s) ≡ true → r ≡ s
only w r s h k =
    let tested : distinct r s ≡ true = passes (distinct r) (passes (λ r. list_all (distinct r) rows) all_distinct r) s in
    elim (or_cases (place_of r == place_of s) (apart (row_line r) (row_line s)) tested) [
      | inl e ↦ tag_one the_type tt r s (eqb-true (place_of r) (place_of s) e)
      | inr a ↦ absurd (both_ways (apart (row_line r) (row_line s)) (apart-matches w (row_line r) (row_line s) h k) a)
    ]

-- the only one that passes is found
find-only : {X : Type 0} (p : X → Bool) (r d : X) → p r ≡ true → ((s : X) → p s ≡ true → s ≡ r) → (xs : List X) (k : ℕ) → k < length xs → get_or xs k d ≡ r → find p xs ≡ Some r
find-only p r d h one [] k l e = absurd (omega arith)
find-only p r d h one (x ∷ xs) zero l e = cond-true (p x) (Some x) (find p xs) (ap p e ∙ h) ∙ ap Some e
find-only p r d h one (x ∷ xs) (suc k) l e =
    elim (cases_Bool (p x)) [
      | inl t ↦ cond-true (p x) (Some x) (find p xs) t ∙ ap Some (one x t)
      | inr f ↦ cond-false (p x) (Some x) (find p xs) f ∙ find-only p r d h one xs k (omega arith) e
    ]

pub found : (w : ℕ) (r : Row) → matches w (row_line r) ≡ true → row_of w ≡ Some r
found w r h = find-only (λ s. matches w (row_line s)) r Addi h (λ s k. only w s r k h) rows (place_of r) (place_of-below r) (listed_at r)
