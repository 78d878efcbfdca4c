-- The list of rows has them in the order of their declaration, so it has every row.
use Rattle.std.proofs.Common.{◌≡◌, ◌<◌, ◌==◌, ℕ, true, length, get_or, Contains, refl, ◌∙◌}
use Rattle.std.proofs.lemmas.Bool.{agree_below_at, eqb-true}
use Rattle.std.proofs.lemmas.List.{get_or_default}
use denote.Enum.Bare.{tag_one}
use denote.Enum.Declared.{tag_of, variants}
use denote.Enum.Enum.{tag_below}
use Rattle.rv32_table.specs.contracts.rows.Row.{the_type}
use Rattle.rv32_table.specs.declared.rows.Row.{Row}
use Rattle.rv32_table.specs.declared.rows.Row.TheVariants.{Addi}
use Rattle.rv32_table.specs.Table.{rows}

-- the place of a row among the variants
abbrev pub place_of : Row → ℕ
place_of r = tag_of the_type r

pub place_of-below : (r : Row) → place_of r < length rows
place_of-below r = tag_below (variants the_type) (the_type.to r)

-- each row of the list stands at its place, by a test over the list
in_place : (k : ℕ) → k < length rows → place_of (get_or rows k Addi) ≡ k
in_place k h = eqb-true (place_of (get_or rows k Addi)) k (agree_below_at (λ i. place_of (get_or rows i Addi) == i) (λ i. true) (length rows) k refl h)

pub listed_at : (r : Row) → get_or rows (place_of r) Addi ≡ r
listed_at r = tag_one the_type tt (get_or rows (place_of r) Addi) r (in_place (place_of r) (place_of-below r))

pub listed : (r : Row) → Contains rows r
listed r = (place_of r, place_of-below r, get_or_default rows (place_of r) r Addi (place_of-below r) ∙ listed_at r)
