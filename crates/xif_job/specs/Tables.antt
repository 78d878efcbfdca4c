-- The tables and values of the code, as the definitions see them.
use Rattle.std.specs.Prelude.{ℕ, List, map, Option, Some, None, option_map, String}
use Rattle.std.specs.Borrow.{Bor}
use Rattle.std.specs.BTreeMap.{BTreeMap}
use Rattle.std.specs.declared.alloc.Global.{Global}
use Rattle.toml.specs.Data.{Data, Members, no_members}
use Rattle.toml.specs.View.{table_view, view}
use Rattle.toml.specs.declared.value.Value.{Value}

-- a table that is absent has no members
abbrev pub members : Option (Bor (BTreeMap (String Global) Value)) → Members
members None = no_members
members (Some t) = table_view t.now

-- what a value is, if there is one
abbrev pub data_of : Option (Bor Value) → Option Data
data_of value = option_map (λ v. view v.now) value

-- texts, and texts with their meanings
abbrev pub texts_of : List (Bor (List ℕ)) → List (List ℕ)
texts_of names = map (λ n. n.now) names

abbrev pub words_of : {A : Type 0} → List (Bor (List ℕ) × A) → List (List ℕ × A)
words_of words = map (λ w. (w.0.now, w.1)) words
