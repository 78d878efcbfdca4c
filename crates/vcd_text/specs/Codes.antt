-- Identifier codes, in the order of their first declarations (IEEE 1364-2005, 18.2.1), and full
-- names.
use Rattle.std.specs.Prelude.{ℕ, ◌+◌, if◌then◌else◌, List, [], ◌∷◌, ◌++◌, Option, Some, None}
use Rattle.std.specs.Str.{bytes_eq}
use Rattle.vcd_text.specs.Words.{full_stop}

-- an identifier code, and how many bits its variables have
pub record Code : Type 0 where
  pub text : List ℕ
  pub size : ℕ

-- the number of a code, its place from a number on, and its size
abbrev pub code_from : ℕ → List ℕ → List Code → Option (ℕ × ℕ)
code_from n text [] = None
code_from n text (c ∷ cs) =
    if bytes_eq text c.text then Some (n, c.size) else code_from (n + 1) text cs

-- the names of the open scopes, the outermost first, and a name, joined by full stops
abbrev pub full_name : List (List ℕ) → List ℕ → List ℕ
full_name [] name = name
full_name (s ∷ ss) name = s ++ full_stop ∷ full_name ss name
