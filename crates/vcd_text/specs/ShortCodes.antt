-- Internal: what the contracts of private functions cite; nothing here has to be believed. The table
-- of the codes of one or two bytes.
use Rattle.std.specs.Prelude.{◌≡◌, ◌<◌, ℕ, ◌+◌, ◌*◌, ◌==◌, Bool, false, if◌then◌else◌, List, [], ◌∷◌, Option, Some, None, slice_index_or}
use Rattle.vcd_text.specs.Codes.{Code, code_from}

-- the place of a code, if it has one or two bytes
abbrev pub place_of : List ℕ → Option ℕ
place_of [] = None
place_of (a ∷ []) = Some a
place_of (a ∷ b ∷ []) = Some (256 + 256 * b + a)
place_of (a ∷ b ∷ c ∷ cs) = None

-- where a code has a place, its characters are bytes
abbrev pub IsOfBytes : List ℕ → Type 0
IsOfBytes [] = Unit {0}
IsOfBytes (a ∷ []) = a < 256
IsOfBytes (a ∷ b ∷ []) = (a < 256) × (b < 256)
IsOfBytes (a ∷ b ∷ c ∷ cs) = Unit {0}

-- what a table has at a place; behind its end it has nothing
abbrev pub found_at : List (Option (ℕ × ℕ)) → ℕ → Option (ℕ × ℕ)
found_at places place = slice_index_or places place None

abbrev pub is_at : Option ℕ → ℕ → Bool
is_at None k = false
is_at (Some place) k = place == k

-- what a table has at a place, once something is noted at another
abbrev pub with_found : Option ℕ → ℕ × ℕ → List (Option (ℕ × ℕ)) → ℕ → Option (ℕ × ℕ)
with_found place found places k = if is_at place k then Some found else found_at places k

-- a table has what these codes say of each short code
pub record HasShort (places : List (Option (ℕ × ℕ))) (cs : List Code) : Type 0 where
  pub one : (a : ℕ) → a < 256 → found_at places a ≡ code_from 0 (a ∷ []) cs
  pub two : (a b : ℕ) → a < 256 → b < 256 →
      found_at places (256 + 256 * b + a) ≡ code_from 0 (a ∷ b ∷ []) cs
