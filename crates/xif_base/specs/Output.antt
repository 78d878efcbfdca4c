-- The bytes put to an output.
use Rattle.std.specs.Prelude.{◌≡◌, ◌≤◌, ◌++◌, ℕ, List, length, take, Option}
use Rattle.std.specs.Option.{option_map}

-- the bytes of an output with a piece appended; nothing where the output reports nothing
abbrev pub grown : Option (List ℕ) → List ℕ → Option (List ℕ)
grown reported piece = option_map (λ bytes. bytes ++ piece) reported

-- a prefix of these bytes was appended, and no more
pub record GrowsByFront (old new : Option (List ℕ)) (bytes : List ℕ) : Type 0 where
  pub count : ℕ
  pub within : count ≤ length bytes
  pub by_front : new ≡ grown old (take count bytes)
