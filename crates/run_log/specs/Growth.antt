-- How texts are written. Internal: what the contracts of functions that write a part of a text
-- cite; nothing here has to be believed.
use Rattle.std.specs.Prelude.{◌≡◌, ◌++◌, ℕ, List, String, string_bytes}
use Rattle.std.specs.declared.alloc.Global.{Global}

-- a text has grown by these bytes
abbrev pub Appends : (old new : String Global) → List ℕ → Type 0
Appends old new bytes = string_bytes new ≡ string_bytes old ++ bytes
