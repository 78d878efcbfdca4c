-- Internal: what the contracts of private functions cite; nothing here has to be believed. What the
-- code's step returns.
use Rattle.std.specs.Prelude.{⊤, ◌≡◌, ◌≤◌, ◌+◌, ◌++◌, ℕ, Bool, true, false, codes, List, [], ◌∷◌, length, Option, None, Result, Ok, Err}
use Rattle.std.specs.List.{fold}
use Rattle.std.specs.Option.{option_to_list}
use Rattle.vcd_text.specs.declared.item.Item.{Item}
use Rattle.vcd_text.specs.declared.state.Part.TheVariants.{Nothing}
use Rattle.vcd_text.specs.declared.state.State.{State}
use Rattle.vcd_text.specs.declared.stop.Stop.{Stop}
use Rattle.vcd_text.specs.declared.stop.Stop.TheVariants.{NoMemory, Fault}
use Rattle.vcd_text.specs.Tokens.{Token}
use Rattle.vcd_text.specs.Grammar.{Step}
use Rattle.vcd_text.specs.Reading.{Read, go, declared_by}
use Rattle.vcd_text.specs.Words.{is_one_of}

-- nothing was declared
pub record SameDeclared (old new : State) : Type 0 where
  pub codes : new.codes ≡ old.codes
  pub variables : new.variables ≡ old.variables
  pub is_declared : new.is_declared ≡ old.is_declared

-- a step of the code, from one state to another, is the automaton's, unless it runs out of memory
abbrev pub StepsTo : State → State → Result (Option Item) Stop → Step → Type 0
StepsTo old new (Ok item) given =
    (given ≡ Ok (new, item)) × (length new.codes ≤ length old.codes + 1)
StepsTo old new (Err NoMemory) given = ⊤
StepsTo old new (Err (Fault f)) given = (given ≡ Err f) × SameDeclared old new

-- a step of the code that completes no item
abbrev pub DeclaresTo : State → State → Result Unit Stop → Step → Type 0
DeclaresTo old new (Ok u) given =
    (given ≡ Ok (new, None)) × (length new.codes ≤ length old.codes + 1)
DeclaresTo old new (Err NoMemory) given = ⊤
DeclaresTo old new (Err (Fault f)) given = (given ≡ Err f) × SameDeclared old new

-- ---- a vector and its code at once

abbrev pub begins_vector : List ℕ → Bool
begins_vector [] = false
begins_vector (b ∷ bs) = is_one_of (codes "bB") b

-- outside a part of the body, a token begins with the letter of a vector
pub record IsVector (s : State) (token : List ℕ) : Type 0 where
  pub part : s.part ≡ Nothing
  pub declared : s.is_declared ≡ true
  pub letter : begins_vector token ≡ true

-- what was read to a state, where there is no fault
abbrev pub read_to : List Item → State → Read
read_to items s = record { items = items; variables = declared_by s; state = Ok s }

-- what tokens do, from one state to another, of which the last completes the item, unless the code
-- runs out of memory
abbrev pub ReadsTo : State → State → Result (Option Item) Stop → List Token → Type 0
ReadsTo old new (Ok item) tokens =
    ((items : List Item) →
    fold go (read_to items old) tokens ≡ read_to (items ++ option_to_list item) new)
    × (length new.codes ≤ length old.codes + 1)
ReadsTo old new (Err NoMemory) tokens = ⊤
ReadsTo old new (Err (Fault f)) tokens =
    ((items : List Item) →
    fold go (read_to items old) tokens ≡ record (read_to items old) { state = Err f })
    × SameDeclared old new
