-- Internal: what the contracts of private functions cite; nothing here has to be believed. What
-- holds of every state, and of all that was read.
use Rattle.std.specs.Prelude.{◌≡◌, ◌≤◌, ◌<◌, ◌^◌, ℕ, Bool, true, false, List, [], length, slice_get, Option, Some, None, Ok, All}
use Rattle.std.specs.Option.{option_map}
use Rattle.vcd_text.specs.declared.declaration.Variable.{Variable}
use Rattle.vcd_text.specs.declared.state.Part.{Part}
use Rattle.vcd_text.specs.declared.state.Part.TheVariants.{Nothing, Block, Skipped, Vector, Passed}
use Rattle.vcd_text.specs.declared.state.State.{State}
use Rattle.vcd_text.specs.declared.scanner.Scanner.{Scanner}
use Rattle.vcd_text.specs.Codes.{Code}
use Rattle.vcd_text.specs.Reading.{Read, declared_by}
use Rattle.vcd_text.specs.Scanner.{HasRoom, read_by}
use Rattle.vcd_text.specs.Sizes.{size_of, AreConsistent, FitsDeclared}

-- the size of the code of a number
abbrev pub size_at : List Code → ℕ → Option ℕ
size_at cs number = option_map (λ c. c.size) (slice_get cs number)

-- a block that declares is open only among the declarations, and a vector has digits and is open
-- only in the body
abbrev pub IsPlaced : Part → Bool → Type 0
IsPlaced Nothing is_declared = Unit {0}
IsPlaced (Block at k words) is_declared = is_declared ≡ false
IsPlaced (Skipped at) is_declared = Unit {0}
IsPlaced (Vector at ds) is_declared = (is_declared ≡ true) × (1 ≤ length ds)
IsPlaced (Passed at) is_declared = Unit {0}

pub record IsSound (s : State) : Type 0 where
  pub consistent : AreConsistent s.variables
  pub sizes : (code : ℕ) → size_of s.variables code ≡ size_at s.codes code
  pub placed : IsPlaced s.part s.is_declared

pub record IsSoundRead (r : Read) : Type 0 where
  pub state : (s : State) → r.state ≡ Ok s → IsSound s × (r.variables ≡ declared_by s)
  -- no item comes before the declarations are complete
  pub none : r.variables ≡ None → r.items ≡ []
  pub some : (vs : List Variable) → r.variables ≡ Some vs →
      AreConsistent vs × All (FitsDeclared vs) r.items

-- more was read: what holds still holds, and what was declared stays
pub record Onward (old new : Read) : Type 0 where
  pub sound : IsSoundRead old → IsSoundRead new
  pub declared : IsSoundRead old → (vs : List Variable) → old.variables ≡ Some vs →
      new.variables ≡ Some vs

-- what holds of the scanner of a reader
pub record IsKept (s : Scanner) (has_failed : Bool) : Type 0 where
  pub small : s.size < 2 ^ 32
  pub room : has_failed ≡ false → HasRoom s
  pub sound : has_failed ≡ false → IsSoundRead (read_by s [])
