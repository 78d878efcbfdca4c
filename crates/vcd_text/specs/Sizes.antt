-- What every reading keeps: the sizes of codes, changes that fit them, and times that don't fall.
use Rattle.std.specs.Prelude.{◌≡◌, ◌≤◌, ℕ, ◌==◌, if◌then◌else◌, List, [], ◌∷◌, length, Option, Some, None, nat_lt, IsSomeAnd, All}
use Rattle.std.specs.List.Sorted.{IsSortedBy}
use Rattle.vcd_text.specs.declared.declaration.Variable.{Variable}
use Rattle.vcd_text.specs.declared.item.Item.{Item}
use Rattle.vcd_text.specs.declared.item.Item.TheVariants.{Time, Change}
use Rattle.vcd_text.specs.Reading.{Reading}

-- the size of a code, as its first variable has it
abbrev pub size_of : List Variable → ℕ → Option ℕ
size_of [] code = None
size_of (v ∷ vs) code = if v.code == code then Some v.size else size_of vs code

-- the variables of one code are of one size
abbrev pub AreConsistent : List Variable → Type 0
AreConsistent vs = All (λ v. size_of vs v.code ≡ Some v.size) vs

-- a change is of a declared code, and has at least one digit and no more than the code's size
abbrev pub FitsDeclared : List Variable → Item → Type 0
FitsDeclared vs (Time t) = Unit {0}
FitsDeclared vs (Change code digits) =
    IsSomeAnd (size_of vs code) (λ size. (1 ≤ length digits) × (length digits ≤ size))

-- the times among items
abbrev pub times_of : List Item → List ℕ
times_of [] = []
times_of (Time t ∷ items) = t ∷ times_of items
times_of (Change code digits ∷ items) = times_of items

-- what every reading is
pub record IsConsistent (r : Reading) : Type 0 where
  pub consistent : AreConsistent r.variables
  pub fits : All (FitsDeclared r.variables) r.items
  -- times don't fall
  pub ascending : IsSortedBy nat_lt (times_of r.items)
