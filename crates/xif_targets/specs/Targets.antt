-- The files that a command writes, and what stands of them where the writing stops.
use Rattle.std.specs.Prelude.{◌≡◌, ◌⊎◌, ◌≤◌, ◌++◌, ℕ, List, [], ◌∷◌, length, take}
use Rattle.std.specs.FinMap as map
use Rattle.xif_base.specs.Files.{Files}
use Rattle.xif_base.specs.declared.outside.Which.{Which}

-- a file that a command writes
pub record Target : Type 0 where
  pub which : Which
  pub name : List ℕ
  pub text : List ℕ

-- the files after all of these are written, in order
abbrev pub written : List Target → Files → Files
written [] files = files
written (t ∷ ts) files = written ts (map.insert files t.name t.text)

-- a front of its text, and no more, is in the file of a target; other files are as they were
pub record HasFront (target : Target) (before after : Files) : Type 0 where
  pub count : ℕ
  pub within : count ≤ length target.text
  pub by_front : after ≡ map.insert before target.name (take count target.text)

-- The writing of these targets stops in one. Those before it are whole, in it stands a front of its
-- text if it isn't untouched, and those behind it are untouched.
pub record StopsAtFile (w : Which) (targets : List Target) (before after : Files) : Type 0 where
  pub whole : List Target
  pub target : Target
  pub rest : List Target
  pub split : targets ≡ whole ++ target ∷ rest
  pub which : target.which ≡ w
  pub left : (after ≡ written whole before) ⊎ HasFront target (written whole before) after
