-- The files of a shelf, what a call copies of them, and how it changes them.
use Rattle.std.specs.Prelude.{◌≡◌, ◌≤◌, ◌<◌, ◌-◌, ◌++◌, ℕ, List, length, take, drop, Option, Some, None}
use Rattle.std.specs.Option.{option_map}
use Rattle.std.specs.Ordering.{nat_cmp}
use Rattle.std.specs.Cmp.Lexicographic.{slice_cmp}
use Rattle.std.specs.FinMap as map

-- a finite map from names to bytes
abbrev pub Files : Type 0
Files = map.FinMap (slice_cmp nat_cmp) (List ℕ)

-- what a shelf reports of one name: nothing; that there is no such file; its bytes
abbrev pub told : Option Files → List ℕ → Option (Option (List ℕ))
told files name = option_map (λ m. map.get m name) files

-- the shelf reports its files, and there is none of that name
abbrev pub IsMissing : Option Files → List ℕ → Type 0
IsMissing files name = told files name ≡ Some None

-- the shelf reports its files, and the one of that name has these bytes
abbrev pub HasBytes : Option Files → List ℕ → List ℕ → Type 0
HasBytes files name bytes = told files name ≡ Some (Some bytes)

-- The first n bytes of a buffer are those of a file from an offset on. n is 0 only at or past the
-- end of the file, or if the buffer is empty.
pub record Copies (bytes : List ℕ) (at n : ℕ) (buf : List ℕ) : Type 0 where
  pub inside : n ≤ length bytes - at
  pub same : take n buf ≡ take n (drop at bytes)
  pub some : n ≡ 0 → 0 < length buf → length bytes ≤ at

-- These are the bytes of the file of a name, if the shelf reports them, and they are within the
-- limit.
pub record IsFileWithin (files : Option Files) (name : List ℕ) (limit : ℕ) (bytes : List ℕ)
    : Type 0 where
  pub is_file : (reported : List ℕ) → HasBytes files name reported → bytes ≡ reported
  pub within : length bytes ≤ limit

-- the files with a piece appended to the file of a name, if there is one
abbrev pub appended_to : Option (List ℕ) → Files → List ℕ → List ℕ → Files
appended_to None files name piece = files
appended_to (Some bytes) files name piece = map.insert files name (bytes ++ piece)

abbrev pub appended : Files → List ℕ → List ℕ → Files
appended files name piece = appended_to (map.get files name) files name piece

-- Reported files change so. Files that aren't reported are not reported afterwards either.
abbrev pub Becomes : (before after : Option Files) → (Files → Files) → Type 0
Becomes before after change = after ≡ option_map change before
