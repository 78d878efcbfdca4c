-- How a file grows that is written piece by piece, through a buffer.
use Rattle.std.specs.Prelude.{◌≡◌, ◌≤◌, ◌++◌, ℕ, List, length, take, Option}
use Rattle.std.specs.FinMap as map
use Rattle.xif_base.specs.Faults.{Rose, CountsFaults}
use Rattle.xif_base.specs.Files.{Files, Becomes}
use Rattle.xif_base.specs.declared.outside.WriteFail.{WriteFail}
use Rattle.xif_base.specs.declared.outside.WriteFail.TheVariants.{Failed, NoMemory}

-- since a moment before, the file of a name was written with these bytes, and no other file changed
abbrev pub IsWritten : (before now : Option Files) (name bytes : List ℕ) → Type 0
IsWritten before now name bytes = Becomes before now (λ m. map.insert m name bytes)

-- likewise with a prefix of the bytes
pub record IsWrittenInPart (before now : Option Files) (name bytes : List ℕ) : Type 0 where
  pub count : ℕ
  pub within : count ≤ length bytes
  pub by_front : IsWritten before now name (take count bytes)

-- likewise, where the last of the bytes are pending: they are in the buffer, and not in the file
pub record IsGrowing (before now : Option Files) (name pending bytes : List ℕ) : Type 0 where
  pub sent : List ℕ
  pub all : bytes ≡ sent ++ pending
  pub is_sent : IsWritten before now name sent

-- With each piece less than this many bytes stay pending.
abbrev pub pending_limit : ℕ
pending_limit = 65536

-- Nothing was counted on a shelf between two moments, and one that said it has no faults says so
-- still. The first three are the meanings of the shelf.
pub record IsUncounted {S : Type 0} (fetch_faults write_faults : S → ℕ) (faultless : S → Type 0)
    (old new : S) : Type 0 where
  pub fetches : fetch_faults new ≡ fetch_faults old
  pub writes : write_faults new ≡ write_faults old
  pub stays_faultless : faultless old → faultless new

-- A write failed so between two moments. A fault was counted unless memory was out.
pub record IsCountedFail {S : Type 0} (fetch_faults write_faults : S → ℕ) (faultless : S → Type 0)
    (old new : S) (fail : WriteFail) : Type 0 where
  pub fetches : fetch_faults new ≡ fetch_faults old
  pub counts : CountsFaults write_faults faultless old new
  pub failed : fail ≡ Failed → Rose (write_faults old) (write_faults new)
  pub has_faults : fail ≡ Failed → ¬ faultless old
  pub no_memory : fail ≡ NoMemory → write_faults new ≡ write_faults old
