-- How the parts of a command that read files end. Internal: what the contracts of private functions
-- cite; nothing here has to be believed.
use Rattle.std.specs.Prelude.{◌≡◌, ◌⊎◌, ℕ, Bool, true, false, Option, Some, None, Result, Ok, Err}
use Rattle.xif_base.specs.Faults.{OnlyReads}
use Rattle.xif_base.specs.Files.{Files}
use Rattle.xif_base.specs.declared.outside.Which.{Which}
use Rattle.xif_base.specs.declared.outside.Which.TheVariants as which
use Rattle.xif_cli.specs.declared.status.Status.{Status}
use Rattle.xif_cli.specs.declared.status.Status.TheVariants.{Done, Illegal, ReadFault, WriteFault, Job, Image, Vcd, Map, TooBig, NoMemory}
use Rattle.xif_cli.specs.Ending.{IsFaulted, is_job_fault, is_image_fault, can_end}
use Rattle.xif_cli.specs.Outcome.{Lookup, found, without, is_same}
use Rattle.xif_cli.specs.Words.{Form}

-- what a function returned, as view sees it
abbrev pub seen : {A B : Type 0} → (A → B) → Result A Status → Result B Status
seen view (Ok x) = Ok (view x)
seen view (Err status) = Err status

-- it is a read fault
abbrev pub IsReadFault : {A : Type 0} → Result A Status → Type 0
IsReadFault r = (w : Which) × (r ≡ Err (ReadFault w))

-- a part of a command that only reads files ends with r, where it has this meaning over the files;
-- the first four are the meanings of the shelf
pub record Ends {S A : Type 0} (files : S → Option Files) (fetch_faults write_faults : S → ℕ)
    (faultless : S → Type 0) (old new : S) (meaning : Lookup → Result A Status)
    (r : Result A Status) : Type 0 where
  -- over files that the shelf reports it gives what it means, or is out of memory, or a fault was
  -- counted
  pub outcome : (m : Files) → files old ≡ Some m →
      (meaning (found m) ≡ r) ⊎ ((r ≡ Err NoMemory)
      ⊎ (IsFaulted (faultless old) (fetch_faults old) (fetch_faults new) × IsReadFault r))
  -- whatever is read before a file that can't be read is lawful
  pub before : (m : Files) → files old ≡ Some m →
      (w : Which) → r ≡ Err (ReadFault w) → meaning (without w m) ≡ r
  -- over other files a read fault was counted
  pub unreported : files old ≡ None → (w : Which) → r ≡ Err (ReadFault w) →
      IsFaulted (faultless old) (fetch_faults old) (fetch_faults new)
  -- a fault is counted only for a read fault
  pub uncounted : (fetch_faults new ≡ fetch_faults old) ⊎ IsReadFault r
  pub only_reads : OnlyReads files fetch_faults write_faults faultless old new

-- the refusals at the reading of one file
abbrev pub can_refuse_file : Which → Status → Bool
can_refuse_file which (ReadFault w) = is_same w which
can_refuse_file which (TooBig w) = is_same w which
can_refuse_file which NoMemory = true
can_refuse_file which _ = false

-- the refusals at the reading of a job
abbrev pub can_refuse_job : Status → Bool
can_refuse_job (Job fault) = is_job_fault fault
can_refuse_job status = can_refuse_file which.Job status

-- the refusals at the reading of an image
abbrev pub can_refuse_image : Status → Bool
can_refuse_image (Image fault) = is_image_fault fault
can_refuse_image status = can_refuse_file which.Image status

-- the refusals at the reading of a waveform
abbrev pub can_refuse_waveform : Status → Bool
can_refuse_waveform (Vcd fault) = true
can_refuse_waveform (Map fault) = true
can_refuse_waveform status = can_refuse_file which.Waveform status

-- the statuses that a form can end with before it prints
abbrev pub can_refuse : Form → Status → Bool
can_refuse f Done = false
can_refuse f Illegal = false
can_refuse f (WriteFault w) = false
can_refuse f status = can_end f status
