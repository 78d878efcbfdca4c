-- How a call of the program can end, and why.
use Rattle.std.specs.Prelude.{◌≡◌, ◌&&◌, ◌||◌, ℕ, Bool, true, false, not, List, Result, String, string_bytes, map}
use Rattle.std.specs.declared.alloc.Global.{Global}
use Rattle.xif_base.specs.Faults.{Rose}
use Rattle.xif_base.specs.declared.outside.Which.{Which}
use Rattle.xif_base.specs.declared.outside.Which.TheVariants as which
use Rattle.xif_image.specs.declared.image.ImageFault.{ImageFault}
use Rattle.xif_image.specs.declared.image.ImageFault.TheVariants as image
use Rattle.xif_job.specs.declared.field.JobFault.{JobFault}
use Rattle.xif_job.specs.declared.field.JobFault.TheVariants as job
use Rattle.xif_cli.specs.declared.status.Status.{Status}
use Rattle.xif_cli.specs.declared.status.Status.TheVariants.{Done, Illegal, Usage, ReadFault, WriteFault, Job, Image, Vcd, Map, TooBig, NoMemory, Unbuilt}
use Rattle.xif_cli.specs.Outcome.{Lookup, Answer, is_same, command_outcome}
use Rattle.xif_cli.specs.Words.{Form, IsCommand}
use Rattle.xif_cli.specs.Words as form

-- the words as texts
abbrev pub texts_of : List (String Global) → List (List ℕ)
texts_of words = map string_bytes words

-- the words are those of no form
abbrev pub IsNoCommand : List (String Global) → Type 0
IsNoCommand words = (form : Form) → ¬ IsCommand (texts_of words) form

-- what the words ask for means this, over what is read of the files
abbrev pub Means : List (String Global) → Lookup → Result Answer Status → Type 0
Means words find outcome =
    (form : Form) × (IsCommand (texts_of words) form × (command_outcome form find ≡ outcome))

-- the files that a form reads
abbrev pub reads : Form → Which → Bool
reads (form.Raw image count) w = is_same w which.Image
reads (form.Step job) w = is_same w which.Job || is_same w which.Image
reads (form.Run job) w = is_same w which.Job || is_same w which.Image
reads (form.Judge job waveform) w = is_same w which.Job || is_same w which.Waveform
reads (form.Gen seed count) w = false
reads (form.Harts job) w = false
reads (form.Replay job waveform) w = false

-- a form that is built
abbrev pub is_built : Form → Bool
is_built (form.Raw image count) = true
is_built (form.Step job) = true
is_built (form.Run job) = true
is_built (form.Judge job waveform) = true
is_built (form.Gen seed count) = true
is_built (form.Harts job) = false
is_built (form.Replay job waveform) = false

-- a form that reads a job
abbrev pub has_job : Form → Bool
has_job f = reads f which.Job

-- a form that judges a waveform
abbrev pub is_judge : Form → Bool
is_judge f = reads f which.Waveform

-- a form that writes files, a trace and a log
abbrev pub has_targets : Form → Bool
has_targets (form.Run job) = true
has_targets f = false

-- the targets that a form writes
abbrev pub writes : Form → Which → Bool
writes f w =
    is_built f && (is_same w which.Output
    || (has_targets f && (is_same w which.Trace || is_same w which.Log)))

-- a fault of a job that is reported as one: that memory is out has a status of its own
abbrev pub is_job_fault : JobFault → Bool
is_job_fault job.NoMemory = false
is_job_fault fault = true

-- likewise of an image
abbrev pub is_image_fault : ImageFault → Bool
is_image_fault image.NoMemory = false
is_image_fault fault = true

-- the statuses that a form can end with, whatever the shelf reports of its files
abbrev pub can_end : Form → Status → Bool
can_end f Done = is_built f
can_end f Illegal = is_judge f
can_end f Usage = false
can_end f (ReadFault w) = reads f w
can_end f (WriteFault w) = writes f w
can_end f (Job fault) = has_job f && is_job_fault fault
can_end f (Image fault) = has_job f && reads f which.Image && is_image_fault fault
can_end f (Vcd fault) = is_judge f
can_end f (Map fault) = is_judge f
can_end f (TooBig w) = reads f w
can_end f NoMemory = is_built f
can_end f Unbuilt = not (is_built f)

-- a call raised a count of faults, and what was called didn't say that it would have none
abbrev pub IsFaulted : (faultless : Type 0) (before now : ℕ) → Type 0
IsFaulted faultless before now = Rose before now × ¬ faultless

-- A fault was counted where a target is written: the output by the output, the others by the shelf.
abbrev pub IsFaultedAt : (shelf_faulted output_faulted : Type 0) → Which → Type 0
IsFaultedAt shelf_faulted output_faulted which.Trace = shelf_faulted
IsFaultedAt shelf_faulted output_faulted which.Log = shelf_faulted
IsFaultedAt shelf_faulted output_faulted which.Output = output_faulted
IsFaultedAt shelf_faulted output_faulted w = ⊥

-- a refusal because of what a file holds, or of a form that isn't built
abbrev pub IsRefusalOfContent : Status → Type 0
IsRefusalOfContent Done = ⊥
IsRefusalOfContent Illegal = ⊥
IsRefusalOfContent Usage = ⊥
IsRefusalOfContent (ReadFault which) = ⊥
IsRefusalOfContent (WriteFault which) = ⊥
IsRefusalOfContent (Job fault) = Unit {0}
IsRefusalOfContent (Image fault) = Unit {0}
IsRefusalOfContent (Vcd fault) = Unit {0}
IsRefusalOfContent (Map fault) = Unit {0}
IsRefusalOfContent (TooBig which) = Unit {0}
IsRefusalOfContent NoMemory = ⊥
IsRefusalOfContent Unbuilt = Unit {0}

-- a refusal before anything is written
abbrev pub IsRefusal : Status → Type 0
IsRefusal Done = ⊥
IsRefusal Illegal = ⊥
IsRefusal Usage = Unit {0}
IsRefusal (ReadFault which) = Unit {0}
IsRefusal (WriteFault which) = ⊥
IsRefusal (Job fault) = Unit {0}
IsRefusal (Image fault) = Unit {0}
IsRefusal (Vcd fault) = Unit {0}
IsRefusal (Map fault) = Unit {0}
IsRefusal (TooBig which) = Unit {0}
IsRefusal NoMemory = ⊥
IsRefusal Unbuilt = Unit {0}
