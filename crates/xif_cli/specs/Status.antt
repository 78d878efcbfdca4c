-- The statuses of the program, their numbers and their fault lines.
use Rattle.std.specs.Prelude.{ℕ, List, [], ◌++◌}
use Rattle.std.specs.Fmt.{decimal}
use Rattle.coproc_config.specs.declared.check.SetCause.{SetCause}
use Rattle.coproc_config.specs.declared.check.SetCause.TheVariants.{TooManyUnits, TooManyEntries, BadMask, BadAccumulator, BadField}
use Rattle.xif_drive.specs.declared.script.ScriptCause.{ScriptCause}
use Rattle.xif_drive.specs.declared.script.ScriptCause.TheVariants.{EmptyList, LongList, BigDelay}
use Rattle.xif_base.specs.declared.outside.Which.{Which}
use Rattle.xif_base.specs.declared.outside.Which.TheVariants as which
use Rattle.xif_image.specs.declared.image.ImageFault.{ImageFault}
use Rattle.xif_image.specs.declared.image.ImageFault.TheVariants as image
use Rattle.xif_job.specs.declared.field.JobFault.{JobFault}
use Rattle.xif_job.specs.declared.field.JobFault.TheVariants as job
use Rattle.vcd_text.specs.declared.fault.VcdCause.{VcdCause}
use Rattle.vcd_text.specs.declared.fault.VcdCause.TheVariants.{BadToken, OpenBlock, BadVar, SizeDiffers, UnknownCode, TooWide, BadTime, TimeBack, NoDefinitionsEnd}
use Rattle.xif_sampler.specs.declared.fault.MapFault.{MapFault}
use Rattle.xif_sampler.specs.declared.fault.MapFault.TheVariants.{Missing, Ambiguous, Narrow}
use Rattle.xif_signals.specs.Signal.{name_of}
use Rattle.xif_job.specs.Field.{dotted}
use Rattle.xif_cli.specs.declared.status.Status.{Status}
use Rattle.xif_cli.specs.declared.status.Status.TheVariants.{Done, Illegal, Usage, ReadFault, WriteFault, Job, Image, Vcd, Map, TooBig, NoMemory, Unbuilt}
use lib.Chars.{codes}

-- the number of a status, which is the exit status of the program
abbrev pub status_number : Status → ℕ
status_number Done = 0
status_number Illegal = 1
status_number Usage = 2
status_number (ReadFault which) = 3
status_number (WriteFault which) = 4
status_number (Job fault) = 5
status_number (Image fault) = 6
status_number (Vcd fault) = 7
status_number (Map fault) = 8
status_number (TooBig which) = 9
status_number NoMemory = 10
status_number Unbuilt = 11

-- the word for a file or a target
abbrev pub which_word : Which → List ℕ
which_word which.Job = codes "job"
which_word which.Image = codes "image"
which_word which.Waveform = codes "waveform"
which_word which.Trace = codes "trace"
which_word which.Log = codes "log"
which_word which.Output = codes "output"

-- the word for what is wrong with a set of units
abbrev pub cause_word : SetCause → List ℕ
cause_word TooManyUnits = codes "units"
cause_word TooManyEntries = codes "entries"
cause_word BadMask = codes "mask"
cause_word BadAccumulator = codes "accumulator"
cause_word BadField = codes "field"

-- the word for what is wrong with a script of delays
abbrev pub script_word : ScriptCause → List ℕ
script_word EmptyList = codes "empty"
script_word LongList = codes "long"
script_word BigDelay = codes "big"

-- what is said of a job's fault
abbrev pub job_words : JobFault → List ℕ
job_words job.NotToml = codes "not-toml"
job_words (job.MissingField field) = codes "missing " ++ dotted field
job_words (job.WrongKind field) = codes "kind " ++ dotted field
job_words (job.OutOfRange field) = codes "range " ++ dotted field
job_words job.UnknownField = codes "unknown"
job_words (job.Set fault) =
    codes "set " ++ cause_word fault.cause ++ codes " unit=" ++ decimal fault.unit
    ++ codes " entry=" ++ decimal fault.entry
job_words (job.Script fault) =
    codes "script " ++ script_word fault.cause ++ codes " list=" ++ decimal fault.list
job_words job.NoMemory = codes "no memory"

-- what is said of an image's fault
abbrev pub image_words : ImageFault → List ℕ
image_words (image.BadToken at) = codes "bad-token at=" ++ decimal at
image_words (image.Outside at) = codes "outside at=" ++ decimal at
image_words image.Empty = codes "empty"
image_words image.NoMemory = codes "no memory"

-- the word for what is wrong with the text of a waveform
abbrev pub vcd_word : VcdCause → List ℕ
vcd_word BadToken = codes "bad-token"
vcd_word OpenBlock = codes "open-block"
vcd_word BadVar = codes "bad-var"
vcd_word SizeDiffers = codes "size-differs"
vcd_word UnknownCode = codes "unknown-code"
vcd_word TooWide = codes "too-wide"
vcd_word BadTime = codes "bad-time"
vcd_word TimeBack = codes "time-back"
vcd_word NoDefinitionsEnd = codes "no-definitions-end"

-- what is said of a signal that isn't found
abbrev pub map_words : MapFault → List ℕ
map_words (Missing signal) = codes "missing " ++ name_of signal
map_words (Ambiguous signal) = codes "ambiguous " ++ name_of signal
map_words (Narrow signal) = codes "narrow " ++ name_of signal

-- what is said of a status on standard error
abbrev pub fault_line : Status → List ℕ
fault_line Done = []
fault_line Illegal = []
fault_line Usage = codes "usage"
fault_line (ReadFault which) = codes "read " ++ which_word which
fault_line (WriteFault which) = codes "write " ++ which_word which
fault_line (Job fault) = codes "job " ++ job_words fault
fault_line (Image fault) = codes "image " ++ image_words fault
fault_line (Vcd fault) = codes "vcd " ++ vcd_word fault.cause ++ codes " at=" ++ decimal fault.at
fault_line (Map fault) = codes "map " ++ map_words fault
fault_line (TooBig which) = codes "too-big " ++ which_word which
fault_line NoMemory = codes "no memory"
fault_line Unbuilt = codes "unbuilt"
