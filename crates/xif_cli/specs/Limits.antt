-- The longest files that a command reads, in bytes.
use Rattle.std.specs.Prelude.{ℕ}
use Rattle.xif_job.specs.declared.image.ImageKind.{ImageKind}
use Rattle.xif_job.specs.declared.image.ImageKind.TheVariants.{Text, Raw}

-- an image of `raw`
abbrev pub longest_raw : ℕ
longest_raw = 65536

-- a job file
abbrev pub longest_job : ℕ
longest_job = 262144

-- a job's image: a text, or plain bytes
abbrev pub longest_image : ImageKind → ℕ
longest_image Text = 8388608
longest_image Raw = 1048576

-- a waveform
abbrev pub longest_waveform : ℕ
longest_waveform = 134217728
