-- The forms of the command line.
use Rattle.std.specs.Prelude.{ℕ, List, [], ◌∷◌, ◌≡◌, ◌≢◌, ◌≤◌, ⊤, length, slice_index}
use Rattle.std.specs.Fmt.{decimal}
use Rattle.xif_cli.specs.declared.words.Command.{Command}
use Rattle.xif_cli.specs.declared.words.Command.TheVariants as command
use lib.Chars.{codes}

-- a form, with what stands in its places
pub data Form : Type 0 where
  Raw : (image : List ℕ) (count : ℕ) → Form
  Step : (job : List ℕ) → Form
  Run : (job : List ℕ) → Form
  Judge : (job waveform : List ℕ) → Form
  Gen : (seed count : ℕ) → Form
  Harts : (job : List ℕ) → Form
  Replay : (job waveform : List ℕ) → Form

-- the words of a form; a number is written in decimal digits, without sign or leading zeros
abbrev pub words_of : Form → List (List ℕ)
words_of (Raw image count) = codes "raw" ∷ image ∷ decimal count ∷ []
words_of (Step job) = codes "step" ∷ job ∷ []
words_of (Run job) = codes "run" ∷ job ∷ []
words_of (Judge job waveform) = codes "judge" ∷ job ∷ waveform ∷ []
words_of (Gen seed count) = codes "gen" ∷ decimal seed ∷ decimal count ∷ []
words_of (Harts job) = codes "harts" ∷ job ∷ []
words_of (Replay job waveform) = codes "replay" ∷ job ∷ waveform ∷ []

-- a number from low to high
pub record IsWithin (low high n : ℕ) : Type 0 where
  pub at_least : low ≤ n
  pub at_most : n ≤ high

-- the numbers of a form are within their ranges
abbrev pub IsInRange : Form → Type 0
IsInRange (Raw image count) = IsWithin 1 1000000 count
IsInRange (Step job) = ⊤
IsInRange (Run job) = ⊤
IsInRange (Judge job waveform) = ⊤
IsInRange (Gen seed count) = IsWithin 0 4294967295 seed × IsWithin 1 20000 count
IsInRange (Harts job) = ⊤
IsInRange (Replay job waveform) = ⊤

-- the text begins with no `+` (43), and with no `0` (48) before more
pub record HasPlainStart (text : List ℕ) : Type 0 where
  pub no_plus : slice_index text 0 ≢ 43
  pub zero_alone : slice_index text 0 ≡ 48 → length text ≡ 1

-- the words after the program's name are those of this form
pub record IsCommand (words : List (List ℕ)) (form : Form) : Type 0 where
  pub in_range : IsInRange form
  pub spelled : words ≡ words_of form

-- the form that a command is of
abbrev pub form_of : Command → Form
form_of (command.Raw image count) = Raw image.now count
form_of (command.Step job) = Step job.now
form_of (command.Run job) = Run job.now
form_of (command.Judge job waveform) = Judge job.now waveform.now
form_of (command.Gen seed count) = Gen seed count
form_of (command.Harts job) = Harts job.now
form_of (command.Replay job waveform) = Replay job.now waveform.now
