-- A call of `run`, and a call of `judge` on the trace that it writes.
use Rattle.std.specs.Prelude.{◌≡◌, ◌<◌, ◌++◌, ℕ, List, [], Option, Some, None, Ok, All, String, true, false}
use Rattle.std.specs.declared.alloc.Global.{Global}
use Rattle.std.specs.FinMap as map
use Rattle.toml.specs.Data.{Members, get_member}
use Rattle.xif_base.specs.Files.{Files}
use Rattle.xif_base.specs.declared.outside.Which.TheVariants as which
use Rattle.xif_targets.specs.Targets.{written}
use Rattle.inorder_machine.specs.declared.stop.StopCause.{StopCause}
use Rattle.xif_job.specs.Document.{document_of}
use Rattle.xif_job.specs.declared.job.Job.{Job}
use Rattle.xif_cli.specs.declared.answer.End.{End}
use Rattle.xif_cli.specs.Afterwards.{IsDone}
use Rattle.xif_cli.specs.Ending.{texts_of, Means}
use Rattle.xif_cli.specs.Judged.{legal_answer}
use Rattle.xif_cli.specs.Outcome.{Lookup, Answer, found, job_in}
use Rattle.xif_cli.specs.Report.{outcome_text, cycles_text}
use Rattle.xif_cli.specs.Words.{IsCommand}
use Rattle.xif_cli.specs.Words as form
use lib.Chars.{codes}

-- what files hold are bytes
abbrev pub HoldBytes : Files → Type 0
HoldBytes files =
    (name bytes : List ℕ) → map.get files name ≡ Some bytes → All (λ byte. byte < 256) bytes

-- The first line of a report ends in this number of cycles.
pub record SaysCycles (cycles : ℕ) (report : List ℕ) : Type 0 where
  pub stop : Option StopCause
  pub pc : ℕ
  pub retired : ℕ
  pub others : List ℕ
  pub is : report ≡ outcome_text stop pc retired ++ (cycles_text cycles ++ others)

-- The file of a name is a job without a table `map`.
pub record HasNoMap (find : Lookup) (name : List ℕ) : Type 0 where
  pub bytes : List ℕ
  pub top : Members
  pub there : find which.Job name ≡ Some bytes
  pub document : document_of bytes ≡ Some top
  pub no_map : get_member (codes "map") top ≡ None

-- The words are those of `run` for this job.
pub record Runs (words : List (String Global)) (files : Files) (job : Job) : Type 0 where
  pub name : List ℕ
  pub command : IsCommand (texts_of words) (form.Run name)
  pub is_job : job_in true name (found files) ≡ Ok job

-- The words are those of `judge` for the trace of a job, by a job with the same parameters and
-- without a table `map`.
pub record Judges (words : List (String Global)) (files : Files) (job : Job) : Type 0 where
  pub name : List ℕ
  pub judged_by : Job
  pub command : IsCommand (texts_of words) (form.Judge name job.trace)
  pub is_job : job_in false name (found files) ≡ Ok judged_by
  pub params : judged_by.params ≡ job.params
  pub no_map : HasNoMap (found files) name

-- the file of the trace of a job is as the answer of its run says
abbrev pub KeepsTrace : (before after : Files) → Job → Answer → Type 0
KeepsTrace before after job answer =
    map.get after job.trace ≡ map.get (written answer.targets before) job.trace

-- The words mean that a waveform is legal, with as many cycles as a report says.
pub record IsJudgedLegal (words : List (String Global)) (files : Files) (report : List ℕ)
    : Type 0 where
  pub cycles : ℕ
  pub says : SaysCycles cycles report
  pub legal : Means words (found files) (Ok (legal_answer cycles))

-- A call with these words, over these files and with an output of its own, ends as it is meant to
-- (`output_is_defined` of `xif`): it ends so, leaves these files, and has printed this.
abbrev pub Calls : (words : List (String Global)) (before : Files) (end : End) (after : Files)
    (printed : List ℕ) → Type 0
Calls words before end after printed =
    IsDone (λ answer. Means words (found before) (Ok answer)) end before (Some after)
    (Some []) (Some printed)
