-- Which samples a call `judge JOB WAVEFORM` judges, and how it ends.
use Rattle.std.specs.Prelude.{◌≡◌, ℕ, List, reverse, false, Ok}
use Rattle.xif_base.specs.declared.outside.Which.TheVariants.{Waveform}
use Rattle.xif_signals.specs.declared.sample.Quad.{Quad}
use Rattle.vcd_text.specs.Reading.{Reading, reading_of}
use Rattle.xif_sampler.specs.declared.source.Source.{Source}
use Rattle.xif_sampler.specs.Places.{sources_of}
use Rattle.xif_sampler.specs.Samples.{samples_by}
use Rattle.xif_job.specs.declared.job.Job.{Job}
use Rattle.xif_judge.specs.declared.verdict.Verdict.{Verdict}
use Rattle.xif_cli.specs.declared.answer.End.TheVariants.{Done, Illegal}
use Rattle.xif_cli.specs.Limits.{longest_waveform}
use Rattle.xif_cli.specs.Outcome.{Lookup, Answer, prints, file_in, job_in}
use Rattle.xif_cli.specs.Verdict.{legal_line, verdict_line}

-- The text of a waveform has a reading, the job's map fits the variables that it declares, and
-- these are its samples, the newest first.
pub record HasHistory (job : Job) (text : List ℕ) (history : List (List Quad)) : Type 0 where
  pub reading : Reading
  pub sources : List Source
  pub reads : reading_of text ≡ Ok reading
  pub fits : sources_of job.map reading.variables job.params ≡ Ok sources
  pub samples : history ≡ reverse (samples_by sources reading.items)

-- The first word names the file of this job, which is valid, and the second that of a waveform with
-- this history by the job.
pub record Names (find : Lookup) (name waveform : List ℕ) (job : Job) (history : List (List Quad))
    : Type 0 where
  pub text : List ℕ
  pub is_job : job_in false name find ≡ Ok job
  pub is_waveform : file_in Waveform longest_waveform (find Waveform waveform) ≡ Ok text
  pub has_history : HasHistory job text history

-- the answer for so many cycles in which no rule fails
abbrev pub legal_answer : ℕ → Answer
legal_answer cycles = prints Done (legal_line cycles)

-- the answer for a first fault
abbrev pub illegal_answer : Verdict → Answer
illegal_answer verdict = prints Illegal (verdict_line verdict)
