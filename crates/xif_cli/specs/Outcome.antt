-- What a command means where nothing fails: how it ends, the files that it writes and the text that
-- it prints, or its refusal. The steps stand in the order in which refusals are reported.
use Rattle.std.specs.Prelude.{◌==◌, ℕ, Bool, if◌then◌else◌, List, [], length, Option, Some, None, Result, Ok, Err, nat_le, true, false}
use Rattle.std.specs.FinMap as map
use Rattle.xif_base.specs.Files.{Files}
use Rattle.xif_base.specs.declared.outside.Which.{Which}
use Rattle.xif_base.specs.declared.outside.Which.TheVariants as which
use Rattle.xif_image.specs.Image.{Placement, raw_image}
use Rattle.xif_image.specs.Text.{text_image}
use Rattle.xif_image.specs.declared.image.ImageFault.{ImageFault}
use Rattle.xif_image.specs.declared.image.ImageFault.TheVariants as image
use Rattle.waveform_judge.specs.Judged.{judged_of}
use Rattle.waveform_judge.specs.declared.judged.JudgeFail.{JudgeFail}
use Rattle.waveform_judge.specs.declared.judged.JudgeFail.TheVariants as judge
use Rattle.xif_job.specs.FieldTable.{read_of}
use Rattle.xif_job.specs.declared.field.JobFault.{JobFault}
use Rattle.xif_job.specs.declared.field.JobFault.TheVariants as job
use Rattle.xif_job.specs.declared.image.ImageKind.{ImageKind}
use Rattle.xif_job.specs.declared.image.ImageKind.TheVariants.{Text, Raw}
use Rattle.xif_job.specs.declared.job.Job.{Job}
use Rattle.xif_targets.specs.Targets.{Target}
use Rattle.xif_cli.specs.declared.answer.End.{End}
use Rattle.xif_cli.specs.declared.answer.End.TheVariants as end
use Rattle.xif_cli.specs.declared.status.Status.{Status}
use Rattle.xif_cli.specs.declared.status.Status.TheVariants as status
use Rattle.xif_cli.specs.InOrder.{raw_report, step_start, step_report}
use Rattle.xif_cli.specs.Limits.{longest_raw, longest_job, longest_image, longest_waveform}
use Rattle.xif_cli.specs.Simulated.{setup_of, run_by, targets_of, simulated_report}
use Rattle.xif_cli.specs.Summary.{generated_summary}
use Rattle.xif_cli.specs.Verdict.{judged_end, judged_text}
use Rattle.xif_cli.specs.Words.{Form}
use Rattle.xif_cli.specs.Words as form

-- the bytes of a file that a command reads, by which one it is and by its name; none where it
-- can't be read
abbrev pub Lookup : Type 0
Lookup = Which → List ℕ → Option (List ℕ)

-- the files as they are
abbrev pub found : Files → Lookup
found files which name = map.get files name

-- the place of each in the order of `Which`
abbrev pub place_of : Which → ℕ
place_of which.Job = 0
place_of which.Image = 1
place_of which.Waveform = 2
place_of which.Trace = 3
place_of which.Log = 4
place_of which.Output = 5

-- two are the same
abbrev pub is_same : Which → Which → Bool
is_same one other = place_of one == place_of other

-- the files where one that a command reads can't be read
abbrev pub without : Which → Files → Lookup
without lost files which name = if is_same lost which then None else (map.get files name)

-- what follows is done only where nothing was refused
infixl 10 ◌>>=◌
abbrev pub ◌>>=◌ : {A B : Type 0} → Result A Status → (A → Result B Status) → Result B Status
(Ok x) >>= f = f x
(Err status) >>= f = Err status

-- a file that is read whole, where it is there and within its limit
abbrev pub file_in : Which → ℕ → Option (List ℕ) → Result (List ℕ) Status
file_in which limit None = Err (status.ReadFault which)
file_in which limit (Some bytes) =
    if nat_le (length bytes) limit then (Ok bytes) else (Err (status.TooBig which))

-- the status of a job's fault, and of an image's
abbrev pub job_status : JobFault → Status
job_status job.NoMemory = status.NoMemory
job_status fault = status.Job fault

abbrev pub image_status : ImageFault → Status
image_status image.NoMemory = status.NoMemory
image_status fault = status.Image fault

-- the status of a waveform that can't be judged
abbrev pub judge_status : JudgeFail → Status
judge_status (judge.Vcd fault) = status.Vcd fault
judge_status (judge.Map fault) = status.Map fault
judge_status judge.NoMemory = status.NoMemory

abbrev pub or_status : {A E : Type 0} → (E → Status) → Result A E → Result A Status
or_status f (Ok x) = Ok x
or_status f (Err e) = Err (f e)

-- the job in the file of a name, where it may have to name its image
abbrev pub job_in : Bool → List ℕ → Lookup → Result Job Status
job_in needs_image name find = do
  bytes ← file_in which.Job longest_job (find which.Job name)
  or_status job_status (read_of needs_image bytes)

-- the image that the bytes of a file are, by their kind
abbrev pub image_by : ImageKind → Job → List ℕ → Result Placement ImageFault
image_by Text job bytes = text_image job.base job.size bytes
image_by Raw job bytes = raw_image job.image.load job.base job.size bytes

-- the image of a job
abbrev pub image_of : Job → Lookup → Result Placement Status
image_of job find = do
  bytes ← file_in which.Image (longest_image job.image.kind) (find which.Image job.image.file)
  or_status image_status (image_by job.image.kind job bytes)

-- how a command ends that isn't refused, the files that it writes, in order, and the text that it
-- prints behind them
pub record Answer : Type 0 where
  pub end : End
  pub targets : List Target
  pub printed : List ℕ

-- the answer of a command that writes no file
abbrev pub prints : End → List ℕ → Answer
prints end text = record { end = end; targets = []; printed = text }

-- the status of a command that ends so
abbrev pub end_status : End → Status
end_status end.Done = status.Done
end_status end.Illegal = status.Illegal

abbrev pub raw_outcome : List ℕ → ℕ → Lookup → Result Answer Status
raw_outcome image count find = do
  bytes ← file_in which.Image longest_raw (find which.Image image)
  Ok (prints end.Done (raw_report bytes count))

-- the report of a job
abbrev pub report_in : Job → Lookup → Result Answer Status
report_in job find = do
  image ← image_of job find
  Ok (prints end.Done (step_report job image))

abbrev pub step_outcome : List ℕ → Lookup → Result Answer Status
step_outcome name find = do
  job ← job_in true name find
  report_in job find

-- a job and its image
abbrev pub with_image : Job → Lookup → Result (Job × Placement) Status
with_image job find = do
  image ← image_of job find
  Ok (job, image)

abbrev pub loaded : List ℕ → Lookup → Result (Job × Placement) Status
loaded name find = do
  job ← job_in true name find
  with_image job find

-- the files and the report of the run of a job with its image
abbrev pub run_answer : Job → Placement → Answer
run_answer job image =
    let run = run_by job.predictor (setup_of job image) in
    record {
      end = end.Done;
      targets = targets_of job run;
      printed = simulated_report run (step_start job image).memory.bytes;
    }

abbrev pub run_outcome : List ℕ → Lookup → Result Answer Status
run_outcome name find = do
  l ← loaded name find
  Ok (run_answer l.0 l.1)

-- the verdict on a waveform by a job
abbrev pub verdict_in : Job → List ℕ → Lookup → Result Answer Status
verdict_in job waveform find = do
  bytes ← file_in which.Waveform longest_waveform (find which.Waveform waveform)
  judged ← or_status judge_status (judged_of job.map job.params bytes)
  Ok (prints (judged_end judged) (judged_text judged))

abbrev pub judge_outcome : List ℕ → List ℕ → Lookup → Result Answer Status
judge_outcome name waveform find = do
  job ← job_in false name find
  verdict_in job waveform find

-- what a form of the command line means; those that aren't built yet are refused
abbrev pub command_outcome : Form → Lookup → Result Answer Status
command_outcome (form.Raw image count) find = raw_outcome image count find
command_outcome (form.Step job) find = step_outcome job find
command_outcome (form.Run job) find = run_outcome job find
command_outcome (form.Judge job waveform) find = judge_outcome job waveform find
command_outcome (form.Gen seed count) find =
    Ok (prints end.Done (generated_summary seed count))
command_outcome (form.Harts job) find = Err status.Unbuilt
command_outcome (form.Replay job waveform) find = Err status.Unbuilt
