-- What `judge` prints, by the rules in the cycles of the waveform.
use Rattle.std.proofs.Common.{◌≡◌, ◌↔◌, ℕ, List, length, reverse, false, Option, Some, None, Ok, Err, refl, sym, ap, ◌∙◌}
use Rattle.std.specs.Prelude.{Result}
use Rattle.std.proofs.lemmas.List.{length-reverse}
use Rattle.xif_base.specs.declared.outside.Which.TheVariants.{Job as Job'}
use Rattle.xif_base.specs.Params.{IsInRange}
use Rattle.xif_signals.specs.declared.sample.Quad.{Quad}
use Rattle.xif_sampler.specs.Samples.{samples_by}
use Rattle.xif_job.specs.declared.job.Job.{Job}
use Rattle.xif_judge.specs.declared.verdict.Verdict.{Verdict}
use Rattle.xif_judge.specs.Histories.{first_fault, IsLegal, IsFirst}
use Rattle.xif_judge.proofs.Firsts.{none_legal, first_is}
use Rattle.waveform_judge.specs.Judged.{judged_from, judged_as, judged_of, with_map_fault}
use Rattle.xif_job.specs.declared.field.JobFault.{JobFault}
use Rattle.xif_job.specs.FieldTable.{read_of}
use Rattle.xif_cli.specs.declared.answer.End.TheVariants.{Done, Illegal}
use Rattle.xif_cli.specs.declared.status.Status.{Status}
use Rattle.xif_cli.specs.Judged.{HasHistory, Names, legal_answer, illegal_answer}
use Rattle.xif_cli.specs.Limits.{longest_job}
use Rattle.xif_cli.specs.Outcome.{Lookup, Answer, prints, ◌>>=◌, file_in, or_status, job_status, judge_status, verdict_in, judge_outcome}
use Rattle.xif_cli.specs.Verdict.{end_by, text_by, judged_end, judged_text}
use Rattle.xif_cli.proofs.Jobs.{job_in_range}

-- the answer by the first fault of so many cycles
abbrev answer_by : ℕ → Option Verdict → Answer
answer_by cycles verdict = prints (end_by verdict) (text_by cycles verdict)

judged_is : (job : Job) (text : List ℕ) (history : List (List Quad)) → HasHistory job text history
    → judged_of job.map job.params text ≡ Ok (record { cycles = length history; verdict = first_fault job.params history })
unfolding judged_of
judged_is job text history h =
    let samples = samples_by h.sources h.reading.items in
    let count : length samples ≡ length history = sym (ap length h.samples ∙ length-reverse samples) in
    let found : first_fault job.params (reverse samples) ≡ first_fault job.params history = ap (first_fault job.params) (sym h.samples) in
    ap (judged_as job.map job.params) h.reads
    ∙ ap (λ sources. with_map_fault (judged_from job.params h.reading.items sources)) h.fits
    ∙ ap (λ (n : ℕ). Ok (record { cycles = n; verdict = first_fault job.params (reverse samples) })) count
    ∙ ap (λ (v : Option Verdict). Ok (record { cycles = length history; verdict = v })) found

abbrev meant : Answer → Result Answer Status
meant answer = Ok answer

same_answer : (answer other : Answer) → meant answer ≡ meant other → answer ≡ other
same_answer answer other e = cc

ends_differ : Illegal ≡ Done → ⊥
ends_differ e = cc

no_verdict : (cycles : ℕ) (found : Option Verdict) → meant (answer_by cycles found) ≡ meant (legal_answer cycles) → found ≡ None
no_verdict cycles None e = refl
no_verdict cycles (Some verdict) e = absurd (ends_differ (ap (λ answer. answer.end) (same_answer (answer_by cycles (Some verdict)) (legal_answer cycles) e)))

-- a job that was read
read_ok : (r : Result (List ℕ) Status) (f : List ℕ → Result Job Status) (job : Job) → (r >>= f) ≡ Ok job → (bytes : List ℕ) × (f bytes ≡ Ok job)
read_ok (Ok bytes) f job e = (bytes, e)
read_ok (Err status) f job e = cc

with_status : (r : Result Job JobFault) (job : Job) → or_status job_status r ≡ Ok job → r ≡ Ok job
with_status (Ok x) job e = cc
with_status (Err fault) job e = cc

module _ (find : Lookup) (name waveform : List ℕ) (job : Job) (history : List (List Quad)) (names : Names find name waveform job history) where
  range : IsInRange job.params
  range =
      let read = read_ok (file_in Job' longest_job (find Job' name)) (λ bytes. or_status job_status (read_of false bytes)) job names.is_job in
      job_in_range false read.0 job (with_status (read_of false read.0) job read.1)

  outcome_is : judge_outcome name waveform find ≡ Ok (answer_by (length history) (first_fault job.params history))
  outcome_is =
      ap (λ r. r >>= λ job. verdict_in job waveform find) names.is_job
      ∙ ap (λ r. r >>= λ text. or_status judge_status (judged_of job.map job.params text) >>= λ judged. Ok (prints (judged_end judged) (judged_text judged))) names.is_waveform
      ∙ ap (λ r. or_status judge_status r >>= λ judged. Ok (prints (judged_end judged) (judged_text judged))) (judged_is job names.text history names.has_history)

  pub answers_legal : (judge_outcome name waveform find ≡ Ok (legal_answer (length history))) ↔ IsLegal job.params history
  answers_legal = (
    λ e. (none_legal job.params range history).0 (no_verdict (length history) (first_fault job.params history) (sym outcome_is ∙ e)),
    λ legal. outcome_is ∙ ap (λ found. Ok (answer_by (length history) found)) ((none_legal job.params range history).1 legal),
  )

  first_by : (found : Option Verdict) → first_fault job.params history ≡ found → ¬ IsLegal job.params history
      → (verdict : Verdict) × (IsFirst job.params history verdict × (judge_outcome name waveform find ≡ Ok (illegal_answer verdict)))
  first_by None e fails = absurd (fails ((none_legal job.params range history).0 e))
  first_by (Some verdict) e fails = (
    verdict,
    (
      (first_is job.params range history verdict).0 e,
      outcome_is ∙ ap (λ found. Ok (answer_by (length history) found)) e,
    ),
  )

  pub answers_first : ¬ IsLegal job.params history → (verdict : Verdict) × (IsFirst job.params history verdict × (judge_outcome name waveform find ≡ Ok (illegal_answer verdict)))
  answers_first fails = first_by (first_fault job.params history) refl fails
