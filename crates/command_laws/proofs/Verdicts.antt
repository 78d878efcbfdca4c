-- `judge` of the trace of a run.
use Rattle.std.proofs.Common.{◌≡◌, ◌≤◌, ◌++◌, ℕ, Bool, true, false, if◌then◌else◌, cond, List, length, Option, Some, Result, Ok, Err, nat_le, refl, sym, ap, ◌∙◌, subst, arith}
use Rattle.std.specs.Prelude.{String}
use Rattle.std.specs.declared.alloc.Global.{Global}
use Rattle.std.specs.Str.{bytes_eq}
use Rattle.std.specs.Cmp.Lexicographic.{nat_list_cmp_total}
use Rattle.std.specs.FinMap.{get, insert, get-insert}
use Rattle.std.proofs.lemmas.Bool.Decides.{nat_tests}
use Rattle.std.proofs.lemmas.List.{append_assoc}
use Rattle.std.proofs.lemmas.Map.Text.{is_eq-slice_cmp}
use Rattle.std.proofs.lemmas.Slice.Eq.{bytes_eq-Decides}
use Rattle.xif_base.specs.Files.{Files}
use Rattle.xif_base.specs.declared.outside.Which.TheVariants as which
use Rattle.xif_base.specs.declared.params.Params.{Params}
use Rattle.xif_base.specs.Params.{IsInRange}
use Rattle.xif_targets.specs.Targets.{written}
use Rattle.xif_targets.proofs.Growing.{get-put}
use Rattle.xif_image.specs.Image.{Placement}
use Rattle.xif_signals.specs.declared.bus.Bus.{Bus}
use Rattle.xif_sampler.specs.Places.{defaults}
use Rattle.vcd_text.specs.Written.{vcd_text_of}
use Rattle.trace_file.specs.Tracing.{trace_text}
use Rattle.cycle_spec.specs.Run.{Run}
use Rattle.run_log.specs.Log.{text_of}
use Rattle.waveform_judge.specs.Judged.{judged_of}
use Rattle.waveform_laws.specs.Verdicts.{no_fault_in}
use Rattle.waveform_laws.proofs.Texts.{text_legal}
use Rattle.xif_job.specs.declared.job.Job.{Job}
use Rattle.xif_cli.specs.declared.status.Status.{Status}
use Rattle.xif_cli.specs.declared.status.Status.TheVariants.{TooBig}
use Rattle.xif_cli.specs.Ending.{texts_of, Means}
use Rattle.xif_cli.specs.InOrder.{step_start}
use Rattle.xif_cli.specs.Judged.{legal_answer}
use Rattle.xif_cli.specs.Limits.{longest_waveform}
use Rattle.xif_cli.specs.Outcome.{Lookup, Answer, prints, found, ◌>>=◌, file_in, or_status, judge_status, job_in, image_of, with_image, run_answer, run_outcome, verdict_in, judge_outcome, command_outcome}
use Rattle.xif_cli.specs.Report.{outcome_text, cycles_text, register_lines, accumulator_lines, memory_lines}
use Rattle.xif_cli.specs.Simulated.{setup_of, run_by, targets_of, simulated_report, stop_of}
use Rattle.xif_cli.specs.Verdict.{judged_end, judged_text}
use Rattle.xif_cli.specs.Words.{Form, IsCommand}
use Rattle.xif_cli.specs.Words as form
use Rattle.xif_cli.proofs.Forms.{one_form}
use Rattle.command_laws.specs.Commands.{HoldBytes, SaysCycles, Runs, Judges, KeepsTrace, IsJudgedLegal}
use Rattle.command_laws.proofs.Jobs.{job_read, no_map}
use Rattle.vcd_text.proofs.ReadsBack.{all_by}
use Rattle.xif_signals.specs.Bus.{FitsWidths}
use Rattle.command_laws.proofs.Sizes.{text-short}
use Rattle.command_laws.proofs.Runs.{IsGood, run-good, job-file, setup-ranges, cycles-few}

abbrev meant : Answer → Result Answer Status
meant answer = Ok answer

same-answer : (answer other : Answer) → meant answer ≡ meant other → answer ≡ other
same-answer answer other h = cc

abbrev some-bytes : List ℕ → Option (List ℕ)
some-bytes xs = Some xs

same-some : (xs ys : List ℕ) → some-bytes xs ≡ some-bytes ys → xs ≡ ys
same-some xs ys h = cc

-- ---- the answer of `run`

abbrev both : Job → Placement → Result (Job × Placement) Status
both job image = Ok (job, image)

abbrev answered : Job × Placement → Result Answer Status
answered l = Ok (run_answer l.0 l.1)

-- the image of the job, and the answer
record HasRun (find : Lookup) (job : Job) (answer : Answer) : Type 0 where
  image : Placement
  is_image : image_of job find ≡ Ok image
  is_answer : answer ≡ run_answer job image

run-of : (words : List (String Global)) (files : Files) (job : Job) (answer : Answer) → Runs words files job → Means words (found files) (Ok answer) → HasRun (found files) job answer
run-of words files job answer r m = go (image_of job (found files)) refl (sym loads ∙ outcome)
  where
    outcome : run_outcome r.name (found files) ≡ Ok answer
    outcome = ap (λ f. command_outcome f (found files)) (one_form (texts_of words) (form.Run r.name) m.0 r.command m.1.0) ∙ m.1.1

    loads : run_outcome r.name (found files) ≡ (image_of job (found files) >>= both job >>= answered)
    loads = ap (λ j. j >>= (λ job. with_image job (found files)) >>= answered) r.is_job

    go : (o : Result Placement Status) → image_of job (found files) ≡ o → (o >>= both job >>= answered) ≡ Ok answer → HasRun (found files) job answer
    go (Ok image) e h = record { image = image; is_image = e; is_answer = sym (same-answer (run_answer job image) answer h) }
    go (Err status) e h = cc

-- its report says how many cycles it took
report-says : (run : Run) (before : List ℕ) → SaysCycles (length run.buses) (simulated_report run before)
unfolding simulated_report
report-says run before =
    let a = outcome_text (stop_of run.end) run.pc (length run.retired) in
    let b = cycles_text (length run.buses) in
    let c = register_lines run.registers in
    let d = accumulator_lines run.units in
    let e = memory_lines before run.memory in
    record {
      stop = stop_of run.end;
      pc = run.pc;
      retired = length run.retired;
      others = c ++ (d ++ e);
      is = append_assoc (a ++ b ++ c) d e ∙ append_assoc (a ++ b) c (d ++ e) ∙ append_assoc a b (c ++ (d ++ e));
    }

-- ---- the trace

other-name : (trace log : List ℕ) → bytes_eq log trace ≡ false → bytes_eq trace log ≡ false
other-name trace log h = go (bytes_eq trace log) refl
  where
    go : (t : Bool) → bytes_eq trace log ≡ t → t ≡ false
    go false e = refl
    go true e =
        let same : bytes_eq log trace ≡ true = (bytes_eq-Decides log trace).1 (sym ((bytes_eq-Decides trace log).0 e)) in
        cc

trace-there : (before : Files) (job : Job) (run : Run) → bytes_eq job.log job.trace ≡ false → get (written (targets_of job run) before) job.trace ≡ Some (trace_text job.params run.buses)
trace-there before job run h =
    let text = trace_text job.params run.buses in
    let apart = is_eq-slice_cmp job.trace job.log ∙ other-name job.trace job.log h in
    get-insert nat_list_cmp_total (insert before job.trace text) job.log (text_of run.logs) job.trace
    ∙ ap (λ t. cond t (Some (text_of run.logs)) (get (insert before job.trace text) job.trace)) apart
    ∙ get-put before job.trace text

-- ---- the verdict

text-is : (p : Params) (buses : List Bus) → trace_text p buses ≡ vcd_text_of p buses
unfolding trace_text
text-is p buses = refl

-- what is judged of a text that is in the file
verdict-is : (find : Lookup) (name waveform text : List ℕ) (job : Job) → job_in false name find ≡ Ok job → find which.Waveform waveform ≡ Some text
    → judge_outcome name waveform find ≡ (file_in which.Waveform longest_waveform (Some text) >>= λ text. or_status judge_status (judged_of job.map job.params text) >>= λ judged. Ok (prints (judged_end judged) (judged_text judged)))
verdict-is find name waveform text job j w =
    ap (λ r. r >>= λ job. verdict_in job waveform find) j
    ∙ ap (λ o. file_in which.Waveform longest_waveform o >>= λ text. or_status judge_status (judged_of job.map job.params text) >>= λ judged. Ok (prints (judged_end judged) (judged_text judged))) w

-- a file within the limit
file-fits : (text : List ℕ) → length text ≤ longest_waveform → file_in which.Waveform longest_waveform (Some text) ≡ Ok text
file-fits text h =
    let fits : nat_le (length text) longest_waveform ≡ true = grind (arith, nat_tests) in
    ap (λ t. if t then Ok text else Err (TooBig which.Waveform)) fits

module _ (run_words judge_words : List (String Global)) (before after : Files) (job : Job) (answer : Answer) (bytes : HoldBytes before)
    (runs : Runs run_words before job) (means : Means run_words (found before) (Ok answer)) (keeps : KeepsTrace before after job answer) (judges : Judges judge_words after job) where
  has : HasRun (found before) job answer
  has = run-of run_words before job answer runs means

  abbrev run : Run
  run = run_by job.predictor (setup_of job has.image)

  good : IsGood (setup_of job has.image) run
  good = run-good job.predictor (setup_of job has.image) (setup-ranges before runs.name job has.image bytes runs.is_job has.is_image)

  range : IsInRange job.params
  range = (setup-ranges before runs.name job has.image bytes runs.is_job has.is_image).params

  abbrev text : List ℕ
  text = trace_text job.params run.buses

  there : get after job.trace ≡ Some text
  there =
      let file = job-file true (found before) runs.name job runs.is_job in
      keeps ∙ ap (λ (a : Answer). get (written a.targets before) job.trace) has.is_answer
      ∙ trace-there before job run (job_read true file.bytes job file.read).apart

  by-default : judges.judged_by.map ≡ defaults
  by-default =
      let file = job-file false (found after) judges.name judges.judged_by judges.is_job in
      let same : some-bytes file.bytes ≡ some-bytes judges.no_map.bytes = sym file.there ∙ judges.no_map.there in
      no_map false file.bytes judges.no_map.top judges.judged_by (ap Rattle.xif_job.specs.Document.document_of (same-some file.bytes judges.no_map.bytes same) ∙ judges.no_map.document) judges.no_map.no_map file.read

  few : length run.buses ≤ 252480
  few =
      let most = cycles-few before runs.name job has.image runs.is_job in
      omega (arith, most, good.few)

  -- so the text is within the limit of `judge`
  fits : length text ≤ longest_waveform
  fits =
      let short = text-short job.params run.buses range (all_by (FitsWidths job.params) run.buses good.fits) (omega (arith, few)) in
      let same : length text ≡ length (vcd_text_of job.params run.buses) = ap length (text-is job.params run.buses) in
      omega (arith, few, short, same)

  judged-legal : judged_of judges.judged_by.map judges.judged_by.params text ≡ Ok (no_fault_in (length run.buses))
  judged-legal =
      ap (λ m. judged_of m judges.judged_by.params text) by-default
      ∙ ap (λ p. judged_of defaults p text) judges.params
      ∙ ap (judged_of defaults job.params) (text-is job.params run.buses)
      ∙ (text_legal job.params run.buses range good.fits (omega (arith, few))).1 good.legal

  outcome : judge_outcome judges.name job.trace (found after) ≡ (file_in which.Waveform longest_waveform (Some text) >>= λ text. or_status judge_status (judged_of judges.judged_by.map judges.judged_by.params text) >>= λ judged. Ok (prints (judged_end judged) (judged_text judged)))
  outcome = verdict-is (found after) judges.name job.trace text judges.judged_by judges.is_job there

  legal : judge_outcome judges.name job.trace (found after) ≡ Ok (legal_answer (length run.buses))
  legal =
      outcome
      ∙ ap (λ r. r >>= λ text. or_status judge_status (judged_of judges.judged_by.map judges.judged_by.params text) >>= λ judged. Ok (prints (judged_end judged) (judged_text judged))) (file-fits text fits)
      ∙ ap (λ r. or_status judge_status r >>= λ judged. Ok (prints (judged_end judged) (judged_text judged))) judged-legal

  pub judged : IsJudgedLegal judge_words after answer.printed
  judged = record {
    cycles = length run.buses;
    says = subst (λ (a : Answer). SaysCycles (length run.buses) a.printed) (sym has.is_answer) (report-says run (step_start job has.image).memory.bytes);
    legal = (form.Judge judges.name job.trace, (judges.command, legal));
  }
