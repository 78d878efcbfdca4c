-- What stands where the writing of a run's files stops, and how the command then ends.
use Rattle.std.proofs.Common.{◌≡◌, ◌⊎◌, inl, inr, ℕ, List, [], ◌∷◌, ◌++◌, take, Option, Some, None, refl, sym, ap, subst, ◌∙◌, arith}
use Rattle.std.specs.Option.{option_map}
use Rattle.std.specs.Prelude.{Result, Ok, Err, IfOk, IfErr, OnOk, OnErr, String, string_bytes}
use Rattle.std.specs.declared.alloc.Global.{Global}
use Rattle.std.specs.FinMap as map
use Rattle.xif_base.specs.Faults.{Rose, CountsFaults}
use Rattle.xif_base.specs.Files.{Files}
use Rattle.xif_base.specs.declared.outside.Which.{Which}
use Rattle.xif_base.specs.declared.outside.Which.TheVariants as which
use Rattle.xif_base.specs.declared.outside.WriteFail.{WriteFail}
use Rattle.xif_base.specs.declared.outside.WriteFail.TheVariants as fail
use Rattle.xif_targets.specs.Targets.{Target, written, HasFront, StopsAtFile}
use Rattle.xif_targets.specs.Writing.{IsWritten, IsWrittenInPart, IsUncounted, IsCountedFail}
use Rattle.xif_targets.proofs.Growing.{fail-behind, uncounted-behind}
use Rattle.xif_base.specs.Output.{grown, GrowsByFront}
use Rattle.xif_cli.specs.Printing.{IsPrintFail}
use Rattle.xif_cli.specs.declared.answer.End.TheVariants.{Done}
use Rattle.xif_cli.specs.declared.status.Status.{Status}
use Rattle.xif_cli.specs.declared.status.Status.TheVariants.{WriteFault, NoMemory}
use Rattle.xif_cli.specs.Ending.{IsFaulted, IsFaultedAt}
use Rattle.xif_cli.specs.Concluding.{IsFailStatus, StopsWriting, IsWriteFail, WritesRun, Delivers}
use Rattle.xif_cli.specs.Outcome.{Answer, end_status}
use Rattle.cycle_spec.specs.Run.{Setup, Run}
use Rattle.xif_image.specs.Image.{Placement}
use Rattle.xif_job.specs.declared.job.Job.{Job}
use Rattle.xif_cli.specs.InOrder.{step_start}
use Rattle.xif_cli.specs.Simulated.{setup_of, run_by, targets_of, trace_and_log, simulated_report}
use Rattle.xif_cli.specs.declared.write_run.Stop.{Stop}
use Rattle.xif_cli.specs.declared.answer.End.{End}
use Rattle.xif_cli.proofs.Concluding.{end_is_no_write_fail, printed}

-- what is left of one file, behind files that are whole
left-of : (whole rest : List Target) (t : Target) (before : Files) (after : Option Files)
    → (after ≡ Some (written whole before)) ⊎ IsWrittenInPart (Some (written whole before)) after t.name t.text
    → (left : Files) × ((after ≡ Some left) × StopsAtFile t.which (whole ++ t ∷ rest) before left)
left-of whole rest t before after stops = elim stops [
  | inl same ↦ (written whole before, (same, record { whole = whole; target = t; rest = rest; split = refl; which = refl; left = inl refl }))
  | inr part ↦ (
    map.insert (written whole before) t.name (take part.count t.text),
    (
      part.by_front,
      record {
        whole = whole;
        target = t;
        rest = rest;
        split = refl;
        which = refl;
        left = inr (record { count = part.count; within = part.within; by_front = refl });
      },
    ),
  )
]

module _ (p q : Target) where
  -- the first file
  pub stops-first : (w : Which) (before after : Option Files) → w ≡ p.which → p.which ≡ which.Trace
      → (after ≡ before) ⊎ IsWrittenInPart before after p.name p.text
      → StopsWriting w (p ∷ q ∷ []) before after
  stops-first w before after at first stops = record {
    is_file = inl (at ∙ first);
    reported = λ m told. subst (λ v. (left : Files) × ((after ≡ Some left) × StopsAtFile v (p ∷ q ∷ []) m left)) (sym at)
        (left-of [] (q ∷ []) p m after (elim stops [
          | inl same ↦ inl (same ∙ told)
          | inr part ↦ inr (subst (λ b. IsWrittenInPart b after p.name p.text) told part)
        ]));
    unreported = λ none. elim stops [
      | inl same ↦ same ∙ none
      | inr part ↦ part.by_front ∙ ap (option_map (λ m. map.insert m p.name (take part.count p.text))) none
    ];
  }

  -- the second file, behind the first one
  pub stops-second : (w : Which) (before mid after : Option Files) → w ≡ q.which → q.which ≡ which.Log
      → IsWritten before mid p.name p.text
      → (after ≡ mid) ⊎ IsWrittenInPart mid after q.name q.text
      → StopsWriting w (p ∷ q ∷ []) before after
  stops-second w before mid after at second is stops = record {
    is_file = inr (at ∙ second);
    reported = λ m told.
        let there : mid ≡ Some (written (p ∷ []) m) = is ∙ ap (option_map (λ m. map.insert m p.name p.text)) told in
        subst (λ v. (left : Files) × ((after ≡ Some left) × StopsAtFile v (p ∷ q ∷ []) m left)) (sym at)
        (left-of (p ∷ []) [] q m after (elim stops [
          | inl same ↦ inl (same ∙ there)
          | inr part ↦ inr (subst (λ b. IsWrittenInPart b after q.name q.text) there part)
        ]));
    unreported = λ none.
        let nowhere : mid ≡ None = is ∙ ap (option_map (λ m. map.insert m p.name p.text)) none in
        elim stops [
          | inl same ↦ same ∙ nowhere
          | inr part ↦ part.by_front ∙ ap (option_map (λ m. map.insert m q.name (take part.count q.text))) nowhere
        ];
  }

  -- both files
  pub both-written : (before mid after : Option Files) → IsWritten before mid p.name p.text → IsWritten mid after q.name q.text → after ≡ option_map (written (p ∷ q ∷ [])) before
  both-written None mid after first second = second ∙ ap (option_map (λ m. map.insert m q.name q.text)) first
  both-written (Some m) mid after first second = second ∙ ap (option_map (λ m. map.insert m q.name q.text)) first

same_place : (w v : Which) → WriteFault w ≡ WriteFault v → w ≡ v
same_place w v e = cc

at_file : (A B : Type 0) (w : Which) → (w ≡ which.Trace) ⊎ (w ≡ which.Log) → A → IsFaultedAt A B w
at_file A B w is a = elim is [
  | inl e ↦ subst (IsFaultedAt A B) (sym e) a
  | inr e ↦ subst (IsFaultedAt A B) (sym e) a
]

module _ {S O : Type 0} {files : S → Option Files} {fetch_faults write_faults : S → ℕ} {faultless : S → Type 0} {put_bytes : O → Option (List ℕ)} {put_faults : O → ℕ} {puts_all : O → Type 0} where
  -- a command that stops in a file, and prints nothing
  pub stopped : (old new : S) (out : O) (answer : Answer) (w : Which) (cause : WriteFail) (status : Status)
      → StopsWriting w answer.targets (files old) (files new)
      → IsCountedFail fetch_faults write_faults faultless old new cause
      → IsFailStatus w cause status
      → Delivers files fetch_faults write_faults faultless put_bytes put_faults puts_all old new out out answer status
  stopped old new out answer w fail.Failed status stops counted is = record {
    ends = inr (inl (w, is));
    whole = λ end e. absurd (end_is_no_write_fail end (inl (w, sym e ∙ is)));
    faulted = λ v e.
        let same : w ≡ v = same_place w v (sym is ∙ e) in
        subst (IsFaultedAt (IsFaulted (faultless old) (write_faults old) (write_faults new)) (IsFaulted (puts_all out) (put_faults out) (put_faults out))) same
        (at_file (IsFaulted (faultless old) (write_faults old) (write_faults new)) (IsFaulted (puts_all out) (put_faults out) (put_faults out)) w stops.is_file (counted.failed refl, counted.has_faults refl));
    stops = λ v e m told.
        let same : w ≡ v = same_place w v (sym is ∙ e) in
        let left = stops.reported m told in
        record { left = left.0; reported = left.1.0; stops = inl (subst (λ u. StopsAtFile u answer.targets m left.0) same left.1.1, refl) };
    no_memory = λ e m told. absurd (cc);
    unreported = stops.unreported;
    fetches = counted.fetches;
    writes_reported = inr (w, is);
    writes_counted = counted.counts;
    puts_reported = inl refl;
    puts_counted = record { count = omega arith; stays_faultless = λ said. said; no_fault = λ said. refl };
  }
  stopped old new out answer w fail.NoMemory status stops counted is = record {
    ends = inr (inr is);
    whole = λ end e. absurd (end_is_no_write_fail end (inr (sym e ∙ is)));
    faulted = λ v e. absurd (cc);
    stops = λ v e m told. absurd (cc);
    no_memory = λ e m told.
        let left = stops.reported m told in
        (w, record { left = left.0; reported = left.1.0; stops = inl (left.1.1, refl) });
    unreported = stops.unreported;
    fetches = counted.fetches;
    writes_reported = inl (counted.no_memory refl);
    writes_counted = counted.counts;
    puts_reported = inl refl;
    puts_counted = record { count = omega arith; stays_faultless = λ said. said; no_fault = λ said. refl };
  }

-- two facts of an error
pub err_both : {T E : Type 0} {P Q R : E → Type 0} (r : Result T E) → ((e : E) → P e → Q e → R e) → IfErr r P → IfErr r Q → IfErr r R
err_both (Ok x) f p q = tt
err_both (Err e) f p q = f e p q

-- ---- the files of a run

module _ {S : Type 0} {files : S → Option Files} {fetch_faults write_faults : S → ℕ} {faultless : S → Type 0} where
  -- memory was out before anything was written
  pub untouched-run : (shelf : S) (p q : Target) (report : List ℕ) → p.which ≡ which.Trace
      → WritesRun files fetch_faults write_faults faultless shelf shelf (p ∷ q ∷ []) report (Err (record { which = which.Trace; fail = fail.NoMemory }))
  untouched-run shelf p q report first = record {
    reports = tt;
    whole = tt;
    uncounted = tt;
    stops = stops-first p q which.Trace (files shelf) (files shelf) (sym first) first (inl refl);
    counted = record {
      fetches = refl;
      counts = record { count = omega arith; stays_faultless = λ said. said; no_fault = λ said. refl };
      failed = λ e. cc;
      has_faults = λ e. cc;
      no_memory = λ e. refl;
    };
  }

  -- what is written by a setup is what is meant by its job
  pub writes-by : (old new : S) (job : Job) (image : Placement) (setup : Setup) (trace log : List ℕ) (run : Run) (r : Result (String Global) Stop)
      → setup ≡ setup_of job image → trace ≡ job.trace → log ≡ job.log → run ≡ run_by job.predictor (setup_of job image)
      → WritesRun files fetch_faults write_faults faultless old new (trace_and_log setup.params trace log run) (simulated_report run setup.memory.bytes) r
      → WritesRun files fetch_faults write_faults faultless old new (targets_of job (run_by job.predictor (setup_of job image))) (simulated_report (run_by job.predictor (setup_of job image)) (step_start job image).memory.bytes) r
  writes-by old new job image setup trace log run r same is_trace is_log by w =
      let targets : trace_and_log setup.params trace log run ≡ targets_of job (run_by job.predictor (setup_of job image)) =
      λ i. trace_and_log (same i).params (is_trace i) (is_log i) (by i) in
      let report : simulated_report run setup.memory.bytes ≡ simulated_report (run_by job.predictor (setup_of job image)) (step_start job image).memory.bytes =
      λ i. simulated_report (by i) (same i).memory.bytes in
      subst (λ t. WritesRun files fetch_faults write_faults faultless old new t (simulated_report (run_by job.predictor (setup_of job image)) (step_start job image).memory.bytes) r) targets
      (subst (λ t. WritesRun files fetch_faults write_faults faultless old new (trace_and_log setup.params trace log run) t r) report w)

  -- a trace that was written, and then a log
  pub both-files : (old mid new : S) (p q : Target) (log shown report : List ℕ) (r : Result (String Global) Stop)
      → p.which ≡ which.Trace → q.which ≡ which.Log
      → IsWritten (files old) (files mid) p.name p.text → IsUncounted fetch_faults write_faults faultless old mid
      → log ≡ q.text → shown ≡ report
      → IfOk r (λ text. string_bytes text ≡ shown)
      → OnOk r (IsWritten (files mid) (files new) q.name log)
      → OnOk r (IsUncounted fetch_faults write_faults faultless mid new)
      → IfErr r (λ stop. stop.which ≡ which.Log)
      → OnErr r ((files new ≡ files mid) ⊎ IsWrittenInPart (files mid) (files new) q.name log)
      → IfErr r (λ stop. IsCountedFail fetch_faults write_faults faultless mid new stop.fail)
      → WritesRun files fetch_faults write_faults faultless old new (p ∷ q ∷ []) report r
  both-files old mid new p q log shown report (Ok text) first second is_trace none is_log is_shown shows writes later at part counted = record {
    reports = shows ∙ is_shown;
    whole = both-written p q (files old) (files mid) (files new) is_trace (subst (IsWritten (files mid) (files new) q.name) is_log writes);
    uncounted = uncounted-behind none later;
    stops = tt;
    counted = tt;
  }
  both-files old mid new p q log shown report (Err stop) first second is_trace none is_log is_shown shows writes later at part counted = record {
    reports = tt;
    whole = tt;
    uncounted = tt;
    stops = stops-second p q stop.which (files old) (files mid) (files new) (at ∙ sym second) second is_trace (elim part [
      | inl same ↦ inl same
      | inr front ↦ inr (subst (IsWrittenInPart (files mid) (files new) q.name) is_log front)
    ]);
    counted = fail-behind stop.fail none counted;
  }

module _ {S O : Type 0} {files : S → Option Files} {fetch_faults write_faults : S → ℕ} {faultless : S → Type 0} {put_bytes : O → Option (List ℕ)} {put_faults : O → ℕ} {puts_all : O → Type 0} where
  -- the report that is printed behind the files
  pub reported : (old new : S) (out_old out_new : O) (targets : List Target) (report text : List ℕ) (status : Status)
      → text ≡ report
      → IsUncounted fetch_faults write_faults faultless old new
      → files new ≡ option_map (written targets) (files old)
      → (status ≡ end_status Done) ⊎ IsPrintFail status
      → ((end : End) → status ≡ end_status end → put_bytes out_new ≡ grown (put_bytes out_old) text)
      → (IsPrintFail status → GrowsByFront (put_bytes out_old) (put_bytes out_new) text)
      → (status ≡ WriteFault which.Output → IsFaulted (puts_all out_old) (put_faults out_old) (put_faults out_new))
      → (put_faults out_new ≡ put_faults out_old) ⊎ (status ≡ WriteFault which.Output)
      → CountsFaults put_faults puts_all out_old out_new
      → Delivers files fetch_faults write_faults faultless put_bytes put_faults puts_all old new out_old out_new (record { end = Done; targets = targets; printed = report }) status
  reported old new out_old out_new targets report text status is none is_written ends puts fronts faults counted counts =
      printed old new out_old out_new (record { end = Done; targets = targets; printed = report }) status none is_written ends
      (λ end e. puts end e ∙ ap (grown (put_bytes out_old)) is)
      (λ failed. subst (GrowsByFront (put_bytes out_old) (put_bytes out_new)) is (fronts failed))
      faults counted counts
