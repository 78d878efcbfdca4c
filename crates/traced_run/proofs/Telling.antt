-- Telling a run cycle by cycle.
use Rattle.std.proofs.Common.{◌≡◌, ◌≤◌, ◌<◌, ◌+◌, ◌^◌, ◌++◌, ℕ, List, [], ◌∷◌, reverse, length, Option, Bool, true, false, refl, sym, ap, subst, ◌∙◌, arith}
use Rattle.std.specs.Prelude.{IsTrue, Result, Ok, Err, IsErrAnd}
use Rattle.xif_base.specs.Files.{Files}
use Rattle.xif_signals.specs.declared.bus.Bus.{Bus}
use Rattle.cycle_spec.specs.declared.log.CycleLog.{CycleLog}
use Rattle.cycle_spec.specs.Run.{Setup, Meaning, run_of}
use Rattle.run_log.specs.Log.{cycle_text, text_of}
use Rattle.trace_file.specs.Tracing.{Tracing, IsTracing, trace_text}
use Rattle.xif_targets.specs.Writing.{IsWrittenInPart}
use Rattle.xif_sim.specs.Setup.{IsLawfulSetup}
use Rattle.xif_sim.specs.Simulating.{Simulating, begun, is_over, cycles_left, GoesOn}
use Rattle.xif_sim.proofs.Extends.{tells-none, tells-more, whole-buses, whole-logs}
use Rattle.traced_run.specs.declared.counts.Counts.{Counts}
use Rattle.traced_run.specs.Left.{IsAtEnd, counts_of, counted}
use Rattle.traced_run.specs.Telling.{IsSmall, IsCounting, IsTelling}
use Rattle.traced_run.proofs.Counting.{reverse-more, count-none, count-more, small-more, at-end, counts-are, text-more}
use Rattle.traced_run.proofs.Front.{told-front-more}
use Rattle.traced_run.proofs.Small.{few-cycles}

abbrev none : Counts
none = record { cycles = 0; retired = 0; cuts = 0 }

module _ {P : Type 0} (m : Meaning P) (setup : Setup) (first : P) where
  pub counting-none : IsLawfulSetup setup → IsCounting m setup first (begun setup) first none
  counting-none l = record {
    buses = [];
    logs = [];
    tells = tells-none m setup first l;
    counts = count-none;
    small = record { few = omega arith; retired = omega arith; cuts = omega arith };
    room = omega (arith, few-cycles setup l);
    params = refl;
  }

  pub counting-more : (old : Simulating) (asked : P) (new : Simulating) (taught : P) (told : Bus × CycleLog) (c : Counts)
      → IsCounting m setup first old asked c → is_over old ≡ false → GoesOn m old asked new taught told
      → new.machines.core.params ≡ old.machines.core.params → cycles_left new < cycles_left old
      → IsCounting m setup first new taught (counted c told.1)
  counting-more old asked new taught told c k going goes params fewer =
      let room : c.cycles < 2 ^ 32 = omega (arith, k.room, fewer) in
      record {
        buses = told.0 ∷ k.buses;
        logs = told.1 ∷ k.logs;
        tells = tells-more m setup first old asked new taught told k.buses k.logs k.tells going goes;
        counts = count-more c k.buses k.logs told.0 told.1 k.counts;
        small = small-more c told.1 room k.small;
        room = omega (arith, k.room, fewer);
        params = params ∙ k.params;
      }

  pub counting-ends : (s : Simulating) (now : P) (c : Counts) → IsCounting m setup first s now c → is_over s ≡ true → IsAtEnd s (run_of m setup first) × (c ≡ counts_of (run_of m setup first))
  counting-ends s now c k over = (at-end m setup first s now k.buses k.logs over k.tells, counts-are m setup first s now k.buses k.logs over k.tells c k.counts)

  pub telling-more : (old : Simulating) (asked : P) (new : Simulating) (taught : P) (told : Bus × CycleLog) (c : Counts)
      (before now later : Option Files) (name : List ℕ) (trace next : Tracing) (log text : List ℕ)
      → (k : IsTelling m setup first before now name old asked trace log c)
      → is_over old ≡ false → GoesOn m old asked new taught told
      → new.machines.core.params ≡ old.machines.core.params → cycles_left new < cycles_left old
      → ((before : Option Files) (buses : List Bus) → IsTracing before now name trace buses → IsTracing before later name next (buses ++ told.0 ∷ []))
      → next.writer.params ≡ trace.writer.params → next.writer.cycles ≡ trace.writer.cycles + 1
      → text ≡ log ++ cycle_text c.cycles told.1
      → IsTelling m setup first before later name new taught next text (counted c told.1)
  unfolding counting-more
  telling-more old asked new taught told c before now later name trace next log text k going goes params fewer traces same_params number is_text = record {
    counting = counting-more old asked new taught told c k.counting going goes params fewer;
    tracing = subst (IsTracing before later name next) (sym (reverse-more told.0 k.counting.buses)) (traces before (reverse k.counting.buses) k.tracing);
    text = is_text ∙ ap (λ t. t ++ cycle_text c.cycles told.1) k.text ∙ text-more told.1 k.counting.logs c.cycles k.counting.counts.logs_too;
    params = same_params ∙ k.params;
    number = number ∙ ap (λ n. n + 1) k.number;
  }

  pub telling-none : (before now : Option Files) (name : List ℕ) (trace : Tracing) (log : List ℕ)
      → IsLawfulSetup setup → IsTracing before now name trace [] → trace.writer.params ≡ setup.params → log ≡ []
      → IsTelling m setup first before now name (begun setup) first trace log none
  unfolding counting-none
  telling-none before now name trace log l tracing params text = record {
    counting = counting-none l;
    tracing = tracing;
    text = text;
    params = params;
    number = tracing.wrote.count;
  }

  -- where a cycle can't be written, what is in the file is a part of the whole text
  pub part-of-run : (old : Simulating) (asked : P) (new : Simulating) (taught : P) (told : Bus × CycleLog) (c : Counts)
      (before now later : Option Files) (name : List ℕ) (trace : Tracing) (log : List ℕ)
      → IsTelling m setup first before now name old asked trace log c
      → is_over old ≡ false → GoesOn m old asked new taught told
      → ((before : Option Files) (buses more : List Bus) → IsTracing before now name trace buses → IsWrittenInPart before later name (trace_text trace.writer.params (buses ++ told.0 ∷ more)))
      → IsWrittenInPart before later name (trace_text setup.params (run_of m setup first).buses)
  part-of-run old asked new taught told c before now later name trace log k going goes parts =
      let counting = k.counting in
      let tells = tells-more m setup first old asked new taught told counting.buses counting.logs counting.tells going goes in
      let front = told-front-more m setup first new taught told.0 counting.buses (told.1 ∷ counting.logs) tells in
      subst (λ bs. IsWrittenInPart before later name (trace_text setup.params bs)) (sym front.1)
      (subst (λ p. IsWrittenInPart before later name (trace_text p (reverse counting.buses ++ told.0 ∷ front.0))) k.params
      (parts before (reverse counting.buses) front.0 k.tracing))

  -- what is told in the end
  pub all-buses : (before now : Option Files) (name : List ℕ) (s : Simulating) (asked : P) (trace : Tracing) (log : List ℕ) (c : Counts)
      → (k : IsTelling m setup first before now name s asked trace log c) → is_over s ≡ true
      → trace_text trace.writer.params (reverse k.counting.buses) ≡ trace_text setup.params (run_of m setup first).buses
  all-buses before now name s asked trace log c k over =
      ap (λ p. trace_text p (reverse k.counting.buses)) k.params
      ∙ ap (trace_text setup.params) (sym (whole-buses m setup first s asked k.counting.buses k.counting.logs over k.counting.tells))

  pub all-logs : (before now : Option Files) (name : List ℕ) (s : Simulating) (asked : P) (trace : Tracing) (log : List ℕ) (c : Counts)
      → IsTelling m setup first before now name s asked trace log c → is_over s ≡ true
      → log ≡ text_of (run_of m setup first).logs
  all-logs before now name s asked trace log c k over =
      k.text ∙ ap text_of (sym (whole-logs m setup first s asked k.counting.buses k.counting.logs over k.counting.tells))

-- a test that isn't true is false
pub not-true : (b : Bool) → (IsTrue b → ⊥) → b ≡ false
not-true true h = absurd (h refl)
not-true false h = refl

-- the error that a `?` passes on
err-of : {T E : Type 0} (e fail : E) → (let r : Result T E = Err e in r) ≡ Err fail → e ≡ fail
err-of e fail same = cc

pub same-err : {T E : Type 0} (r : Result T E) (y fail : E) → IsErrAnd r (λ e. e ≡ y) → r ≡ Err fail → y ≡ fail
same-err (Ok x) y fail is same = absurd is
same-err {T = T} (Err e) y fail is same = sym is ∙ err-of {T = T} e fail same
