use Rattle.std.proofs.Common.{◌≡◌, inl, inr, false, true, true≢false, List, [], ◌∷◌, ◌++◌, reverse, Result, Ok, Err, ℕ, Option, sym, subst, refl, ap, ◌∙◌}
use Rattle.std.specs.String.{string_bytes}
use Rattle.std.proofs.lemmas.Result.{err_from_is_err_and}
use Rattle.xif_base.specs.Files.{Files}
use Rattle.xif_signals.specs.declared.bus.Bus.{Bus}
use Rattle.cycle_spec.specs.declared.log.CycleLog.{CycleLog}
use Rattle.cycle_spec.specs.Run.{run_of}
use Rattle.xif_sim.specs.Simulating.{meaning, begun, is_over}
use Rattle.xif_targets.specs.Writing.{IsWritten, IsWrittenInPart, IsCountedFail}
use Rattle.xif_targets.proofs.Growing.{on_err, if_err, fail-behind, uncounted-behind}
use Rattle.trace_file.specs.Tracing.{trace_text}
use Rattle.traced_run.specs.Left.{IsAtEnd}
use Rattle.traced_run.specs.Telling.{IsTelling}
use Rattle.traced_run.proofs.Telling.{telling-none, telling-more, part-of-run, counting-ends, all-buses, all-logs, not-true, same-err}
use Rattle.traced_run.proofs.traced.run_traced.Goals as goal

pub returns-in_err-start-clause-part : goal.returns-in_err-start-clause-part
returns-in_err-start-clause-part g c =
    let m = meaning g.P.Predictor.answer g.P.Predictor.after in
    let buses = (run_of m c.args.setup.now c.args.predictor.now).buses in
    let before = g.S.Shelf.files c.args.shelf.now in
    let now = g.S.Shelf.files c.start.new.shelf in
    on_err c.from_residual.result (elim (c.in_err-start.ensures.part buses) [
      | inl same ↦ inl same
      | inr part ↦ inr (subst (λ p. IsWrittenInPart before now c.args.name.now (trace_text p buses)) (ap (λ s. s.params) c.setup.view_is) part)
    ])

pub loop-bus-init : goal.loop-bus-init
loop-bus-init g c =
    let m = meaning g.P.Predictor.answer g.P.Predictor.after in
    let setup = c.args.setup.now in
    let first = c.args.predictor.now in
    let before = g.S.Shelf.files c.args.shelf.now in
    let now = g.S.Shelf.files c.start.new.shelf in
    let name = c.args.name.now in
    let log = string_bytes c.new-2.result in
    let trace = c.in_ok-start.field-0 in
    record {
      telling = subst (λ s. IsTelling m setup first before now name s first trace log c.none.result) (sym c.in-Ok.ensures)
          (subst (λ k. IsTelling m setup first before now name (begun setup) first trace log k) (sym c.none.ensures)
          (telling-none m setup first before now name trace log c.requires c.in_ok-start.ensures.tracing (c.in_ok-start.ensures.params ∙ ap (λ s. s.params) c.setup.view_is) c.new-2.ensures.bytes));
      uncounted = c.in_ok-start.ensures.uncounted;
    }

pub loop-bus-preserved : goal.loop-bus-preserved
loop-bus-preserved g c =
    let m = meaning g.P.Predictor.answer g.P.Predictor.after in
    let setup = c.args.setup.now in
    let first = c.args.predictor.now in
    let before = g.S.Shelf.files c.args.shelf.now in
    let old = c.loop-bus.simulation in
    let told : Bus × CycleLog = (c.in-Some.bus, c.in-Some.log) in
    let going : is_over old ≡ false = not-true (is_over old) (λ t. true≢false (c.in-Some.ensures.over.1 t)) in
    let call = c.in_ok-tell.ensures in
    let inv = c.loop-bus.invariant in
    record {
      telling = subst (λ k. IsTelling m setup first before (g.S.Shelf.files c.tell.new.shelf) c.args.name.now c.next_cycle.new.self c.next_cycle.new.predictor c.tell.new.self.trace (string_bytes c.tell.new.self.log) k) (sym call.counts)
          (telling-more m setup first old c.loop-bus.predictor c.next_cycle.new.self c.next_cycle.new.predictor told c.loop-bus.texts.counts
          before (g.S.Shelf.files c.loop-bus.shelf) (g.S.Shelf.files c.tell.new.shelf) c.args.name.now c.loop-bus.texts.trace c.tell.new.self.trace (string_bytes c.loop-bus.texts.log) (string_bytes c.tell.new.self.log)
          inv.telling going c.in-Some.ensures.goes_on c.in-Some.ensures.params c.in-Some.ensures.fewer call.tracing call.params call.number call.log);
      uncounted = uncounted-behind inv.uncounted call.uncounted;
    }

pub returns-in_err-tell-clause-part : goal.returns-in_err-tell-clause-part
returns-in_err-tell-clause-part g c =
    let m = meaning g.P.Predictor.answer g.P.Predictor.after in
    let before = g.S.Shelf.files c.args.shelf.now in
    let old = c.loop-bus.simulation in
    let told : Bus × CycleLog = (c.in-Some.bus, c.in-Some.log) in
    let going : is_over old ≡ false = not-true (is_over old) (λ t. true≢false (c.in-Some.ensures.over.1 t)) in
    on_err c.from_residual-in_err-tell.result (inr (part-of-run m c.args.setup.now c.args.predictor.now old c.loop-bus.predictor c.next_cycle.new.self c.next_cycle.new.predictor told c.loop-bus.texts.counts
    before (g.S.Shelf.files c.loop-bus.shelf) (g.S.Shelf.files c.tell.new.shelf) c.args.name.now c.loop-bus.texts.trace (string_bytes c.loop-bus.texts.log)
    c.loop-bus.invariant.telling going c.in-Some.ensures.goes_on c.in_err-tell.ensures.part))

pub returns-in_err-tell-clause-counted : goal.returns-in_err-tell-clause-counted
returns-in_err-tell-clause-counted g c = if_err c.from_residual-in_err-tell.result (λ fail same.
    let this : c.in_err-tell.field-0.0 ≡ fail = same-err c.from_residual-in_err-tell.result c.in_err-tell.field-0.0 fail c.from_residual-in_err-tell.ensures.1 same in
    let telling = c.loop-bus.invariant.telling in
    subst (IsCountedFail g.S.Shelf.fetch_faults g.S.Shelf.write_faults g.S.Shelf.faultless c.args.shelf.now c.tell.new.shelf) this
    (fail-behind c.in_err-tell.field-0.0 c.loop-bus.invariant.uncounted (c.in_err-tell.ensures.counted (g.S.Shelf.files c.args.shelf.now) (reverse telling.counting.buses) telling.tracing)))

pub returns-in_err-end-clause-part : goal.returns-in_err-end-clause-part
returns-in_err-end-clause-part g c =
    let m = meaning g.P.Predictor.answer g.P.Predictor.after in
    let before = g.S.Shelf.files c.args.shelf.now in
    let telling = c.loop-bus.invariant.telling in
    on_err c.from_residual-in_err-end.result (inr (subst (IsWrittenInPart before (g.S.Shelf.files c.end.new.shelf) c.args.name.now)
    (all-buses m c.args.setup.now c.args.predictor.now before (g.S.Shelf.files c.loop-bus.shelf) c.args.name.now c.loop-bus.simulation c.loop-bus.predictor c.loop-bus.texts.trace (string_bytes c.loop-bus.texts.log) c.loop-bus.texts.counts telling (c.in_default-next_cycle.ensures.over.0 refl))
    (c.in_err-end.ensures.part before (reverse telling.counting.buses) telling.tracing)))

pub returns-in_err-end-clause-counted : goal.returns-in_err-end-clause-counted
returns-in_err-end-clause-counted g c = if_err c.from_residual-in_err-end.result (λ fail same.
    let this : c.in_err-end.field-0.0 ≡ fail = same-err c.from_residual-in_err-end.result c.in_err-end.field-0.0 fail c.from_residual-in_err-end.ensures.1 same in
    let telling = c.loop-bus.invariant.telling in
    subst (IsCountedFail g.S.Shelf.fetch_faults g.S.Shelf.write_faults g.S.Shelf.faultless c.args.shelf.now c.end.new.shelf) this
    (fail-behind c.in_err-end.field-0.0 c.loop-bus.invariant.uncounted (c.in_err-end.ensures.counted (g.S.Shelf.files c.args.shelf.now) (reverse telling.counting.buses) telling.tracing)))

pub returns-clause-end : goal.returns-clause-end
returns-clause-end g c =
    let m = meaning g.P.Predictor.answer g.P.Predictor.after in
    subst (λ s. IsAtEnd s (run_of m c.args.setup.now c.args.predictor.now)) (sym c.in_default-next_cycle.ensures.stays.0)
    (counting-ends m c.args.setup.now c.args.predictor.now c.loop-bus.simulation c.loop-bus.predictor c.loop-bus.texts.counts c.loop-bus.invariant.telling.counting (c.in_default-next_cycle.ensures.over.0 refl)).0

pub returns-clause-counts : goal.returns-clause-counts
returns-clause-counts g c =
    let m = meaning g.P.Predictor.answer g.P.Predictor.after in
    (counting-ends m c.args.setup.now c.args.predictor.now c.loop-bus.simulation c.loop-bus.predictor c.loop-bus.texts.counts c.loop-bus.invariant.telling.counting (c.in_default-next_cycle.ensures.over.0 refl)).1

pub returns-clause-log : goal.returns-clause-log
returns-clause-log g c =
    let m = meaning g.P.Predictor.answer g.P.Predictor.after in
    all-logs m c.args.setup.now c.args.predictor.now (g.S.Shelf.files c.args.shelf.now) (g.S.Shelf.files c.loop-bus.shelf) c.args.name.now c.loop-bus.simulation c.loop-bus.predictor c.loop-bus.texts.trace (string_bytes c.loop-bus.texts.log) c.loop-bus.texts.counts c.loop-bus.invariant.telling (c.in_default-next_cycle.ensures.over.0 refl)

pub returns-clause-trace : goal.returns-clause-trace
returns-clause-trace g c =
    let m = meaning g.P.Predictor.answer g.P.Predictor.after in
    let before = g.S.Shelf.files c.args.shelf.now in
    let telling = c.loop-bus.invariant.telling in
    subst (IsWritten before (g.S.Shelf.files c.end.new.shelf) c.args.name.now)
    (all-buses m c.args.setup.now c.args.predictor.now before (g.S.Shelf.files c.loop-bus.shelf) c.args.name.now c.loop-bus.simulation c.loop-bus.predictor c.loop-bus.texts.trace (string_bytes c.loop-bus.texts.log) c.loop-bus.texts.counts telling (c.in_default-next_cycle.ensures.over.0 refl))
    (c.in_ok-end.ensures.whole before (reverse telling.counting.buses) telling.tracing)
