use Rattle.std.proofs.Common.{◌≡◌, refl, ap, ◌∙◌}
use Rattle.std.specs.String.{string_bytes}
use Rattle.cycle_spec.specs.Engine.{units_of}
use Rattle.cycle_spec.specs.Run.{Run, run_of, end_by}
use Rattle.run_log.specs.Log.{text_of}
use Rattle.trace_file.specs.Tracing.{trace_text}
use Rattle.xif_base.specs.declared.outside.Which.TheVariants as which
use Rattle.xif_sim.specs.Simulating.{meaning}
use Rattle.xif_targets.specs.Targets.{Target}
use Rattle.xif_cli.specs.Simulated.{stop_of, simulated_text, simulated_report}
use Rattle.xif_cli.proofs.Stopping.{stops-first, both-files}
use Rattle.xif_cli.proofs.Predicted.{report-is}
use Rattle.xif_cli.proofs.write_run.write_with.Goals as goal

pub returns-in-Ok : goal.returns-in-Ok
returns-in-Ok g c =
    let run = run_of (meaning g.P.Predictor.answer g.P.Predictor.after) c.args.setup.now c.args.predictor.now in
    let p : Target = record { which = which.Trace; name = c.args.trace.now; text = trace_text c.args.setup.now.params run.buses } in
    let q : Target = record { which = which.Log; name = c.args.log.now; text = text_of run.logs } in
    let log = c.write_log.ensures in
    let s = c.in-Ok.traced.simulation in
    let core = s.machines.core in
    let shown = simulated_text (stop_of (end_by core.stopped)) core.pc c.in-Ok.traced.counts.retired c.in-Ok.traced.counts.cycles core.registers (units_of s.machines.engine 0) c.bytes.result.now core.memory in
    let before : c.bytes.result.now ≡ c.args.setup.now.memory.bytes = c.bytes.ensures.bytes ∙ ap (λ s. s.memory.bytes) c.setup.view_is in
    let is_shown : shown ≡ simulated_report run c.args.setup.now.memory.bytes = report-is s c.in-Ok.traced.counts run c.bytes.result.now c.in-Ok.ensures.end c.in-Ok.ensures.counts ∙ ap (simulated_report run) before in
    both-files c.args.shelf.now c.run_traced.new.shelf c.write_log.new.shelf p q (string_bytes c.in-Ok.traced.log) shown (simulated_report run c.args.setup.now.memory.bytes) c.write_log.result
    refl refl c.in-Ok.ensures.trace c.in-Ok.ensures.uncounted c.in-Ok.ensures.log is_shown log.report log.whole log.uncounted log.log log.part log.counted

pub returns-in-Err : goal.returns-in-Err
returns-in-Err g c =
    let run = run_of (meaning g.P.Predictor.answer g.P.Predictor.after) c.args.setup.now c.args.predictor.now in
    let p : Target = record { which = which.Trace; name = c.args.trace.now; text = trace_text c.args.setup.now.params run.buses } in
    let q : Target = record { which = which.Log; name = c.args.log.now; text = text_of run.logs } in
    record {
      reports = tt;
      whole = tt;
      uncounted = tt;
      stops = stops-first p q which.Trace (g.S.Shelf.files c.args.shelf.now) (g.S.Shelf.files c.run_traced.new.shelf) refl refl c.in-Err.ensures.part;
      counted = c.in-Err.ensures.counted;
    }
