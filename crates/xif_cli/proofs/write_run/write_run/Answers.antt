use Rattle.std.proofs.Common.{◌≡◌, ℕ, List, refl, sym, ap, subst, ◌∙◌}
use Rattle.trace_file.specs.Tracing.{trace_text}
use Rattle.run_log.specs.Log.{text_of}
use Rattle.cycle_spec.specs.Run.{run_of}
use Rattle.xif_base.specs.declared.outside.Which.TheVariants as which
use Rattle.xif_job.specs.declared.predictor.Kind.TheVariants as kind
use Rattle.xif_targets.specs.Targets.{Target}
use Rattle.xif_cli.specs.InOrder.{step_start}
use Rattle.xif_cli.specs.Simulated.{setup_of, run_by, never, backward, bimodal, listed, simulated_report}
use Rattle.trace_laws.specs.Sessions.{HasBytes}
use Rattle.xif_cli.proofs.Faithful.{if_ok}
use Rattle.xif_cli.proofs.Predicted.{run-never, run-backward, run-bimodal, run-listed, turn_of}
use Rattle.xif_cli.proofs.Stopping.{untouched-run, writes-by}
use Rattle.xif_cli.proofs.write_run.write_run.Goals as goal

pub returns-in_default-clause-writes : goal.returns-in_default-clause-writes
returns-in_default-clause-writes g c =
    let job = c.args.job.now in
    let image = c.args.image.now in
    let run = run_by job.predictor (setup_of job image) in
    let p : Target = record { which = which.Trace; name = job.trace; text = trace_text job.params run.buses } in
    let q : Target = record { which = which.Log; name = job.log; text = text_of run.logs } in
    untouched-run c.args.shelf.now p q (simulated_report run (step_start job image).memory.bytes) refl

pub returns-in-Never-clause-writes : goal.returns-in-Never-clause-writes
returns-in-Never-clause-writes g c =
    let job = c.args.job.now in
    let image = c.args.image.now in
    let setup = c.in-Ok.setup in
    writes-by c.args.shelf.now c.write_with.new.shelf job image setup c.as_str-trace.result.now c.as_str-log.result.now (run_of never setup c.new.result) c.write_with.result
    c.in-Ok.ensures.setup c.as_str-trace.ensures c.as_str-log.ensures
    (run-never setup c.new.result ∙ ap (run_by kind.Never) c.in-Ok.ensures.setup ∙ ap (λ k. run_by k (setup_of job image)) (sym c.in-Never.is))
    c.write_with.ensures

pub returns-in-Backward-clause-writes : goal.returns-in-Backward-clause-writes
returns-in-Backward-clause-writes g c =
    let job = c.args.job.now in
    let image = c.args.image.now in
    let setup = c.in-Ok.setup in
    writes-by c.args.shelf.now c.write_with-in-Backward.new.shelf job image setup c.as_str-trace.result.now c.as_str-log.result.now (run_of backward setup c.new-in-Backward.result) c.write_with-in-Backward.result
    c.in-Ok.ensures.setup c.as_str-trace.ensures c.as_str-log.ensures
    (run-backward setup c.new-in-Backward.result ∙ ap (run_by kind.Backward) c.in-Ok.ensures.setup ∙ ap (λ k. run_by k (setup_of job image)) (sym c.in-Backward.is))
    c.write_with-in-Backward.ensures

pub returns-in-Ok-new-clause-writes : goal.returns-in-Ok-new-clause-writes
returns-in-Ok-new-clause-writes g c =
    let job = c.args.job.now in
    let image = c.args.image.now in
    let setup = c.in-Ok.setup in
    writes-by c.args.shelf.now c.write_with-in-Ok-new.new.shelf job image setup c.as_str-trace.result.now c.as_str-log.result.now (run_of bimodal setup c.in-Ok-new.predictor) c.write_with-in-Ok-new.result
    c.in-Ok.ensures.setup c.as_str-trace.ensures c.as_str-log.ensures
    (run-bimodal setup c.in-Bimodal.bits c.in-Ok-new.predictor c.in-Ok-new.ensures ∙ ap (run_by (kind.Bimodal c.in-Bimodal.bits)) c.in-Ok.ensures.setup ∙ ap (λ k. run_by k (setup_of job image)) (sym c.in-Bimodal.is))
    c.write_with-in-Ok-new.ensures

pub returns-in-Bimodal-clause-writes : goal.returns-in-Bimodal-clause-writes
returns-in-Bimodal-clause-writes g c =
    let job = c.args.job.now in
    let image = c.args.image.now in
    let run = run_by job.predictor (setup_of job image) in
    let p : Target = record { which = which.Trace; name = job.trace; text = trace_text job.params run.buses } in
    let q : Target = record { which = which.Log; name = job.log; text = text_of run.logs } in
    untouched-run c.args.shelf.now p q (simulated_report run (step_start job image).memory.bytes) refl

pub returns-in-Ok-new-2-clause-writes : goal.returns-in-Ok-new-2-clause-writes
returns-in-Ok-new-2-clause-writes g c =
    let job = c.args.job.now in
    let image = c.args.image.now in
    let setup = c.in-Ok.setup in
    writes-by c.args.shelf.now c.write_with-in-Ok-new-2.new.shelf job image setup c.as_str-trace.result.now c.as_str-log.result.now (run_of listed setup c.in-Ok-new-2.predictor) c.write_with-in-Ok-new-2.result
    c.in-Ok.ensures.setup c.as_str-trace.ensures c.as_str-log.ensures
    (run-listed setup c.in-Listed.targets c.in-Ok-new-2.predictor (c.in-Ok-new-2.ensures ∙ ap turn_of c.as_slice.ensures) ∙ ap (run_by (kind.Listed c.in-Listed.targets)) c.in-Ok.ensures.setup ∙ ap (λ k. run_by k (setup_of job image)) (sym c.in-Listed.is))
    c.write_with-in-Ok-new-2.ensures

pub returns-clause-writes : goal.returns-clause-writes
returns-clause-writes g c =
    let job = c.args.job.now in
    let image = c.args.image.now in
    let run = run_by job.predictor (setup_of job image) in
    let p : Target = record { which = which.Trace; name = job.trace; text = trace_text job.params run.buses } in
    let q : Target = record { which = which.Log; name = job.log; text = text_of run.logs } in
    untouched-run c.args.shelf.now p q (simulated_report run (step_start job image).memory.bytes) refl

pub returns-in-Never-clause-bytes : goal.returns-in-Never-clause-bytes
returns-in-Never-clause-bytes g c = if_ok c.write_with.result _ (subst (λ setup. HasBytes setup.memory) c.in-Ok.ensures.setup c.in-Ok.ensures.bytes)

pub returns-in-Backward-clause-bytes : goal.returns-in-Backward-clause-bytes
returns-in-Backward-clause-bytes g c = if_ok c.write_with-in-Backward.result _ (subst (λ setup. HasBytes setup.memory) c.in-Ok.ensures.setup c.in-Ok.ensures.bytes)

pub returns-in-Ok-new-clause-bytes : goal.returns-in-Ok-new-clause-bytes
returns-in-Ok-new-clause-bytes g c = if_ok c.write_with-in-Ok-new.result _ (subst (λ setup. HasBytes setup.memory) c.in-Ok.ensures.setup c.in-Ok.ensures.bytes)

pub returns-in-Ok-new-2-clause-bytes : goal.returns-in-Ok-new-2-clause-bytes
returns-in-Ok-new-2-clause-bytes g c = if_ok c.write_with-in-Ok-new-2.result _ (subst (λ setup. HasBytes setup.memory) c.in-Ok.ensures.setup c.in-Ok.ensures.bytes)
