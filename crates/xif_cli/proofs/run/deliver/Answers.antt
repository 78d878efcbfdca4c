use Rattle.std.specs.String.{string_bytes}
use Rattle.xif_cli.specs.InOrder.{step_start}
use Rattle.xif_cli.specs.Outcome.{run_answer}
use Rattle.xif_cli.specs.Simulated.{setup_of, run_by, targets_of, simulated_report}
use Rattle.xif_cli.proofs.Faithful.{fails_undone}
use Rattle.xif_cli.proofs.Stopping.{stopped, reported}
use Rattle.xif_cli.proofs.run.deliver.Goals as goal

pub returns-in-Ok-clause-delivers : goal.returns-in-Ok-clause-delivers
returns-in-Ok-clause-delivers g c =
    let job = c.args.job.now in
    let image = c.args.image.now in
    let run = run_by job.predictor (setup_of job image) in
    let p = c.print_answer.ensures in
    let w = c.in-Ok.ensures.writes in
    reported c.args.shelf.now c.write_run.new.shelf c.args.out.now c.print_answer.new.out (targets_of job run) (simulated_report run (step_start job image).memory.bytes) (string_bytes c.in-Ok.text) c.print_answer.result
    w.reports w.uncounted w.whole p.end p.put p.front p.write_fault p.uncounted p.counts

pub returns-in-Err-clause-delivers : goal.returns-in-Err-clause-delivers
returns-in-Err-clause-delivers g c =
    stopped c.args.shelf.now c.write_run.new.shelf c.args.out.now (run_answer c.args.job.now c.args.image.now) c.in-Err.stop.which c.in-Err.stop.fail c.status.result c.in-Err.ensures.writes.stops c.in-Err.ensures.writes.counted c.status.ensures

pub returns-in-Ok-clause-bytes : goal.returns-in-Ok-clause-bytes
returns-in-Ok-clause-bytes g c = λ done. c.in-Ok.ensures.bytes

pub returns-in-Err-clause-bytes : goal.returns-in-Err-clause-bytes
returns-in-Err-clause-bytes g c = λ done. absurd (fails_undone c.in-Err.stop.which c.in-Err.stop.fail c.status.result c.status.ensures done)
