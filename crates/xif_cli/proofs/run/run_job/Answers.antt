use Rattle.std.proofs.Common.{◌≡◌, inl, refl, Result, Ok, Err}
use Rattle.xif_image.specs.Image.{Placement}
use Rattle.xif_job.specs.declared.job.Job.{Job}
use Rattle.xif_cli.specs.declared.status.Status.{Status}
use Rattle.xif_cli.specs.declared.answer.End.TheVariants.{Done}
use Rattle.xif_cli.specs.Outcome.{Answer, found, loaded, run_answer, run_outcome}
use Rattle.xif_cli.proofs.Concluding.{refuses, delivers, done_so}
use Rattle.xif_cli.proofs.Faithful.{answers-faithfully, refused_undone, loaded_so}
use Rattle.xif_cli.proofs.Running.{run_can_end, refused_can_end, refused_is, run_of_loaded}
use Rattle.xif_cli.proofs.Steps.{ends_refused, ends_read}
use Rattle.xif_cli.proofs.run.run_job.Goals as goal

pub returns-in-Ok-clause-concludes : goal.returns-in-Ok-clause-concludes
returns-in-Ok-clause-concludes g c =
    let answer = run_answer c.in-Ok.loaded.job c.in-Ok.loaded.image in
    delivers c.args.shelf.now c.load.new.shelf c.deliver.new.shelf c.args.out.now c.deliver.new.out (run_outcome c.args.name.now) answer c.deliver.result
    (ends_read (loaded c.args.name.now) run_of_loaded (c.in-Ok.loaded.job, c.in-Ok.loaded.image) (Ok answer) c.in-Ok.ensures.ends (inl refl) (λ w e. cc))
    c.deliver.ensures.delivers

pub returns-in-Ok-clause-can_end : goal.returns-in-Ok-clause-can_end
returns-in-Ok-clause-can_end g c =
    run_can_end c.load.new.shelf c.deliver.new.shelf c.args.out.now c.deliver.new.out c.args.name.now (run_answer c.in-Ok.loaded.job c.in-Ok.loaded.image) c.deliver.result refl c.deliver.ensures.delivers

pub returns-in-Err-clause-concludes : goal.returns-in-Err-clause-concludes
returns-in-Err-clause-concludes g c =
    refuses c.args.shelf.now c.load.new.shelf c.args.out.now (run_outcome c.args.name.now) c.in-Err.status
    (ends_refused (loaded c.args.name.now) run_of_loaded c.in-Err.status c.in-Err.ensures.ends)
    (refused_is c.in-Err.status c.in-Err.ensures.refusal)

pub returns-in-Err-clause-can_end : goal.returns-in-Err-clause-can_end
returns-in-Err-clause-can_end g c = refused_can_end c.args.name.now c.in-Err.status c.in-Err.ensures.refusal

pub returns-in-Ok-clause-faithful : goal.returns-in-Ok-clause-faithful
returns-in-Ok-clause-faithful g c = λ done m told.
    let job = c.in-Ok.loaded.job in
    let image = c.in-Ok.loaded.image in
    let concludes = returns-in-Ok-clause-concludes g c in
    done_so (λ answer means. answers-faithfully c.args.name.now (found m) job image answer c.in-Ok.ensures.lawful (c.deliver.ensures.bytes done) (loaded_so (loaded c.args.name.now (found m)) (job, image) (c.in-Ok.ensures.ends.outcome m told)) means)
    (concludes.output Done done m told)

pub returns-in-Err-clause-faithful : goal.returns-in-Err-clause-faithful
returns-in-Err-clause-faithful g c = λ done. absurd (refused_undone c.in-Err.status (refused_is c.in-Err.status c.in-Err.ensures.refusal) done)
