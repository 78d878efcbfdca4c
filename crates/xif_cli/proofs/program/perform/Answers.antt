use Rattle.std.proofs.Common.{◌≡◌, ◌∙◌, ℕ, List, sym, ap, subst}
use Rattle.xif_cli.specs.Afterwards.{IsDone}
use Rattle.xif_cli.specs.Concluding.{Concludes}
use Rattle.xif_cli.specs.Faithful.{IsFaithfulAnswer}
use Rattle.xif_cli.specs.declared.answer.End.TheVariants.{Done}
use Rattle.xif_cli.specs.Outcome.{command_outcome, found}
use Rattle.xif_cli.specs.Words as form
use Rattle.xif_cli.specs.Words.{form_of}
use Rattle.xif_cli.proofs.program.perform.Goals as goal

pub returns-in-Run-clause-concludes : goal.returns-in-Run-clause-concludes
returns-in-Run-clause-concludes g c =
    subst (λ meaning. Concludes g.S.Shelf.files g.S.Shelf.fetch_faults g.S.Shelf.write_faults g.S.Shelf.faultless g.O.Out.put_bytes g.O.Out.faults g.O.Out.faultless
    c.args.shelf.now c.run_job.new.shelf c.args.out.now c.run_job.new.out meaning c.run_job.result)
    (sym (ap (λ command. command_outcome (form_of command)) c.in-Run.is)) c.run_job.ensures.concludes

same_name : (name other : List ℕ) → form.Run name ≡ form.Run other → name ≡ other
same_name name other e = cc

pub returns-in-Run-clause-faithful : goal.returns-in-Run-clause-faithful
returns-in-Run-clause-faithful g c = λ job is done m told.
    let name = c.in-Run.job.now in
    subst (λ n. IsDone (IsFaithfulAnswer n (found m)) Done m (g.S.Shelf.files c.run_job.new.shelf) (g.O.Out.put_bytes c.args.out.now) (g.O.Out.put_bytes c.run_job.new.out))
    (same_name name job (sym (ap form_of c.in-Run.is) ∙ is)) (c.run_job.ensures.faithful done m told)
