use Rattle.xif_cli.proofs.Concluding.{refuses, delivers, printed, untouched, no_targets, is_refusal}
use Rattle.xif_cli.specs.Outcome.{command_outcome}
use Rattle.xif_cli.specs.Words.{form_of}
use Rattle.xif_cli.proofs.program.print_command.Goals as goal

pub returns-in-Ok-clause-concludes : goal.returns-in-Ok-clause-concludes
returns-in-Ok-clause-concludes g c =
    let p = c.print_answer.ensures in
    let shelf = c.answer_of.new.shelf in
    delivers c.args.shelf.now shelf shelf c.args.out.now c.print_answer.new.out (command_outcome (form_of c.args.command)) c.in-Ok.answer c.print_answer.result c.in-Ok.ensures.ends
    (printed shelf shelf c.args.out.now c.print_answer.new.out c.in-Ok.answer c.print_answer.result (untouched shelf) (no_targets c.in-Ok.answer.targets p.no_files (g.S.Shelf.files shelf)) p.end p.put p.front p.write_fault p.uncounted p.counts)

pub returns-in-Err-clause-concludes : goal.returns-in-Err-clause-concludes
returns-in-Err-clause-concludes g c =
    let form = form_of c.args.command in
    refuses c.args.shelf.now c.answer_of.new.shelf c.args.out.now (command_outcome form) c.in-Err.status c.in-Err.ensures.ends (is_refusal form c.in-Err.status c.in-Err.ensures.refusal)
