use Rattle.std.proofs.Common.{◌∷◌}
use Rattle.trace_file.proofs.Parts.{tracing-part}
use Rattle.traced_run.proofs.traced.Texts.tell.Goals as goal

pub returns-then-is_err-clause-part : goal.returns-then-is_err-clause-part
returns-then-is_err-clause-part g c = λ before buses more tracing.
    tracing-part before (g.S.Shelf.files c.args.shelf.now) c.args.name.now c.args.self.now.trace buses (c.args.bus.now ∷ more) tracing
