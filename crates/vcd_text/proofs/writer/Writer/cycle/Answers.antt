use Rattle.std.proofs.Common.{◌++◌, ap, sym, ◌∙◌, subst, append-nil}
use Rattle.vcd_text.specs.Writing.{Wrote}
use Rattle.vcd_text.proofs.writer.Writer.cycle.Goals as goal

pub returns-clause-wrote : goal.returns-clause-wrote
returns-clause-wrote c = λ buses text h.
    c.in_ok-cycle_onto.ensures.wrote buses text
    (subst (λ t. Wrote c.args.self.now buses t) (sym (append-nil text) ∙ ap (λ t. text ++ t) (sym c.in_ok-text.ensures.items)) h)
