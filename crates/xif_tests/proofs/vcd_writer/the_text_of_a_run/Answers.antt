use Rattle.std.proofs.Common.{ap, sym, ◌∙◌, subst}
use Rattle.xif_base.specs.declared.params.Params.{Params}
use Rattle.xif_signals.specs.Bus.{FitsWidths}
use Rattle.vcd_text.specs.Writing.{Progress}
use Rattle.xif_tests.proofs.vcd_writer.the_text_of_a_run.Goals as goal

pub cycle-requires-clause-fits : goal.cycle-requires-clause-fits
cycle-requires-clause-fits g c =
    subst (λ (p : Params). FitsWidths p c.in_ok-bus.bus)
    (sym (c.loop-bus.invariant.params ∙ ap (λ (w : Progress). w.params) (c.in_ok-header.ensures.begun) ∙ ap (λ (w : Progress). w.params) c.new-writer.ensures))
    c.in_ok-bus.ensures.fits
