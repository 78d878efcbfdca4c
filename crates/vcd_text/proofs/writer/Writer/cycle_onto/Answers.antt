use Rattle.std.proofs.Common.{◌++◌, ap, sym, ◌∙◌, subst}
use Rattle.xif_signals.specs.Bus.{FitsWidths}
use Rattle.vcd_text.specs.Writing.{Progress, Wrote}
use Rattle.vcd_text.specs.Written.{cycle_text}
use Rattle.vcd_text.proofs.Fitting.{sample_fits}
use Rattle.vcd_text.proofs.Pieces.{wrote_behind, ok_at}
use Rattle.vcd_text.proofs.writer.Writer.cycle_onto.Goals as goal

pub put_cycle-requires-clause-fits : goal.put_cycle-requires-clause-fits
put_cycle-requires-clause-fits c =
    sample_fits c.self.inside.params c.args.bus.now _ c.of-values.ensures
    (subst (λ (w : Progress). FitsWidths w.params c.args.bus.now) (sym c.self.view_is) c.requires.fits)

pub returns-clause-wrote : goal.returns-clause-wrote
returns-clause-wrote c = λ buses front h.
    let w : Progress = record { params = c.self.inside.params; cycles = c.self.inside.cycles; last = c.self.inside.last } in
    wrote_behind w c.args.bus.now c.of-values.result buses front c.args.text.now.items c.put_cycle.new.text.items c.of-values.ensures
    (ok_at c.put_cycle.result c.put_cycle.ensures.ok c.if-is_err.ensures.value
    ∙ ap (λ a. c.args.text.now.items ++ cycle_text w.params w.cycles a c.of-values.result) c.as_ref-last.ensures.value)
    (subst (λ (v : Progress). Wrote v buses (front ++ c.args.text.now.items)) (sym c.self.view_is) h)
