use Rattle.std.proofs.Common.{sym, ap, subst, Ok, ◌∙◌}
use Rattle.xif_signals.specs.Bus.{FitsWidths}
use Rattle.xif_signals.proofs.AllKnown.{known-bus}
use Rattle.xif_signals.proofs.Fits.{fits-bus_of}
use Rattle.xif_signals.proofs.sample.Sample.known.Goals as goal

pub returns-then-are_all_known-clause-known : goal.returns-then-are_all_known-clause-known
returns-then-are_all_known-clause-known c =
    ap Ok c.bus.ensures ∙ sym (known-bus c.args.self.now c.args.params.now (sym c.are_all_known.ensures ∙ c.if-are_all_known.true))

pub returns-then-are_all_known-clause-fits : goal.returns-then-are_all_known-clause-fits
returns-then-are_all_known-clause-fits c =
    subst (FitsWidths c.args.params.now) (sym c.bus.ensures) (fits-bus_of c.args.self.now c.args.params.now)

pub returns-clause-fits : goal.returns-clause-fits
returns-clause-fits c =
    subst (FitsWidths c.args.params.now) (sym c.bus-2.ensures) (fits-bus_of c.args.self.now c.args.params.now)
