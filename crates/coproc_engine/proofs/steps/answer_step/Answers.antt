use Rattle.std.proofs.Common.{subst, sym}
use Rattle.xif_signals.specs.declared.signal.Signal.TheVariants.{ResultData, ResultWe}
use Rattle.xif_signals.specs.Signal.{width_of}
use Rattle.coproc_engine.specs.Fits.{HaveEntries, AreNarrow}
use Rattle.coproc_engine.proofs.Kept.{answer-entries, hit-entry}
use Rattle.coproc_engine.proofs.Narrow.{answer-narrow}
use Rattle.coproc_engine.proofs.steps.answer_step.Goals as goal

pub returns-then-cop-clause-entries : goal.returns-then-cop-clause-entries
returns-then-cop-clause-entries c = λ entries.
    subst (λ us. HaveEntries c.args.set.now us) (sym c.answer.ensures)
    (answer-entries c.args.set.now c.args.start c.accept-hit.result c.args.order c.args.uses.now
    (hit-entry c.args.set.now c.args.params.now c.args.cpu.now.issue_instr c.accept-hit.result c.accept-hit.ensures.flags) entries)

pub returns-then-cop-clause-narrow : goal.returns-then-cop-clause-narrow
returns-then-cop-clause-narrow c = λ narrow.
    subst (λ us. AreNarrow (width_of ResultWe c.args.params.now) (width_of ResultData c.args.params.now) us) (sym c.answer.ensures)
    (answer-narrow c.args.params.now c.args.cpu.now.issue_instr c.args.start c.accept-hit.result c.args.order c.args.uses.now
    c.requires.params c.accept-hit.ensures.allowed narrow)
