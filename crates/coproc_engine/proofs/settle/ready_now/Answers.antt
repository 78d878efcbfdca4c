use Rattle.coproc_engine.proofs.Narrow.{ready-narrow}
use Rattle.coproc_engine.proofs.settle.ready_now.Goals as goal

pub returns-clause-narrow : goal.returns-clause-narrow
returns-clause-narrow c = λ flags bits n. ready-narrow flags bits c.args.cycle c.apply.result c.args.entry c.apply.ensures.bits n
