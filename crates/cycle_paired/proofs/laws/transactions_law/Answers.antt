use Rattle.cycle_paired.proofs.Agreeing.{start-agreed, cycle-agreed, reached-agreed}
use Rattle.cycle_paired.proofs.laws.transactions_law.Goals as goal

pub returns-clause-start : goal.returns-clause-start
returns-clause-start c = λ hart setup. start-agreed hart setup

pub returns-clause-cycle : goal.returns-clause-cycle
returns-clause-cycle c = λ hart m answer a split z. cycle-agreed hart m answer a split z

pub returns-clause-reached : goal.returns-clause-reached
returns-clause-reached c = λ hart first m split a r. reached-agreed hart first m split a r
