use Rattle.cycle_paired.proofs.Closing.{cycle-paired}
use Rattle.cycle_paired.proofs.Always.{start-paired, drain-paired, resumed-paired, reached-paired}
use Rattle.cycle_paired.proofs.laws.pairing_law.Goals as goal

pub returns-clause-start : goal.returns-clause-start
returns-clause-start c = λ hart setup. start-paired hart setup

pub returns-clause-cycle : goal.returns-clause-cycle
returns-clause-cycle c = λ hart m answer p z. cycle-paired hart m answer p z

pub returns-clause-drain : goal.returns-clause-drain
returns-clause-drain c = λ hart m p. drain-paired hart m p

pub returns-clause-resumed : goal.returns-clause-resumed
returns-clause-resumed c = λ hart m p. resumed-paired hart m p

pub returns-clause-reached : goal.returns-clause-reached
returns-clause-reached c = λ hart first m p r. reached-paired hart first m p r
