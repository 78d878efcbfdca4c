use Rattle.cycle_paired.proofs.Always.{turn-paired}
use Rattle.cycle_paired.proofs.Stopping.{stop-turn, quiet-after}
use Rattle.cycle_paired.proofs.laws.turn_law.Goals as goal

pub returns-clause-drained : goal.returns-clause-drained
returns-clause-drained c = λ hart other m w p h none k q. turn-paired hart other m w p h none k q

pub returns-clause-stopped : goal.returns-clause-stopped
returns-clause-stopped c = λ hart other m answer cause w p h k q. stop-turn hart other m answer cause w p h k q

pub returns-clause-quiet : goal.returns-clause-quiet
returns-clause-quiet c = λ hart m answer n. quiet-after hart m answer n
