use Rattle.cycle_lists.proofs.Order.{new-kept, clock-kept, begun-kept, resumed-kept}
use Rattle.cycle_lists.proofs.laws.order_law.Goals as goal

pub returns-clause-new : goal.returns-clause-new
returns-clause-new c = λ params script window memory entry. new-kept params script window memory entry

pub returns-clause-cycle : goal.returns-clause-cycle
returns-clause-cycle c = λ answer w b o. clock-kept answer w b o

pub returns-clause-drain : goal.returns-clause-drain
returns-clause-drain c = λ w o. begun-kept w o

pub returns-clause-resumed : goal.returns-clause-resumed
returns-clause-resumed c = λ w o. resumed-kept w o
