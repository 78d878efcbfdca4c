use Rattle.engine_history.proofs.Session.{session_told}
use Rattle.engine_history.proofs.Order.{answers_in_order}
use Rattle.engine_history.proofs.laws.history_law.Goals as goal

pub returns-clause-session : goal.returns-clause-session
returns-clause-session c = λ session. session_told session

pub returns-clause-order : goal.returns-clause-order
returns-clause-order c = λ session. answers_in_order session
