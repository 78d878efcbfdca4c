use Rattle.xif_session.proofs.Whole.{whole, one_use}
use Rattle.xif_session.proofs.Order.{order_by_latest}
use Rattle.xif_session.proofs.laws.facts_law.Goals as goal

pub returns-clause-latest : goal.returns-clause-latest
returns-clause-latest c = λ session key. whole session key

pub returns-clause-in_flight : goal.returns-clause-in_flight
returns-clause-in_flight c = λ params session key holds. one_use params session holds key

pub returns-clause-in_order : goal.returns-clause-in_order
returns-clause-in_order c = λ params session b hart start profile issued results. order_by_latest params session b profile issued results hart start
