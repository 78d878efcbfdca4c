use Rattle.xif_judge.proofs.Order.{rule_reported}
use Rattle.xif_judge.proofs.laws.order_law.Goals as goal

pub returns : goal.returns
returns c = λ params rule older sample range. rule_reported params older sample range rule
