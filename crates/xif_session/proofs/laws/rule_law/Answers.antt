use Rattle.xif_session.proofs.RuleTests.{rule_test}
use Rattle.xif_session.proofs.laws.rule_law.Goals as goal

pub returns : goal.returns
returns c = λ params rule p b range. rule_test params rule p b range
