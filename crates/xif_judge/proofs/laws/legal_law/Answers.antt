use Rattle.xif_judge.proofs.Firsts.{none_legal, first_is}
use Rattle.xif_judge.proofs.laws.legal_law.Goals as goal

pub returns-clause-legal : goal.returns-clause-legal
returns-clause-legal c = λ params history range. none_legal params range history

pub returns-clause-first : goal.returns-clause-first
returns-clause-first c = λ params history verdict range. first_is params range history verdict
