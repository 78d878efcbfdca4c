use Rattle.pace_laws.proofs.Whole.{by-budget, by-stop}
use Rattle.pace_laws.proofs.laws.pace_law.Goals as goal

pub returns-clause-budget : goal.returns-clause-budget
returns-clause-budget g c = λ meaning setup predictor ok h. by-budget _ meaning setup predictor ok h

pub returns-clause-stop : goal.returns-clause-stop
returns-clause-stop g c = λ meaning setup predictor cause ok h. by-stop _ meaning setup predictor cause ok h
