use Rattle.cycle_history.proofs.Whole.{run-uses}
use Rattle.cycle_history.proofs.laws.uses_law.Goals as goal

pub returns : goal.returns
returns g c = λ meaning setup predictor range bytes. run-uses meaning setup predictor range bytes
