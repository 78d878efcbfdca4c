use Rattle.pace_laws.proofs.Whole.{drain-empty}
use Rattle.pace_laws.proofs.laws.drain_law.Goals as goal

pub returns : goal.returns
returns g c = λ meaning setup predictor ok. drain-empty _ meaning setup predictor ok
