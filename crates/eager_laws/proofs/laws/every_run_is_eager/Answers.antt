use Rattle.eager_laws.proofs.Whole.{all-eager}
use Rattle.eager_laws.proofs.laws.every_run_is_eager.Goals as goal

pub returns : goal.returns
returns g c = λ meaning setup predictor range. all-eager meaning setup predictor range
