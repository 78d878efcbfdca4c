use Rattle.run_laws.proofs.Joined.{faithful}
use Rattle.run_laws.proofs.laws.every_run_is_faithful.Goals as goal

pub returns : goal.returns
returns g c = λ meaning setup predictor can. faithful meaning setup predictor can
