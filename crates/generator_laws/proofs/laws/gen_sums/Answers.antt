use Rattle.generator_laws.proofs.Ending.{run-sums}
use Rattle.generator_laws.proofs.laws.gen_sums.Goals as goal

pub returns : goal.returns
returns g c = λ meaning seed count predictor q. run-sums _ meaning seed count predictor q
