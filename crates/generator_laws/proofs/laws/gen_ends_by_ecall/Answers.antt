use Rattle.generator_laws.proofs.Ending.{run-ends}
use Rattle.generator_laws.proofs.laws.gen_ends_by_ecall.Goals as goal

pub returns : goal.returns
returns g c = λ meaning seed count predictor q. run-ends _ meaning seed count predictor q
