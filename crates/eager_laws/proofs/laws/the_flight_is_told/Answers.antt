use Rattle.eager_laws.proofs.Whole.{told-running, told-draining, same-count}
use Rattle.eager_laws.proofs.laws.the_flight_is_told.Goals as goal

pub returns-clause-runs : goal.returns-clause-runs
returns-clause-runs g c = λ meaning setup predictor cycles range. told-running meaning setup predictor cycles range

pub returns-clause-drains : goal.returns-clause-drains
returns-clause-drains g c = λ meaning setup predictor cycles range. told-draining meaning setup predictor cycles range

pub returns-clause-count : goal.returns-clause-count
returns-clause-count g c = λ meaning setup predictor. same-count meaning setup predictor
