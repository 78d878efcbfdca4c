use Rattle.trace_laws.proofs.Runs.{run-legal}
use Rattle.trace_laws.proofs.laws.run_law.Goals as goal

pub returns : goal.returns
returns g c = λ meaning setup predictor range bytes. run-legal meaning setup predictor range bytes
