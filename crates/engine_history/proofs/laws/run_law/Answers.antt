use Rattle.engine_history.proofs.Run.{run_start, run_cycle, run_told}
use Rattle.engine_history.proofs.laws.run_law.Goals as goal

pub returns-clause-start : goal.returns-clause-start
returns-clause-start g c = λ setup. run_start setup

pub returns-clause-cycle : goal.returns-clause-cycle
returns-clause-cycle g c = λ params set script session machines hart answer h. run_cycle params set script session machines hart answer h

pub returns-clause-run : goal.returns-clause-run
returns-clause-run g c = λ meaning setup predictor. run_told meaning setup predictor
