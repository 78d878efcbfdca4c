use Rattle.cycle_refines.proofs.Running.{run-refines}
use Rattle.cycle_refines.proofs.laws.every_run_refines_the_in_order_machine.Goals as goal

pub returns : goal.returns
returns g c = λ meaning setup predictor range. run-refines meaning setup predictor range
