use Rattle.width_laws.proofs.Runs.{widths}
use Rattle.width_laws.proofs.laws.run_widths.Goals as goal

pub returns : goal.returns
returns g c = λ meaning setup predictor ranges. widths meaning setup predictor ranges
