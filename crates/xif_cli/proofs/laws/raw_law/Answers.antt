use Rattle.xif_cli.specs.InOrder.{no_units, raw_start, raw_report}
use Rattle.xif_cli.proofs.Reports.{report-full, report-stopped}
use Rattle.xif_cli.proofs.laws.raw_law.Goals as goal

pub returns-clause-budget : goal.returns-clause-budget
unfolding raw_report
returns-clause-budget c = λ image count last reached. report-full no_units count (raw_start image) last reached

pub returns-clause-stop : goal.returns-clause-stop
unfolding raw_report
returns-clause-stop c = λ image count n last cause within reached stop. report-stopped no_units count n (raw_start image) last cause within reached stop
