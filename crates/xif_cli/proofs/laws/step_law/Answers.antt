use Rattle.xif_cli.specs.InOrder.{extension_of, step_start, step_report}
use Rattle.xif_cli.proofs.Reports.{report-full, report-stopped}
use Rattle.xif_cli.proofs.laws.step_law.Goals as goal

pub returns-clause-budget : goal.returns-clause-budget
unfolding step_report
returns-clause-budget c = λ job image last reached. report-full (extension_of job) job.budget (step_start job image) last reached

pub returns-clause-stop : goal.returns-clause-stop
unfolding step_report
returns-clause-stop c = λ job image n last cause within reached stop. report-stopped (extension_of job) job.budget n (step_start job image) last cause within reached stop
