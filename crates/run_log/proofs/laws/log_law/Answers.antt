use Rattle.run_log.proofs.Unique.{text-told}
use Rattle.run_log.proofs.laws.log_law.Goals as goal

pub returns : goal.returns
returns c = text-told
