use Rattle.std.proofs.Common.{arith}
use Rattle.xif_job.proofs.Known.{window-most}
use Rattle.xif_job.proofs.core_table.most_window.Goals as goal

pub returns-in_default-clause-value : goal.returns-in_default-clause-value
returns-in_default-clause-value c = window-most c.args.id_width (omega arith)
