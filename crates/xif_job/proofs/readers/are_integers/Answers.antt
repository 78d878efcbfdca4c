use Rattle.std.proofs.Common.{◌∙◌}
use Rattle.xif_job.proofs.Known.{integers}
use Rattle.xif_job.proofs.readers.are_integers.Goals as goal

pub returns : goal.returns
returns c = c.have_integers.ensures ∙ integers c.args.values.now
