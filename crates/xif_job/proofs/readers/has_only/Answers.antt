use Rattle.std.proofs.Common.{◌∙◌}
use Rattle.xif_job.proofs.Known.{known}
use Rattle.xif_job.proofs.readers.has_only.Goals as goal

pub returns : goal.returns
returns c = c.has_keys_among.ensures ∙ known c.args.names.now c.args.table.now.entries
