use Rattle.std.proofs.Common.{◌∙◌, ap, arith}
use Rattle.std.proofs.lemmas.Bool.Decides.{nat_tests}
use Rattle.xif_job.specs.Readers.{is_in}
use Rattle.xif_job.proofs.Known.{count-is}
use Rattle.xif_job.proofs.readers.has_length.Goals as goal

pub returns-clause-value : goal.returns-clause-value
returns-clause-value c = c.contains.ensures ∙ ap (is_in c.args.counts) (count-is c.args.values.now)

pub returns-clause-length : goal.returns-clause-length
returns-clause-length c = grind (arith, nat_tests)
