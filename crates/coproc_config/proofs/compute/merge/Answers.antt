use Rattle.std.proofs.Common.{arith}
use Rattle.coproc_config.proofs.WordBits.{merged-whole}
use Rattle.coproc_config.proofs.compute.merge.Goals as goal

pub returns : goal.returns
returns c = merged-whole 32 c.args.a c.args.b c.args.chooser (omega arith)
