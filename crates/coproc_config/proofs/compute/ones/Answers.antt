use Rattle.std.proofs.Common.{arith}
use Rattle.coproc_config.proofs.WordBits.{ones-whole}
use Rattle.coproc_config.proofs.compute.ones.Goals as goal

pub returns : goal.returns
returns c = ones-whole 32 c.args.word (omega arith)
