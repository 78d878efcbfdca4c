use Rattle.std.proofs.Common.{◌∙◌}
use Rattle.coproc_config.proofs.WordBits.{reversed-whole}
use Rattle.coproc_config.proofs.compute.reverse.Goals as goal

pub returns : goal.returns
returns c = c.reverse_bits.ensures ∙ reversed-whole c.args.word
