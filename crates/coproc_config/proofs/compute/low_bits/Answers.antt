use Rattle.std.proofs.Common.{◌∙◌, ap, arith, ◌%◌, ◌^◌}
use Rattle.coproc_config.proofs.WordBits.{and_low}
use Rattle.coproc_config.proofs.compute.low_bits.Goals as goal

pub returns : goal.returns
returns c = and_low c.from.result c.args.count (omega arith) ∙ ap (λ n. n % 2 ^ c.args.count) c.from.ensures
