use Rattle.std.proofs.Common.{◌<◌, ◌^◌, rules, arith}
use Rattle.coproc_config.proofs.WordBits.{with_field-below}
use Rattle.coproc_config.proofs.compute.insert.Goals as goal

pub overflow_cast-result : goal.overflow_cast-result
overflow_cast-result c =
    let fits : c.insert_wide.result < 2 ^ 32 = rw c.insert_wide.ensures (with_field-below c.args.word c.args.low c.args.len c.args.value (omega arith) c.requires.within) in
    search rules
