use Rattle.std.proofs.Common.{◌^◌, ◌≤◌, ◌<◌, arith}
use Rattle.std.proofs.Math.Pow.{pow_mono}
use Rattle.std.proofs.lemmas.Nat.{pow_pos}
use Rattle.xif_sampler.proofs.digits.ones.Goals as goal

pub overflow_sub-result : goal.overflow_sub-result
overflow_sub-result c =
    let room : 2 ^ c.args.low ≤ 2 ^ c.args.high = pow_mono c.requires.in_order in
    omega (arith, room)

pub returns : goal.returns
returns c =
    let some : 0 < 2 ^ c.args.low = pow_pos c.args.low in
    omega (arith, some)
