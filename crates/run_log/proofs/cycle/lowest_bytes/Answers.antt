use Rattle.std.proofs.Common.{◌≤◌, ◌<◌, ◌^◌, sym, arith}
use Rattle.std.proofs.Math.Nat.{pow-le-pow_right, mod-eq_of_lt}
use Rattle.run_log.proofs.cycle.lowest_bytes.Goals as goal

pub returns-in_default : goal.returns-in_default
returns-in_default c =
    let width : 4 ≤ c.args.width = omega arith in
    let room : 256 ^ 4 ≤ 256 ^ c.args.width = pow-le-pow_right {n = 256} (omega arith) {i = 4} {j = c.args.width} width in
    let less : c.args.value < 256 ^ c.args.width = omega (arith, room) in
    sym (mod-eq_of_lt less)
