use Rattle.std.proofs.Common.{◌<◌, ◌+◌, ◌^◌, sym, subst, arith}
use Rattle.std.proofs.Math.Pow.{pow-lt}
use Rattle.spec_core.proofs.present.flag.Goals as goal

pub returns-in-Low-clause-fits : goal.returns-in-Low-clause-fits
returns-in-Low-clause-fits c =
    let width = c.args.params.now.num_rs + c.args.params.now.dual_read in
    let bit : c.even_bit-low.result < width = omega (arith, c.even_bit-low.ensures, c.requires.lane) in
    subst (λ n. n < 2 ^ width) (sym c.flag_at.ensures) (pow-lt bit)

pub returns-then-lane-params-clause-fits : goal.returns-then-lane-params-clause-fits
returns-then-lane-params-clause-fits c =
    let width = c.args.params.now.num_rs + c.args.params.now.dual_read in
    let bit : c.even_bit-low.result + 1 < width = omega (arith, c.even_bit-low.ensures, c.requires.lane, c.if-lane-params.true) in
    subst (λ n. n < 2 ^ width) (sym c.flag_at-then-lane-params.ensures) (pow-lt bit)
