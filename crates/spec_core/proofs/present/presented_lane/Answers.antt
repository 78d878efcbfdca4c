use Rattle.std.proofs.Common.{◌≡◌, ◌∙◌, arith}
use Rattle.cycle_spec.specs.Flight.{value_or_zero}
use Rattle.spec_core.proofs.Widths.{port, unread}
use Rattle.spec_core.proofs.present.presented_lane.Goals as goal

pub returns-clause-fits : goal.returns-clause-fits
returns-clause-fits c =
    port c.args.params.now c.args.lane c.lane_of.result c.args.high c.requires.params c.requires.high c.lane_of.ensures.pair
    (λ q. c.lane_of.ensures.single (c.value_or_zero-2.ensures ∙ q))

pub returns-clause-none : goal.returns-clause-none
returns-clause-none c l =
    let low : value_or_zero c.args.low ≡ 0 = unread c.args.params.now.num_rs c.args.lane c.args.low c.requires.low l in
    let high : value_or_zero c.args.high ≡ 0 = unread c.args.params.now.dual_read c.args.lane c.args.high c.requires.high (omega (arith, c.requires.params.dual_read, l)) in
    omega (arith, c.lane_of.ensures.value, c.value_or_zero.ensures, c.value_or_zero-2.ensures, low, high)
