use Rattle.std.proofs.Common.{◌≡◌, ◌<◌, Some, slice_get, arith, sym, ap, ◌∙◌}
use Rattle.coproc_config.proofs.States.{accumulator-below, IsStateOf-with_accumulator}
use Rattle.machine_tests.proofs.coprocessors.write.Goals as goal

pub put-requires : goal.put-requires
put-requires g c =
    let units = c.args.set.now in
    let unit = c.get.result.now in
    let found : slice_get units c.args.unit ≡ Some unit = ap (slice_get units) (sym c.from-2.ensures) ∙ c.get.ensures in
    let below : c.args.acc < c.get.result.now.accumulators = omega (arith, ap (λ u. u.accumulators) c.behind-set.view_is) in
    accumulator-below units c.args.state.now c.args.unit unit c.args.acc c.requires found below

pub returns : goal.returns
returns g c = rw c.put.ensures.value (IsStateOf-with_accumulator c.args.set.now c.args.state.now c.args.unit c.args.acc c.args.value c.requires)
