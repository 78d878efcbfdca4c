use Rattle.std.proofs.Common.{◌≡◌, ◌+◌, ◌++◌, [], ◌∷◌, take, replicate, arith, ap}
use Rattle.std.proofs.lemmas.Grind.{common_steps}
use Rattle.coproc_config.specs.State.{zeros}
use Rattle.coproc_config.proofs.States.{IsStateOf-zeros, zeros-more}
use Rattle.coproc_config.proofs.state.UnitState.new.Goals as goal

pub loop-i-preserved : goal.loop-i-preserved
loop-i-preserved c =
    let more : zeros (take (c.loop-i.i + 1) c.args.set.now) ≡ zeros (take c.loop-i.i c.args.set.now) ++ replicate c.behind-set.inside.accumulators 0 ∷ [] =
    zeros-more c.args.set.now c.loop-i.i c.behind-set.inside.accumulators c.get.result.now c.get.ensures (ap (λ u. u.accumulators) c.behind-set.view_is) in
    grind (arith, common_steps)

pub returns-clause-fits : goal.returns-clause-fits
returns-clause-fits c =
    let all : c.loop-i.units.items ≡ zeros c.args.set.now = grind (arith, common_steps) in
    rw all (IsStateOf-zeros c.args.set.now)
