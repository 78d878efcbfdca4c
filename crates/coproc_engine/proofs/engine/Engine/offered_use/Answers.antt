use Rattle.std.proofs.Common.{All, IfSome, subst, sym, rules}
use Rattle.cycle_spec.specs.State.{Engine}
use Rattle.cycle_spec.specs.Engine as spec
use Rattle.coproc_engine.specs.Fits.{FitsResult}
use Rattle.coproc_engine.proofs.Narrow.{both-fit, offered-fits}
use Rattle.coproc_engine.proofs.engine.Engine.offered_use.Goals as goal

pub returns-clause-fits : goal.returns-clause-fits
returns-clause-fits c =
    let x = c.self.inside in
    let fits : All (FitsResult x.params) x.uses.items = both-fit x.params x.uses.items c.self.invariant.1.1.0.keys.each c.self.invariant.1.1.0.narrow in
    let inside : IfSome (spec.offered_by x.result_waiting x.script.result x.cycle x.uses.items) (FitsResult x.params) =
    offered-fits (FitsResult x.params) x.result_waiting x.script.result x.cycle x.uses.items fits in
    let self : IfSome (spec.offered_use c.args.self.now) (FitsResult c.args.self.now.params) =
    subst (λ (e : Engine). IfSome (spec.offered_use e) (FitsResult e.params)) c.self.view_is inside in
    subst (λ o. IfSome o (FitsResult c.args.self.now.params)) (sym (search rules)) self
