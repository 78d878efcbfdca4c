use Rattle.std.proofs.Common.{subst, sym}
use Rattle.std.specs.Prelude.{option_copied}
use Rattle.xif_base.specs.Params.{IsInRange}
use Rattle.cycle_spec.specs.State.{Engine}
use Rattle.coproc_engine.specs.Drives.{FitsCopOut}
use Rattle.coproc_engine.proofs.Narrow.{cop-fits}
use Rattle.coproc_engine.proofs.engine.Engine.drive.Goals as goal

pub returns-clause-fits : goal.returns-clause-fits
returns-clause-fits c =
    let range : IsInRange c.args.self.now.params = subst (λ (e : Engine). IsInRange e.params) c.self.view_is c.self.invariant.0.in_range in
    subst (FitsCopOut c.args.self.now.params) (sym c.cop_out.ensures)
    (cop-fits c.args.self.now.params c.args.cpu.now.issue_instr c.issue_ready-issue_ready.result c.response_hit-hit.result c.register_ready-register_ready.result (option_copied c.offered_use.result)
    range c.response_hit-hit.ensures.allowed c.offered_use.ensures.fits)
