use Rattle.std.proofs.Common.{◌<◌, ◌^◌, sym, subst}
use Rattle.xif_signals.specs.declared.bus.CpuOut.{CpuOut}
use Rattle.cycle_spec.specs.State.{Core}
use Rattle.spec_core.specs.Drives.{FitsCpuOut}
use Rattle.spec_core.proofs.Driven.{cpu_out_fits}
use Rattle.spec_core.proofs.cpu.Core.drive.Goals as goal

pub returns-clause-fits : goal.returns-clause-fits
returns-clause-fits c =
    let x = c.self.inside in
    let word : c.cpu_out.result.issue_instr < 2 ^ 32 = c.cpu_out.ensures.word in
    subst (λ (w : Core). FitsCpuOut w.params c.cpu_out.result) c.self.view_is
    (subst (FitsCpuOut x.state.params) (sym c.cpu_out.ensures.value)
    (cpu_out_fits x.state.params x.planned c.self.invariant.fits c.self.invariant.ids
    (subst (λ (o : CpuOut). o.issue_instr < 2 ^ 32) c.cpu_out.ensures.value word)))
