use Rattle.std.proofs.Common.{◌≡◌, All, reverse, filter_map}
use Rattle.xif_signals.specs.Bus.{FitsWidths}
use Rattle.xif_sim.specs.Simulating.{meaning, cycles_left, Tells}
use Rattle.xif_sim.proofs.run.whole_run.Given as goal

abbrev pub invariant-loop-bus : goal.invariant-loop-bus
invariant-loop-bus g l = record {
  tells : Tells (meaning g.P.Predictor.answer g.P.Predictor.after) l.setup l.fn.predictor l.simulation l.predictor (reverse l.told.buses) (reverse l.told.logs);
  retired : l.told.retired ≡ filter_map (λ line. line.retired) l.told.logs;
  params : l.simulation.machines.core.params ≡ l.setup.params;
  fits : All (FitsWidths l.setup.params) l.told.buses;
}

abbrev pub decreases-loop-bus : goal.decreases-loop-bus
decreases-loop-bus g l = cycles_left l.simulation
