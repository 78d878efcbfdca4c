use Rattle.std.proofs.Common.{ℕ}
use Rattle.xif_sim.specs.Simulating.{meaning, cycles_left}
use Rattle.traced_run.specs.Telling.{IsCounting}
use Rattle.traced_run.proofs.ran.run_counted.Given as goal

abbrev pub invariant-loop-log : goal.invariant-loop-log
invariant-loop-log g l = record {
  counting : IsCounting (meaning g.P.Predictor.answer g.P.Predictor.after) l.fn.setup l.fn.predictor l.simulation l.predictor l.counts;
}

abbrev pub decreases-loop-log : goal.decreases-loop-log
decreases-loop-log g l = cycles_left l.simulation
