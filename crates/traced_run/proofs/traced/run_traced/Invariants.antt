use Rattle.std.proofs.Common.{◌≡◌, ℕ}
use Rattle.std.specs.String.{string_bytes}
use Rattle.xif_sim.specs.Simulating.{meaning, cycles_left}
use Rattle.xif_targets.specs.Writing.{IsUncounted}
use Rattle.traced_run.specs.Telling.{IsTelling}
use Rattle.traced_run.proofs.traced.run_traced.Given as goal

abbrev pub invariant-loop-bus : goal.invariant-loop-bus
invariant-loop-bus g l = record {
  telling : IsTelling (meaning g.P.Predictor.answer g.P.Predictor.after) l.fn.setup l.fn.predictor
      (g.S.Shelf.files l.fn.shelf) (g.S.Shelf.files l.shelf) l.fn.name l.simulation l.predictor l.texts.trace (string_bytes l.texts.log) l.texts.counts;
  uncounted : IsUncounted g.S.Shelf.fetch_faults g.S.Shelf.write_faults g.S.Shelf.faultless l.fn.shelf l.shelf;
}

abbrev pub decreases-loop-bus : goal.decreases-loop-bus
decreases-loop-bus g l = cycles_left l.simulation
