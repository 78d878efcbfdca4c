use Rattle.std.proofs.Common.{◌≡◌, drop}
use Rattle.cycle_spec.specs.Engine.{start_of}
use Rattle.coproc_engine.proofs.find.latest_start.Given as goal

abbrev pub invariant-loop-found : goal.invariant-loop-found
invariant-loop-found l = start_of l.key l.uses l.cycle ≡ start_of l.key (drop l.found-index l.uses) l.start
