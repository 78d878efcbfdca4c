use Rattle.std.proofs.Common.{◌≡◌, drop, find}
use Rattle.cycle_spec.specs.Engine.{has_start}
use Rattle.coproc_engine.proofs.find.first_start.Given as goal

abbrev pub invariant-loop-found : goal.invariant-loop-found
invariant-loop-found l = find (has_start l.start) l.uses ≡ find (has_start l.start) (drop l.found-index l.uses)
