use Rattle.std.proofs.Common.{◌≡◌, ◌++◌, map, take, drop}
use Rattle.cycle_spec.specs.Engine as spec
use Rattle.coproc_engine.proofs.steps.end.Given as goal

abbrev pub invariant-loop-entry : goal.invariant-loop-entry
invariant-loop-entry l = l.uses ≡ map (spec.with_end l.start) (take l.entry-index l.fn.uses) ++ drop l.entry-index l.fn.uses
