use Rattle.std.proofs.Common.{◌≡◌, drop, find}
use Rattle.cycle_spec.specs.Engine.{is_due}
use Rattle.coproc_engine.proofs.find.first_due.Given as goal

abbrev pub invariant-loop-found : goal.invariant-loop-found
invariant-loop-found l = find (is_due l.script.result l.cycle) l.uses ≡ find (is_due l.script.result l.cycle) (drop l.found-index l.uses)
