use Rattle.std.proofs.Common.{◌≡◌, drop}
use Rattle.std.specs.List.{list_any}
use Rattle.cycle_spec.specs.Engine.{is_offered_on}
use Rattle.coproc_engine.proofs.find.is_any_offered_on.Given as goal

abbrev pub invariant-loop-found : goal.invariant-loop-found
invariant-loop-found l = list_any (is_offered_on l.key l.start) l.uses ≡ list_any (is_offered_on l.key l.start) (drop l.found-index l.uses)
