use Rattle.std.proofs.Common.{◌≡◌, None, drop, filter}
use Rattle.std.specs.List.{last_or}
use Rattle.cycle_spec.specs.Engine.{has_key}
use Rattle.coproc_engine.proofs.find.latest.Given as goal

abbrev pub invariant-loop-found : goal.invariant-loop-found
invariant-loop-found l = last_or None (filter (has_key l.key) l.uses) ≡ last_or l.newest (filter (has_key l.key) (drop l.found-index l.uses))
