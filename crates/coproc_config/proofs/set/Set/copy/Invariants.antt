use Rattle.std.proofs.Common.{◌≡◌, take}
use Rattle.coproc_config.proofs.set.Set.copy.Given as goal

abbrev pub invariant-loop-unit : goal.invariant-loop-unit
invariant-loop-unit l = l.copy-inside.units.items ≡ take l.unit-index l.unit-items
