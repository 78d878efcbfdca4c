use Rattle.std.proofs.Common.{◌≡◌}
use Rattle.xif_base.specs.Checks.{first_failing}
use Rattle.coproc_config.specs.Check.{unit_checks, size_checks}
use Rattle.coproc_config.proofs.Checks.{made_from}
use Rattle.coproc_config.proofs.set.Set.check_sizes.Given as goal

-- the units that are left decide
abbrev pub invariant-loop-i : goal.invariant-loop-i
invariant-loop-i l = first_failing (size_checks l.self) ≡ first_failing (made_from unit_checks l.i l.self)
