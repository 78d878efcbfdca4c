use Rattle.std.proofs.Common.{◌≡◌}
use Rattle.std.specs.List.{flat_map}
use Rattle.xif_base.specs.Checks.{first_failing}
use Rattle.coproc_config.specs.Set.{places_of}
use Rattle.coproc_config.specs.Check.{entry_checks, all_entry_checks}
use Rattle.coproc_config.proofs.Checks.{made_from}
use Rattle.coproc_config.proofs.set.Set.check_entries.Given as goal

-- the units that are left decide
abbrev pub invariant-loop-i : goal.invariant-loop-i
invariant-loop-i l = first_failing (all_entry_checks l.self) ≡ first_failing (made_from (λ unit. flat_map entry_checks (places_of unit)) l.i l.self)
