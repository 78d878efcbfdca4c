use Rattle.std.proofs.Common.{◌≡◌}
use Rattle.std.specs.List.{flat_map}
use Rattle.xif_base.specs.Checks.{first_failing}
use Rattle.coproc_config.specs.Set.{place_of, places_of}
use Rattle.coproc_config.specs.Check.{entry_checks}
use Rattle.coproc_config.proofs.Checks.{made_from}
use Rattle.coproc_config.proofs.set.Unit.check_entries.Given as goal

-- the entries that are left decide
abbrev pub invariant-loop-i : goal.invariant-loop-i
invariant-loop-i l =
    first_failing (flat_map entry_checks (places_of (l.unit, l.self)))
    ≡ first_failing (made_from (λ entry. entry_checks (place_of (l.unit, l.self) entry)) l.i l.self.entries)
