use Rattle.std.proofs.Common.{◌≡◌, ◌++◌, drop}
use Rattle.std.specs.List.{enumerate_from, flat_map}
use Rattle.std.specs.String.{string_bytes}
use Rattle.xif_cli.specs.Report.{unit_lines}
use Rattle.xif_cli.proofs.report.push_accumulators.Given as goal

-- what is written, and the lines of the units that are left, are the whole
abbrev pub invariant-loop-unit : goal.invariant-loop-unit
invariant-loop-unit l =
    string_bytes l.text ++ flat_map (λ u. unit_lines u.0 u.1) (enumerate_from l.unit (drop l.unit l.state))
    ≡ string_bytes l.initial.text ++ flat_map (λ u. unit_lines u.0 u.1) (enumerate_from 0 l.state)
