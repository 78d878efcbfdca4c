use Rattle.std.proofs.Common.{◌≡◌, ◌++◌, drop}
use Rattle.std.specs.List.{enumerate_from, flat_map}
use Rattle.std.specs.String.{string_bytes}
use Rattle.xif_cli.specs.Report.{accumulator_line}
use Rattle.xif_cli.proofs.report.push_unit.Given as goal

-- what is written, and the lines of the accumulators that are left, are the whole
abbrev pub invariant-loop-number : goal.invariant-loop-number
invariant-loop-number l =
    string_bytes l.text ++ flat_map (λ a. accumulator_line l.unit a.0 a.1) (enumerate_from l.number (drop l.number l.accumulators))
    ≡ string_bytes l.initial.text ++ flat_map (λ a. accumulator_line l.unit a.0 a.1) (enumerate_from 0 l.accumulators)
