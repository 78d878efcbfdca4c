use Rattle.std.proofs.Common.{◌≡◌, ◌≤◌, ◌++◌}
use Rattle.std.specs.String.{string_bytes}
use Rattle.xif_cli.proofs.Registers.{lines_below}
use Rattle.xif_cli.proofs.report.push_registers.Given as goal

abbrev pub invariant-loop-number : goal.invariant-loop-number
invariant-loop-number l = record {
  first : 1 ≤ l.number;
  lines : string_bytes l.text ≡ string_bytes l.initial.text ++ lines_below l.registers l.number;
}
