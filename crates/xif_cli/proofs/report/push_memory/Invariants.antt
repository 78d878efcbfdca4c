use Rattle.std.proofs.Common.{◌≡◌, ◌++◌, ◌+◌, ◌*◌}
use Rattle.std.specs.List.{range_with_len, flat_map}
use Rattle.std.specs.String.{string_bytes}
use Rattle.xif_cli.specs.Report.{memory_word, memory_line}
use Rattle.xif_cli.proofs.report.push_memory.Given as goal

-- the lines of the words so far are written
abbrev pub invariant-loop-index : goal.invariant-loop-index
invariant-loop-index l =
    string_bytes l.text
    ≡ string_bytes l.initial.text ++ flat_map (λ i. memory_line (l.memory.base + 4 * i) (memory_word l.before i) (memory_word l.after i)) (range_with_len 0 l.index)
