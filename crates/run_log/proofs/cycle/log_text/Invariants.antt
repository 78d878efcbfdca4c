use Rattle.std.proofs.Common.{◌≡◌, ◌++◌, ◌+◌, drop}
use Rattle.std.specs.String.{string_bytes}
use Rattle.run_log.specs.Log.{text_from}
use Rattle.run_log.proofs.cycle.log_text.Given as goal

-- what is written, and the lines of the cycles that are left, are the whole
abbrev pub invariant-loop-index : goal.invariant-loop-index
invariant-loop-index l = string_bytes l.text ++ text_from (l.first + l.index) (drop l.index l.logs) ≡ text_from l.first l.logs
