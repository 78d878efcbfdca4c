use Rattle.std.proofs.Common.{◌≡◌}
use Rattle.xif_tests.proofs.judge.text_of_answers.Given as goal

abbrev pub invariant-loop-hartid : goal.invariant-loop-hartid
invariant-loop-hartid l = l.judge.cycles ≡ l.hartid-index
