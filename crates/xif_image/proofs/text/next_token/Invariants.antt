use Rattle.std.proofs.Common.{◌≡◌, ◌≤◌, ◌-◌, length, drop}
use Rattle.xif_image.specs.Text.{tokens_from}
use Rattle.xif_image.proofs.text.next_token.Given as goal

abbrev pub invariant-loop-start : goal.invariant-loop-start
invariant-loop-start l = record {
  behind : l.at ≤ l.start;
  within : l.start ≤ length l.bytes;
  tokens : tokens_from l.start 0 (drop l.start l.bytes) ≡ tokens_from l.at 0 (drop l.at l.bytes);
}

abbrev pub decreases-loop-start : goal.decreases-loop-start
decreases-loop-start l = length l.bytes - l.start
