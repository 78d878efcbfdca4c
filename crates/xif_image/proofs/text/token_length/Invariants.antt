use Rattle.std.proofs.Common.{◌≡◌, ◌+◌, drop}
use Rattle.xif_image.specs.Text.{ends_token, length_before}
use Rattle.xif_image.proofs.text.token_length.Given as goal

abbrev pub invariant-loop-at : goal.invariant-loop-at
invariant-loop-at l = length_before ends_token (drop l.at l.bytes) + l.at ≡ length_before ends_token (drop 1 l.bytes) + 1
