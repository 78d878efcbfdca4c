use Rattle.std.proofs.Common.{◌≡◌, ◌+◌, codes, drop}
use Rattle.xif_image.specs.Text.{begins, length_before}
use Rattle.xif_image.proofs.text.comment_length.Given as goal

abbrev pub invariant-loop-at : goal.invariant-loop-at
invariant-loop-at l = length_before (begins (codes "*/")) (drop l.at l.bytes) + l.at ≡ length_before (begins (codes "*/")) (drop 2 l.bytes) + 2
