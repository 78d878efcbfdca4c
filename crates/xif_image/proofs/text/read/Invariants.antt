use Rattle.std.proofs.Common.{◌≡◌, ◌≤◌, ◌+◌, ◌-◌, length, drop, All}
use Rattle.xif_image.specs.Image.{IsWithin}
use Rattle.xif_image.specs.Text.{tokens_from, tokens_of, placed_by}
use Rattle.xif_image.proofs.Places.{with_front}
use Rattle.xif_image.proofs.text.read.Given as goal

abbrev pub invariant-loop-start : goal.invariant-loop-start
invariant-loop-start l = record {
  inside : l.at ≤ length l.bytes;
  within : All (λ b. IsWithin l.base l.size b.address) l.placed.items;
  rest : with_front l.placed.items (placed_by l.base l.size (l.load + l.count) (tokens_from l.at 0 (drop l.at l.bytes)))
      ≡ placed_by l.base l.size l.base (tokens_of l.bytes);
}

abbrev pub decreases-loop-start : goal.decreases-loop-start
decreases-loop-start l = length l.bytes - l.at
