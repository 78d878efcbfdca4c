use Rattle.std.proofs.Common.{◌≡◌, ◌<◌, ◌+◌, ◌++◌, ℕ, drop}
use Rattle.std.specs.Prelude.{All}
use Rattle.xif_image.specs.Image.{bytes_from, IsWithin}
use Rattle.xif_image.proofs.image.Image.raw.Given as goal

abbrev pub invariant-loop-at : goal.invariant-loop-at
invariant-loop-at l = record {
  rest : l.placed.items ++ bytes_from (l.load + l.at) (drop l.at l.bytes) ≡ bytes_from l.load l.bytes;
  before : (i : ℕ) → i < l.at → IsWithin l.base l.size (l.load + i);
  within : All (λ b. IsWithin l.base l.size b.address) l.placed.items;
}
