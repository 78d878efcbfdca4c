use Rattle.std.proofs.Common.{◌≡◌, ◌<◌, ◌≤◌, ℕ, true}
use Rattle.xif_sampler.specs.Steps.{source_at, is_of, readers_at, IsAmong}
use Rattle.xif_sampler.proofs.keeping.readers_of.Given as goal

abbrev pub invariant-loop-i : goal.invariant-loop-i
invariant-loop-i l = record {
  covers : (code k : ℕ) → k < l.i → is_of code (source_at l.sources k) ≡ true → IsAmong (readers_at l.readers.items code) k;
  inside : (code : ℕ) → (readers_at l.readers.items code).to ≤ 29;
}
