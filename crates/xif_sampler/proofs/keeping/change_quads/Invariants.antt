use Rattle.std.proofs.Common.{◌≡◌, ◌<◌, ◌≤◌, ℕ, length, get_or}
use Rattle.xif_signals.specs.Quad.{known_quad}
use Rattle.xif_sampler.specs.Steps.{source_at, changed}
use Rattle.xif_sampler.proofs.keeping.change_quads.Given as goal

abbrev pub invariant-loop-i : goal.invariant-loop-i
invariant-loop-i l = record {
  count : length l.quads ≡ 29;
  done : (k : ℕ) → k < l.i → k < 29 → get_or l.quads k (known_quad 0) ≡ changed l.code l.digits (source_at l.sources k) (get_or l.fn.quads k (known_quad 0));
  rest : (k : ℕ) → l.i ≤ k → get_or l.quads k (known_quad 0) ≡ get_or l.fn.quads k (known_quad 0);
}
