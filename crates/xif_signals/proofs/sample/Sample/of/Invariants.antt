use Rattle.std.proofs.Common.{◌≡◌, length, take, map}
use Rattle.xif_signals.specs.Quad.{known_quad}
use Rattle.xif_signals.proofs.sample.Sample.of.Given as goal

abbrev pub invariant-loop-index : goal.invariant-loop-index
invariant-loop-index l = (length l.quads ≡ 28) × (take l.index l.quads ≡ map known_quad (take l.index l.fn.values))
