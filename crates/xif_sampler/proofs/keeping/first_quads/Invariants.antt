use Rattle.std.proofs.Common.{◌≡◌, [], length, map, take}
use Rattle.xif_sampler.specs.Samples.{quad_by}
use Rattle.xif_sampler.proofs.keeping.first_quads.Given as goal

abbrev pub invariant-loop-i : goal.invariant-loop-i
invariant-loop-i l = record {
  count : length l.quads ≡ 29;
  first : take l.i l.quads ≡ map (quad_by []) (take l.i l.sources);
}
