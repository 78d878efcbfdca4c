use Rattle.std.proofs.Common.{◌≡◌, length, take, Ok}
use Rattle.xif_sampler.specs.Places.{source_of, sources_along}
use Rattle.xif_sampler.specs.Steps.{AreWithin}
use Rattle.xif_sampler.proofs.find.find_along.Given as goal

abbrev pub invariant-loop-i : goal.invariant-loop-i
invariant-loop-i l = record {
  count : length l.sources ≡ 29;
  found : sources_along (source_of l.map l.variables l.params) (take l.i l.signals) ≡ Ok (take l.i l.sources);
  within : AreWithin 64 l.sources;
}
