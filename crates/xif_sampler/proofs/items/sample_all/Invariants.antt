use Rattle.std.proofs.Common.{◌≡◌, List, [], take, reverse}
use Rattle.std.specs.Prelude.{filter_map}
use Rattle.xif_sampler.specs.declared.source.Source.{Source}
use Rattle.xif_sampler.specs.Samples.{ended, sample_at}
use Rattle.xif_sampler.specs.Keeping.{Represents}
use Rattle.xif_sampler.proofs.items.sample_all.Given as goal

abbrev pub invariant-loop-item : goal.invariant-loop-item
invariant-loop-item l = record {
  represents : (sources : List Source) → Represents l.fn.sampler sources [] → Represents l.sampler sources (reverse (take l.item-index l.items));
  so_far : (sources : List Source) → Represents l.fn.sampler sources [] → l.samples.items ≡ filter_map (sample_at sources) (ended (reverse (take l.item-index l.items)));
}
