-- The samples of a written text: the buses that were written.
use Rattle.std.specs.Prelude.{◌≡◌, List, map, Ok}
use Rattle.xif_base.specs.declared.params.Params.{Params}
use Rattle.xif_signals.specs.declared.bus.Bus.{Bus}
use Rattle.xif_signals.specs.Bus.{sample_of}
use Rattle.vcd_text.specs.Reading.{Reading, reading_of}
use Rattle.vcd_text.specs.Written.{vcd_text_of}
use Rattle.xif_sampler.specs.declared.source.Source.{Source}
use Rattle.xif_sampler.specs.Places.{defaults, sources_of}
use Rattle.xif_sampler.specs.Samples.{samples_of}

-- The text of buses has a reading, whose variables the default map fits. By that map its samples
-- are the buses.
pub record SamplesBack (p : Params) (buses : List Bus) : Type 0 where
  pub reading : Reading
  pub reads : reading_of (vcd_text_of p buses) ≡ Ok reading
  pub fits : (sources : List Source) × (sources_of defaults reading.variables p ≡ Ok sources)
  pub samples : samples_of defaults reading.variables p reading.items ≡ map sample_of buses
