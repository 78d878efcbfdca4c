-- What a sampler keeps of a history: the values that the signals have now, and those from before
-- the instant.
use Rattle.std.specs.Prelude.{◌≡◌, ℕ, List, map}
use Rattle.xif_signals.specs.declared.sample.Quad.{Quad}
use Rattle.vcd_text.specs.declared.item.Item.{Item}
use Rattle.xif_sampler.specs.declared.source.Source.{Source}
use Rattle.xif_sampler.specs.Samples.{quad_by, time_of, before}

-- what contracts see of a sampler
pub record Sampling : Type 0 where
  pub sources : List Source
  pub time : ℕ
  pub was : List Quad
  pub now : List Quad

-- A sampler that takes the bits of the signals from these sources represents a history.
pub record Represents (x : Sampling) (sources : List Source) (h : List Item) : Type 0 where
  pub same : x.sources ≡ sources
  pub at : x.time ≡ time_of h
  pub was : x.was ≡ map (quad_by (before h)) sources
  pub now : x.now ≡ map (quad_by h) sources
