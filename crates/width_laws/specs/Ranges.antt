-- Which setups have numbers that fit what they are numbers of.
use Rattle.std.specs.Prelude.{◌<◌, ◌≤◌, ◌^◌, All}
use Rattle.xif_base.specs.Params.{IsInRange}
use Rattle.coproc_config.specs.Check.{IsLawful}
use Rattle.cycle_spec.specs.Run.{Setup}

pub record HasRanges (setup : Setup) : Type 0 where
  pub params : IsInRange setup.params
  -- what an entry of the units names is there
  pub set : IsLawful setup.set
  -- each instruction in flight has an id of its own
  pub ids : setup.window ≤ 2 ^ setup.params.id_width
  -- the memory holds bytes
  pub bytes : All (λ byte. byte < 256) setup.memory.bytes
