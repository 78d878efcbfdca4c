-- Which setups are lawful.
use Rattle.std.specs.Prelude.{◌≡◌, ◌≤◌, ◌%◌, ◌^◌}
use Rattle.xif_base.specs.Params.{IsInRange}
use Rattle.coproc_config.specs.Check.{IsLawful as IsLawfulSet}
use Rattle.xif_drive.specs.Scripts.{IsLawful as IsLawfulScript}
use Rattle.cycle_spec.specs.Run.{Setup}

pub record IsLawfulSetup (s : Setup) : Type 0 where
  pub params : IsInRange s.params
  pub set : IsLawfulSet s.set
  pub script : IsLawfulScript s.script
  pub window : (1 ≤ s.window) × (s.window ≤ 32)
  -- each instruction in flight has an id of its own
  pub ids : s.window ≤ 2 ^ s.params.id_width
  pub budget : (1 ≤ s.budget) × (s.budget ≤ 4000000)
  pub entry : s.entry % 4 ≡ 0
