-- Setups whose runs keep pace, and the number of cycles that each instruction may take.
use Rattle.std.specs.Prelude.{◌<◌, ◌+◌, ◌*◌, ℕ}
use Rattle.xif_drive.specs.Scripts.{largest_of}
use Rattle.cycle_spec.specs.Run.{Setup}

-- An instruction may be in flight, and there is a hart. Units, script, memory and the other
-- parameters are any.
pub record IsLawful (s : Setup) : Type 0 where
  pub window : 0 < s.window
  pub harts : 0 < s.params.num_harts

-- the cycles in which an instruction retires at the latest, by the greatest delay of the script
abbrev pub pace_of : Setup → ℕ
pace_of s = 8 * largest_of s.script + 40
