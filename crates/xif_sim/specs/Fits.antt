-- Internal: what holds of the parts of a simulation. These are conditions of the code; nothing here
-- has to be believed.
use Rattle.std.specs.Prelude.{◌≡◌, ◌<◌, ◌≤◌, ◌+◌, ◌^◌, ℕ, Bool, false}
use Rattle.cycle_spec.specs.Counts.{IsCountedBy}
use Rattle.cycle_spec.specs.State.{Core, Engine}

pub record IsGoing (core : Core) (engine : Engine) (is_draining : Bool) (left drain_limit : ℕ)
    : Type 0 where
  pub params : core.params ≡ engine.params
  pub harts : 0 < engine.params.num_harts
  pub counted : IsCountedBy engine.cycle core
  -- the cycles can be counted to the end
  pub running : is_draining ≡ false → engine.cycle + left ≤ 2 ^ 32
  pub few : engine.cycle + left ≤ 2 ^ 33
  pub drain : (0 < drain_limit) × (drain_limit ≤ 2 ^ 28)
