-- The core beside any coprocessor.
use Rattle.std.specs.Prelude.{◌≡◌, ◌<◌, ◌^◌, ℕ, None, List, [], ◌∷◌}
use Rattle.xif_signals.specs.declared.bus.Bus.{Bus}
use Rattle.xif_signals.specs.declared.bus.CopOut.{CopOut}
use Rattle.cycle_spec.specs.State.{Core}
use Rattle.cycle_spec.specs.Choices.{choices}
use Rattle.cycle_spec.specs.Core.{core_clock, drain_begun, resumed}
use Rattle.trace_laws.specs.Driven.{bus_with, seen_with}

-- The core of a hart has gone on from a first state to another, with these buses, the newest first:
-- by cycles in which nothing stops it, whatever its predictor answers, and whatever the coprocessor
-- drives, but that its result fits in 64 bits, the most that `result.data` may have; between cycles
-- a drain may begin or end.
pub data Answered (hart : ℕ) (first : Core) : Core → List Bus → Type 0 where
  First : Answered hart first first []
  Cycled
      : (w : Core) (session : List Bus) (answer : (pc word : ℕ) → ℕ) (cop : CopOut)
      → cop.result_data < 2 ^ 64 → Answered hart first w session → (choices w).stop ≡ None
      → Answered hart first (core_clock answer w (seen_with w cop))
      (bus_with hart w cop ∷ session)
  Drained
      : (w : Core) (session : List Bus)
      → Answered hart first w session → Answered hart first (drain_begun w) session
  Resumed
      : (w : Core) (session : List Bus)
      → Answered hart first w session → Answered hart first (resumed w) session
