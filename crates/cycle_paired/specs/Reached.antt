-- The states that core and engine reach.
use Rattle.std.specs.Prelude.{◌≡◌, ℕ, None}
use Rattle.cycle_spec.specs.Choices.{choices}
use Rattle.cycle_spec.specs.Core.{drain_begun, resumed}
use Rattle.cycle_spec.specs.Cycle.{Machines, cycle}

-- a drain begins with the next cycle
abbrev pub begins_drain : Machines → Machines
begins_drain m = record m { core = drain_begun m.core }

-- after a drain the core goes on
abbrev pub resumes : Machines → Machines
resumes m = record m { core = resumed m.core }

-- From a first state: by cycles in which nothing stops the machine, whatever the predictor answers,
-- and by drains that begin and end between cycles.
pub data Reached (hart : ℕ) (first : Machines) : Machines → Type 0 where
  First : Reached hart first first
  Cycled
      : (m : Machines) (answer : (pc word : ℕ) → ℕ) → Reached hart first m
      → (choices m.core).stop ≡ None → Reached hart first (cycle m hart answer)
  Drained : (m : Machines) → Reached hart first m → Reached hart first (begins_drain m)
  Resumed : (m : Machines) → Reached hart first m → Reached hart first (resumes m)
