-- The sessions of core and engine, by their buses.
use Rattle.std.specs.Prelude.{◌≡◌, ◌<◌, ◌^◌, ℕ, All, None, Some, List, [], ◌∷◌, length}
use Rattle.xif_base.specs.declared.params.Params.{Params}
use Rattle.xif_image.specs.Region.{Region}
use Rattle.xif_signals.specs.declared.bus.Bus.{Bus}
use Rattle.inorder_machine.specs.declared.stop.StopCause.{StopCause}
use Rattle.cycle_spec.specs.State.{Core}
use Rattle.cycle_spec.specs.Choices.{choices}
use Rattle.cycle_spec.specs.Cycle.{Machines, bus_at, cycle}
use Rattle.cycle_spec.specs.Run.{Setup, new_machines}
use Rattle.cycle_paired.specs.Reached.{begins_drain, resumes}

-- The memory has bytes, as each memory of the code has.
abbrev pub HasBytes : Region → Type 0
HasBytes memory = All (λ byte. byte < 256) memory.bytes

-- A core with these parameters that begins with nothing in flight: it has 32 registers, of 32 bits
-- each, and its memory has bytes.
pub record Begins (given : Params) (w : Core) : Type 0 where
  pub idle : w.flight ≡ []
  pub count : length w.registers ≡ 32
  pub words : All (λ word. word < 2 ^ 32) w.registers
  pub bytes : HasBytes w.memory
  pub params : w.params ≡ given

-- Core and engine go on from the start of a setup, and have put these buses, the newest first. A
-- hart's core goes on by cycles in which nothing stops it, whatever its predictor answers; between
-- cycles a drain may begin or end; and where nothing is in flight or offered, or behind the cycle
-- that stops it, a core with nothing in flight may take its place, for any hart.
pub data Session (setup : Setup) : (hart : ℕ) → Machines → List Bus → Type 0 where
  Begun
      : (hart : ℕ) → hart < setup.params.num_harts → HasBytes setup.memory
      → Session setup hart (new_machines setup) []
  Cycled
      : (hart : ℕ) (m : Machines) (session : List Bus) (answer : (pc word : ℕ) → ℕ)
      → Session setup hart m session → (choices m.core).stop ≡ None
      → Session setup hart (cycle m hart answer) (bus_at m hart ∷ session)
  Drained
      : (hart : ℕ) (m : Machines) (session : List Bus)
      → Session setup hart m session → Session setup hart (begins_drain m) session
  Resumed
      : (hart : ℕ) (m : Machines) (session : List Bus)
      → Session setup hart m session → Session setup hart (resumes m) session
  Turned
      : (hart other : ℕ) (m : Machines) (session : List Bus) (w : Core)
      → Session setup hart m session → other < setup.params.num_harts
      → m.core.flight ≡ [] → m.engine.issue_turns.waiting ≡ None → Begins m.core.params w
      → Session setup other (record m { core = w }) session
  Stopped
      : (hart other : ℕ) (m : Machines) (session : List Bus) (answer : (pc word : ℕ) → ℕ)
      → (cause : StopCause) (w : Core)
      → Session setup hart m session → other < setup.params.num_harts
      → (choices m.core).stop ≡ Some cause → Begins m.core.params w
      → Session setup other (record { core = w; engine = (cycle m hart answer).engine })
      (bus_at m hart ∷ session)
