-- A cycle of core and engine on one bus.
use Rattle.std.specs.Prelude.{ℕ, Bool, if◌then◌else◌}
use Rattle.xif_signals.specs.declared.bus.Bus.{Bus}
use Rattle.xif_signals.specs.declared.bus.CpuOut.{CpuOut}
use Rattle.xif_signals.specs.declared.bus.CopOut.{CopOut}
use Rattle.xif_signals.specs.declared.bus.CpuIn.{CpuIn}
use Rattle.xif_signals.specs.Bus.{join_of}
use Rattle.cycle_spec.specs.declared.log.CycleLog.{CycleLog}
use Rattle.cycle_spec.specs.State.{Core, Engine}
use Rattle.cycle_spec.specs.Core.{core_drive, core_accepts, core_clock, core_log}
use Rattle.cycle_spec.specs.Engine.{engine_drive, engine_clock}

-- a core, which runs for some hart, and the engine of all harts
pub record Machines : Type 0 where
  pub core : Core
  pub engine : Engine

-- ---- the hart: the core sees 0 where the bus carries its hart

abbrev pub hart_if : (valid : Bool) → (hart : ℕ) → ℕ
hart_if valid hart = if valid then hart else 0

abbrev pub for_hart : (hart : ℕ) → CpuOut → CpuOut
for_hart hart cpu = record cpu {
  issue_hartid = hart_if cpu.issue_valid hart;
  register_hartid = hart_if cpu.register_valid hart;
  commit_hartid = hart_if cpu.commit_valid hart;
}

abbrev pub for_core : CopOut → CopOut
for_core cop = record cop { result_hartid = 0 }

-- ---- the signals of a cycle: no ready or response of a cycle decides what the core drives in it

abbrev pub cpu_at : Machines → (hart : ℕ) → CpuOut
cpu_at m hart = for_hart hart (core_drive m.core)

abbrev pub cop_at : Machines → (hart : ℕ) → CopOut
cop_at m hart = engine_drive m.engine (cpu_at m hart)

abbrev pub input_at : Machines → (hart : ℕ) → CpuIn
input_at m hart = core_accepts m.core (cop_at m hart)

abbrev pub bus_at : Machines → (hart : ℕ) → Bus
bus_at m hart = join_of (cpu_at m hart) (cop_at m hart) (input_at m hart)

-- the bus as the core sees it
abbrev pub core_bus_at : Machines → (hart : ℕ) → Bus
core_bus_at m hart =
    join_of (core_drive m.core) (for_core (cop_at m hart)) (input_at m hart)

-- ---- after the cycle

abbrev pub core_next : Machines → (hart : ℕ) → (answer : (pc word : ℕ) → ℕ) → Core
core_next m hart answer = core_clock answer m.core (core_bus_at m hart)

abbrev pub engine_next : Machines → (hart : ℕ) → Engine
engine_next m hart = engine_clock m.engine (cpu_at m hart) (cop_at m hart) (input_at m hart)

unfoldable pub cycle : Machines → (hart : ℕ) → (answer : (pc word : ℕ) → ℕ) → Machines
cycle m hart answer = record { core = core_next m hart answer; engine = engine_next m hart }

abbrev pub log_at : Machines → (answer : (pc word : ℕ) → ℕ) → CycleLog
log_at m answer = core_log answer m.core
