-- The engine beside any core, and the core beside any coprocessor: each answers what the other
-- drives.
use Rattle.std.specs.Prelude.{ℕ, List, [], ◌∷◌}
use Rattle.xif_signals.specs.declared.bus.Bus.{Bus}
use Rattle.xif_signals.specs.declared.bus.CpuOut.{CpuOut}
use Rattle.xif_signals.specs.declared.bus.CopOut.{CopOut}
use Rattle.xif_signals.specs.declared.bus.CpuIn.{CpuIn}
use Rattle.xif_signals.specs.Bus.{join_of}
use Rattle.cycle_spec.specs.State.{Core, Engine}
use Rattle.cycle_spec.specs.Core.{core_drive, core_accepts}
use Rattle.cycle_spec.specs.Engine.{engine_drive, engine_clock}
use Rattle.cycle_spec.specs.Cycle.{for_hart, for_core}

-- ---- the engine

-- the bus of a cycle
abbrev pub bus_beside : Engine → CpuOut → CpuIn → Bus
bus_beside e cpu input = join_of cpu (engine_drive e cpu) input

-- What is driven is a list of cycles, the newest first: what the core drives in it, and whether it
-- takes a result. The engine after them:
abbrev pub engine_driven : Engine → List (CpuOut × CpuIn) → Engine
engine_driven e [] = e
engine_driven e (x ∷ xs) =
    engine_clock (engine_driven e xs) x.0 (engine_drive (engine_driven e xs) x.0) x.1

-- and the buses, the newest first
abbrev pub driven_buses : Engine → List (CpuOut × CpuIn) → List Bus
driven_buses e [] = []
driven_buses e (x ∷ xs) = bus_beside (engine_driven e xs) x.0 x.1 ∷ driven_buses e xs

-- ---- the core

-- the bus of a cycle, for a hart, and as the core sees it
abbrev pub bus_with : (hart : ℕ) → Core → CopOut → Bus
bus_with hart w cop = join_of (for_hart hart (core_drive w)) cop (core_accepts w cop)

abbrev pub seen_with : Core → CopOut → Bus
seen_with w cop = join_of (core_drive w) (for_core cop) (core_accepts w cop)
