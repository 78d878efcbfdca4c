-- What stands while the cycles of a run are told. Internal: what the contracts of private functions
-- and the invariants of loops cite; nothing here has to be believed.
use Rattle.std.specs.Prelude.{◌≡◌, ◌≤◌, ℕ, ◌+◌, ◌^◌, List, length, reverse, Option}
use Rattle.std.specs.List.{filter_map}
use Rattle.xif_base.specs.Files.{Files}
use Rattle.xif_signals.specs.declared.bus.Bus.{Bus}
use Rattle.cycle_spec.specs.declared.log.CycleLog.{CycleLog}
use Rattle.cycle_spec.specs.Run.{Setup, Meaning}
use Rattle.run_log.specs.Log.{text_of}
use Rattle.trace_file.specs.Tracing.{Tracing, IsTracing}
use Rattle.xif_sim.specs.Simulating.{Simulating, Tells, cycles_left}
use Rattle.traced_run.specs.declared.counts.Counts.{Counts}

-- no more retired, and no more was cut, than there are cycles; and there are few of these
pub record IsSmall (c : Counts) (cycles : ℕ) : Type 0 where
  pub few : c.cycles ≤ cycles
  pub retired : c.retired ≤ c.cycles
  pub cuts : c.cuts ≤ c.cycles

-- these are the counts of buses and logs, the newest first
pub record IsCount (c : Counts) (buses : List Bus) (logs : List CycleLog) : Type 0 where
  pub cycles : c.cycles ≡ length buses
  pub logs_too : c.cycles ≡ length logs
  pub retired : c.retired ≡ length (filter_map (λ log. log.retired) logs)
  pub cuts : c.cuts ≡ length (filter_map (λ log. log.cut) logs)

-- some cycles of a run were told and counted, and the others will be few
pub record IsCounting {P : Type 0} (m : Meaning P) (setup : Setup) (first : P) (s : Simulating)
    (asked : P) (c : Counts) : Type 0 where
  pub buses : List Bus
  pub logs : List CycleLog
  pub tells : Tells m setup first s asked buses logs
  pub counts : IsCount c buses logs
  pub small : IsSmall c (2 ^ 32)
  pub room : c.cycles + cycles_left s ≤ 2 ^ 32
  pub params : s.machines.core.params ≡ setup.params

-- some cycles were told, and their buses are in the file of a name, and their logs in a text
pub record IsTelling {P : Type 0} (m : Meaning P) (setup : Setup) (first : P)
    (before now : Option Files) (name : List ℕ) (s : Simulating) (asked : P) (trace : Tracing)
    (log : List ℕ) (c : Counts) : Type 0 where
  pub counting : IsCounting m setup first s asked c
  pub tracing : IsTracing before now name trace (reverse counting.buses)
  pub text : log ≡ text_of (reverse counting.logs)
  pub params : trace.writer.params ≡ setup.params
  pub number : trace.writer.cycles ≡ c.cycles
