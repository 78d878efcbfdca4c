-- What is left of a run whose cycles were told one by one.
use Rattle.std.specs.Prelude.{◌≡◌, ℕ, ◌+◌, Bool, if◌then◌else◌, is_some, List, length}
use Rattle.std.specs.List.{filter_map}
use Rattle.cycle_spec.specs.declared.log.CycleLog.{CycleLog}
use Rattle.cycle_spec.specs.Engine.{units_of}
use Rattle.cycle_spec.specs.Run.{Run, end_by}
use Rattle.xif_sim.specs.Simulating.{Simulating}
use Rattle.traced_run.specs.declared.counts.Counts.{Counts}

-- a simulation stands at the end of a run
pub record IsAtEnd (s : Simulating) (run : Run) : Type 0 where
  pub end : run.end ≡ end_by s.machines.core.stopped
  pub pc : run.pc ≡ s.machines.core.pc
  pub registers : run.registers ≡ s.machines.core.registers
  pub memory : run.memory ≡ s.machines.core.memory
  pub units : run.units ≡ units_of s.machines.engine 0

-- the counts of a run: its cycles, the instructions that retired, and the cuts
abbrev pub counts_of : Run → Counts
counts_of run = record {
  cycles = length run.buses;
  retired = length run.retired;
  cuts = length (filter_map (λ log. log.cut) run.logs);
}

-- one, where there is something
abbrev pub one_if : Bool → ℕ
one_if some = if some then 1 else 0

-- with one more cycle
abbrev pub counted : Counts → CycleLog → Counts
counted c log = record {
  cycles = c.cycles + 1;
  retired = c.retired + one_if (is_some log.retired);
  cuts = c.cuts + one_if (is_some log.cut);
}
