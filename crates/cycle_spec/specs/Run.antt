-- A run: cycles up to a stop, or up to a budget and then until nothing is in flight.
use Rattle.std.specs.Prelude.{ℕ, zero, suc, ◌+◌, ◌*◌, ◌||◌, Bool, true, false, Option, Some, None, is_some, List, [], ◌∷◌, reverse}
use Rattle.std.specs.List.{filter_map}
use Rattle.xif_base.specs.declared.params.Params.{Params}
use Rattle.xif_image.specs.Region.{Region}
use Rattle.coproc_config.specs.Set.{UnitTable}
use Rattle.xif_drive.specs.Scripts.{Lists, largest_of}
use Rattle.inorder_machine.specs.declared.line.Retire.{Retire}
use Rattle.inorder_machine.specs.declared.stop.StopCause.{StopCause}
use Rattle.xif_signals.specs.declared.bus.Bus.{Bus}
use Rattle.cycle_spec.specs.declared.entry.Entry.{Entry}
use Rattle.cycle_spec.specs.declared.log.CycleLog.{CycleLog}
use Rattle.cycle_spec.specs.declared.log.End.{End}
use Rattle.cycle_spec.specs.declared.log.End.TheVariants.{Stopped, Budget}
use Rattle.cycle_spec.specs.State.{Core, new_core, new_engine}
use Rattle.cycle_spec.specs.Choices.{choices}
use Rattle.cycle_spec.specs.Core.{learnt, drain_begun}
use Rattle.cycle_spec.specs.Engine.{units_of}
use Rattle.cycle_spec.specs.Cycle.{Machines, bus_at, cycle, log_at}

-- what a run is made of, but for its predictor
pub record Setup : Type 0 where
  pub params : Params
  pub set : List UnitTable
  pub script : Lists
  pub window : ℕ
  -- in cycles
  pub budget : ℕ
  pub memory : Region
  -- the address of the first instruction
  pub entry : ℕ

-- what a predictor of a type means: its answers, and what it is after it was told of a transfer
pub record Meaning (P : Type 0) : Type 0 where
  pub answer : P → (pc word : ℕ) → ℕ
  pub after : P → (pc word actual : ℕ) → P

-- a run so far: the machines and the predictor now, and the buses and logs, the newest first
pub record Progress (P : Type 0) : Type 0 where
  pub machines : Machines
  pub predictor : P
  pub buses : List Bus
  pub logs : List CycleLog

abbrev pub new_machines : Setup → Machines
new_machines s = record {
  core = new_core s.params s.script s.window s.memory s.entry;
  engine = new_engine s.params s.set s.script;
}

abbrev pub start : {P : Type 0} → Setup → P → Progress P
start s predictor = record {
  machines = new_machines s;
  predictor = predictor;
  buses = [];
  logs = [];
}

-- A cycle later. A predictor is asked before it learns of what retires in the cycle.
abbrev pub next : {P : Type 0} → Meaning P → Progress P → Progress P
next meaning p = record {
  machines = cycle p.machines 0 (meaning.answer p.predictor);
  predictor = learnt meaning.after (choices p.machines.core).retire p.predictor;
  buses = bus_at p.machines 0 ∷ p.buses;
  logs = log_at p.machines (meaning.answer p.predictor) ∷ p.logs;
}

-- a change, unless there is no need for one
abbrev pub unless : {A : Type 0} → Bool → A → (A → A) → A
unless true a change = a
unless false a change = change a

-- cycles until a test passes, at most so many
abbrev pub cycles_until : {P : Type 0} → Meaning P → (Core → Bool) → ℕ → Progress P → Progress P
cycles_until meaning test zero p = p
cycles_until meaning test (suc n) p =
    unless (test p.machines.core) p (λ q. cycles_until meaning test n (next meaning q))

abbrev pub is_stopped : Core → Bool
is_stopped w = is_some w.stopped

abbrev pub has_no_entry : List Entry → Bool
has_no_entry [] = true
has_no_entry (e ∷ es) = false

-- nothing is in flight
abbrev pub is_empty : Core → Bool
is_empty w = has_no_entry w.flight

-- A drain is given so many cycles for each instruction that may be in flight.
abbrev pub drain_limit : Setup → ℕ
drain_limit s = s.window * (8 * largest_of s.script + 40)

abbrev pub with_drain : {P : Type 0} → Progress P → Progress P
with_drain p = record p {
  machines = record p.machines { core = drain_begun p.machines.core };
}

-- a drain of at most so many cycles, unless the machine stopped or nothing is in flight
abbrev pub drained : {P : Type 0} → Meaning P → (limit : ℕ) → Progress P → Progress P
drained meaning limit p =
    unless (is_stopped p.machines.core || is_empty p.machines.core) p
    (λ q. cycles_until meaning is_empty limit (with_drain q))

abbrev pub progress_of : {P : Type 0} → Meaning P → Setup → P → Progress P
progress_of meaning s predictor =
    drained meaning (drain_limit s) (cycles_until meaning is_stopped s.budget (start s predictor))

-- ---- what a run leaves

pub record Run : Type 0 where
  -- the cycles, the oldest first
  pub buses : List Bus
  pub logs : List CycleLog
  pub end : End
  pub pc : ℕ
  pub registers : List ℕ
  pub memory : Region
  -- the accumulators of the units
  pub units : List (List ℕ)
  pub retired : List Retire

abbrev pub end_by : Option StopCause → End
end_by None = Budget
end_by (Some cause) = Stopped cause

abbrev pub run_after : {P : Type 0} → Progress P → Run
run_after p = record {
  buses = reverse p.buses;
  logs = reverse p.logs;
  end = end_by p.machines.core.stopped;
  pc = p.machines.core.pc;
  registers = p.machines.core.registers;
  memory = p.machines.core.memory;
  units = units_of p.machines.engine 0;
  retired = filter_map (λ line. line.retired) (reverse p.logs);
}

-- the run of a setup and a predictor
abbrev pub run_of : {P : Type 0} → Meaning P → Setup → P → Run
run_of meaning s predictor = run_after (progress_of meaning s predictor)
