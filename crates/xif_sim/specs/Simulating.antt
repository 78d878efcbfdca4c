-- A simulation cycle by cycle: what it has told of a run, and what is to come.
use Rattle.std.specs.Prelude.{◌≡◌, ◌<◌, ℕ, ◌+◌, ◌-◌, ◌==◌, ◌&&◌, ◌||◌, Bool, true, false, if◌then◌else◌, List}
use Rattle.xif_signals.specs.declared.bus.Bus.{Bus}
use Rattle.cycle_spec.specs.declared.log.CycleLog.{CycleLog}
use Rattle.cycle_spec.specs.Choices.{choices}
use Rattle.cycle_spec.specs.Core.{learnt, drain_begun}
use Rattle.cycle_spec.specs.Cycle.{Machines, bus_at, log_at, cycle}
use Rattle.cycle_spec.specs.Run.{Setup, Meaning, Progress, new_machines, drain_limit, cycles_until, drained, progress_of, is_stopped, is_empty}

-- what contracts see of a simulation
pub record Simulating : Type 0 where
  pub machines : Machines
  -- whether its drain began
  pub is_draining : Bool
  -- how many cycles are left: of the budget, and then of the drain
  pub left : ℕ
  -- how many cycles a drain may take
  pub drain_limit : ℕ

-- what a predictor of a type means
abbrev pub meaning
    : {P : Type 0} → (P → (pc word : ℕ) → ℕ) → (P → (pc word actual : ℕ) → P) → Meaning P
meaning answer after = record { answer = answer; after = after }

-- before the first cycle
abbrev pub begun : Setup → Simulating
begun s = record {
  machines = new_machines s;
  is_draining = false;
  left = s.budget;
  drain_limit = drain_limit s;
}

-- how many cycles it may still take
abbrev pub cycles_left : Simulating → ℕ
cycles_left s = if s.is_draining then s.left else s.left + s.drain_limit

-- ---- a cycle

-- No cycle follows: the machine stopped, or the budget is used up and nothing is in flight, or the
-- drain has taken its cycles.
abbrev pub is_over : Simulating → Bool
is_over s =
    if s.is_draining
    then (s.left == 0) || is_empty s.machines.core
    else is_stopped s.machines.core || ((s.left == 0) && is_empty s.machines.core)

abbrev pub with_drain : Simulating → Simulating
with_drain s = record s {
  machines = record s.machines { core = drain_begun s.machines.core };
  is_draining = true;
  left = s.drain_limit;
}

-- with its drain, once the budget is used up
abbrev pub turned : Simulating → Simulating
turned s = if s.is_draining then s else if s.left == 0 then with_drain s else s

abbrev pub after_cycle : Simulating → (answer : (pc word : ℕ) → ℕ) → Simulating
after_cycle s answer = record s { machines = cycle s.machines 0 answer; left = s.left - 1 }

-- it goes on by a cycle with this bus and log
pub record GoesOn {P : Type 0} (m : Meaning P) (old : Simulating) (asked : P) (new : Simulating)
    (taught : P) (told : Bus × CycleLog) : Type 0 where
  pub bus : told.0 ≡ bus_at (turned old).machines 0
  pub log : told.1 ≡ log_at (turned old).machines (m.answer asked)
  pub simulation : new ≡ after_cycle (turned old) (m.answer asked)
  pub predictor : taught ≡ learnt m.after (choices (turned old).machines.core).retire asked

-- ---- the run

-- a simulation that has told some buses and logs, the newest first, as a part of a run
abbrev pub progress_at
    : {P : Type 0} → Simulating → P → List Bus → List CycleLog → Progress P
progress_at s predictor buses logs = record {
  machines = s.machines;
  predictor = predictor;
  buses = buses;
  logs = logs;
}

-- the end of a run that came so far
abbrev pub ended_from : {P : Type 0} → Meaning P → Simulating → Progress P → Progress P
ended_from m s p =
    if s.is_draining
    then cycles_until m is_empty s.left p
    else drained m s.drain_limit (cycles_until m is_stopped s.left p)

-- It has told these buses and logs, the newest first, of the run of a setup and a predictor, and a
-- drain of it may take a cycle.
pub record Tells {P : Type 0} (m : Meaning P) (setup : Setup) (first : P) (s : Simulating) (now : P)
    (buses : List Bus) (logs : List CycleLog) : Type 0 where
  pub run : progress_of m setup first ≡ ended_from m s (progress_at s now buses logs)
  pub drain : 0 < s.drain_limit
