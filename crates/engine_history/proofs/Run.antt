-- The engine of a run is that of its buses.
use Rattle.std.proofs.Common.{◌||◌, ℕ, zero, suc, Bool, true, false, List, [], ◌∷◌, refl, ap}
use Rattle.xif_base.specs.declared.params.Params.{Params}
use Rattle.coproc_config.specs.Set.{UnitTable}
use Rattle.xif_drive.specs.Scripts.{Lists}
use Rattle.xif_signals.specs.declared.bus.Bus.{Bus}
use Rattle.cycle_spec.specs.State.{Core}
use Rattle.cycle_spec.specs.Engine.{engine_clock}
use Rattle.cycle_spec.specs.Cycle.{Machines, bus_at, cycle}
use Rattle.cycle_spec.specs.Run.{Setup, Meaning, Progress, new_machines, start, next, unless, cycles_until, is_stopped, is_empty, drain_limit, with_drain, progress_of}
use Rattle.engine_history.specs.Runs.{cpu_of, cop_of, input_of, HasRun}

pub run_start : (s : Setup) → HasRun s.params s.set s.script [] (new_machines s).engine
run_start s = record { engine_is = refl; driven = tt }

pub run_cycle : (params : Params) (set : List UnitTable) (script : Lists) (session : List Bus) (m : Machines) (hart : ℕ) (answer : (pc word : ℕ) → ℕ) → HasRun params set script session m.engine
    → HasRun params set script (bus_at m hart ∷ session) (cycle m hart answer).engine
unfolding cycle
run_cycle params set script session m hart answer h = record {
  engine_is = ap (λ e. engine_clock e (cpu_of (bus_at m hart)) (cop_of (bus_at m hart)) (input_of (bus_at m hart))) h.engine_is;
  driven = (ap (λ e. Rattle.cycle_spec.specs.Engine.engine_drive e (cpu_of (bus_at m hart))) h.engine_is, h.driven);
}

-- a run so far
abbrev HasRunOf : {P : Type 0} → Setup → Progress P → Type 0
HasRunOf s p = HasRun s.params s.set s.script p.buses p.machines.engine

run_until : {P : Type 0} → (meaning : Meaning P) (s : Setup) (test : Core → Bool) (n : ℕ) (p : Progress P) → HasRunOf s p → HasRunOf s (cycles_until meaning test n p)
run_until meaning s test zero p h = h
run_until meaning s test (suc n) p h =
    go (test p.machines.core) (run_until meaning s test n (next meaning p) (run_cycle s.params s.set s.script p.buses p.machines 0 (meaning.answer p.predictor) h))
  where
    go : (t : Bool) → HasRunOf s (cycles_until meaning test n (next meaning p)) → HasRunOf s (unless t p (λ q. cycles_until meaning test n (next meaning q)))
    go true r = h
    go false r = r

drain_told : {P : Type 0} → (meaning : Meaning P) (s : Setup) (t : Bool) (p : Progress P) → HasRunOf s p → HasRunOf s (unless t p (λ q. cycles_until meaning is_empty (drain_limit s) (with_drain q)))
drain_told meaning s true p h = h
drain_told meaning s false p h = run_until meaning s is_empty (drain_limit s) (with_drain p) h

pub run_told : {P : Type 0} → (meaning : Meaning P) (s : Setup) (predictor : P) → HasRunOf s (progress_of meaning s predictor)
run_told meaning s predictor =
    let p = cycles_until meaning is_stopped s.budget (start s predictor) in
    drain_told meaning s (is_stopped p.machines.core || is_empty p.machines.core) p (run_until meaning s is_stopped s.budget (start s predictor) (run_start s))
