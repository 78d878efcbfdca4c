-- What is kept by each cycle of a run, and by the start of its drain, holds at its end.
use Rattle.std.proofs.Common.{◌≡◌, ◌||◌, ℕ, zero, suc, Bool, true, false, Option, Some, None, refl, sym, ap, ◌∙◌, subst}
use Rattle.std.specs.Prelude.{is_some}
use Rattle.inorder_machine.specs.declared.stop.StopCause.{StopCause}
use Rattle.cycle_spec.specs.declared.choices.Mode.{Mode}
use Rattle.cycle_spec.specs.declared.choices.Mode.TheVariants.{Running, DrainBegins, Draining}
use Rattle.cycle_spec.specs.State.{Core}
use Rattle.cycle_spec.specs.Choices.{choices_in, choices}
use Rattle.cycle_spec.specs.Core.{mode_after}
use Rattle.cycle_spec.specs.Cycle.{Machines, cycle}
use Rattle.cycle_spec.specs.Run.{Setup, Meaning, Progress, start, next, unless, cycles_until, is_stopped, is_empty, drain_limit, with_drain, drained, progress_of}

-- a drain stops nowhere
pub drain-runs : (w : Core) → (w.mode ≡ Running → ⊥) → (choices w).stop ≡ None
drain-runs w idle = go w.mode idle
  where
    go : (m : Mode) → (m ≡ Running → ⊥) → (choices_in w m).stop ≡ None
    go Running q = absurd (q refl)
    go DrainBegins q = refl
    go Draining q = refl

pub cycle-mode : (hart : ℕ) (answer : ℕ → ℕ → ℕ) (m : Machines) → (cycle m hart answer).core.mode ≡ mode_after m.core.mode
unfolding cycle
cycle-mode hart answer m = refl

pub still-draining : (answer : ℕ → ℕ → ℕ) (m : Machines) → (m.core.mode ≡ Running → ⊥) → (cycle m 0 answer).core.mode ≡ Running → ⊥
still-draining answer m idle h = go m.core.mode idle (sym (cycle-mode 0 answer m) ∙ h)
  where
    go : (mode : Mode) → (mode ≡ Running → ⊥) → mode_after mode ≡ Running → ⊥
    go Running n k = n refl
    go DrainBegins n k = cc
    go Draining n k = cc

pub draining-begins : {P : Type 0} (p : Progress P) → (with_drain p).machines.core.mode ≡ Running → ⊥
draining-begins p h = cc

-- what is said of a run that goes on is kept, and turns at a stop into what is said of one that
-- stopped
pub record Keeping {P : Type 0} (meaning : Meaning P) (Goes Halts : Progress P → Type 0) : Type 0 where
  pub unstopped : (p : Progress P) → Goes p → p.machines.core.stopped ≡ None
  pub stopped : (p : Progress P) → Halts p → is_some p.machines.core.stopped ≡ true
  pub goes-on : (p : Progress P) → Goes p → (choices p.machines.core).stop ≡ None → Goes (next meaning p)
  pub halts : (p : Progress P) (cause : StopCause) → Goes p → (choices p.machines.core).stop ≡ Some cause → Halts (next meaning p)
  pub drain-begins : (p : Progress P) → Goes p → Goes (with_drain p)

pub data Comes {P : Type 0} (Goes Halts : Progress P → Type 0) (p : Progress P) : Type 0 where
  Going : Goes p → Comes Goes Halts p
  Halted : Halts p → Comes Goes Halts p

module _ {P : Type 0} (meaning : Meaning P) (Goes Halts : Progress P → Type 0) (k : Keeping meaning Goes Halts) where
  cycle-comes : (p : Progress P) → Goes p → Comes Goes Halts (next meaning p)
  cycle-comes p g = go (choices p.machines.core).stop refl
    where
      go : (o : Option StopCause) → (choices p.machines.core).stop ≡ o → Comes Goes Halts (next meaning p)
      go None z = Going (k.goes-on p g z)
      go (Some cause) z = Halted (k.halts p cause g z)

  -- up to a stop or the end of the budget
  pub running : (n : ℕ) (p : Progress P) → Comes Goes Halts p → Comes Goes Halts (cycles_until meaning is_stopped n p)
  running zero p c = c
  running (suc n) p (Halted h) = subst (λ b. Comes Goes Halts (unless b p (λ q. cycles_until meaning is_stopped n (next meaning q)))) (sym (k.stopped p h)) (Halted h)
  running (suc n) p (Going g) =
      subst (λ b. Comes Goes Halts (unless b p (λ q. cycles_until meaning is_stopped n (next meaning q)))) (sym (ap is_some (k.unstopped p g)))
      (running n (next meaning p) (cycle-comes p g))

  draining : (n : ℕ) (p : Progress P) → (p.machines.core.mode ≡ Running → ⊥) → Goes p → Goes (cycles_until meaning is_empty n p)
  draining zero p idle g = g
  draining (suc n) p idle g =
      go (is_empty p.machines.core)
      (draining n (next meaning p) (still-draining (meaning.answer p.predictor) p.machines idle) (k.goes-on p g (drain-runs p.machines.core idle)))
    where
      go : (b : Bool) → Goes (cycles_until meaning is_empty n (next meaning p)) → Goes (unless b p (λ q. cycles_until meaning is_empty n (next meaning q)))
      go true h = g
      go false h = h

  pub drains : (n : ℕ) (p : Progress P) → Comes Goes Halts p → Comes Goes Halts (drained meaning n p)
  drains n p (Halted h) = subst (λ b. Comes Goes Halts (unless (b || is_empty p.machines.core) p (λ q. cycles_until meaning is_empty n (with_drain q)))) (sym (k.stopped p h)) (Halted h)
  drains n p (Going g) =
      subst (λ b. Comes Goes Halts (unless (b || is_empty p.machines.core) p (λ q. cycles_until meaning is_empty n (with_drain q)))) (sym (ap is_some (k.unstopped p g)))
      (go (is_empty p.machines.core) (draining n (with_drain p) (draining-begins p) (k.drain-begins p g)))
    where
      go : (b : Bool) → Goes (cycles_until meaning is_empty n (with_drain p)) → Comes Goes Halts (unless b p (λ q. cycles_until meaning is_empty n (with_drain q)))
      go true h = Going g
      go false h = Going h

  pub comes : (s : Setup) (predictor : P) → Goes (start s predictor) → Comes Goes Halts (progress_of meaning s predictor)
  comes s predictor g = drains (drain_limit s) (cycles_until meaning is_stopped s.budget (start s predictor)) (running s.budget (start s predictor) (Going g))
