-- Whole runs.
use Rattle.std.proofs.Common.{◌≡◌, ◌<◌, ◌≤◌, ◌||◌, ◌+◌, ℕ, zero, suc, Bool, true, false, map, length, Option, Some, None, refl, sym, ap, ◌∙◌, subst, arith}
use Rattle.std.specs.Prelude.{is_some}
use Rattle.xif_base.specs.Params.{IsInRange}
use Rattle.inorder_machine.specs.declared.stop.StopCause.{StopCause}
use Rattle.cycle_spec.specs.declared.choices.Mode.TheVariants.{Running}
use Rattle.cycle_spec.specs.Choices.{choices}
use Rattle.cycle_spec.specs.Core.{mode_after}
use Rattle.cycle_spec.specs.State.{Core}
use Rattle.cycle_spec.specs.Run.{Setup, Meaning, Progress, start, next, unless, cycles_until, is_stopped, is_empty, drain_limit, with_drain, drained, progress_of}
use Rattle.cycle_lists.proofs.Runs.{drain-runs, cycle-mode, still-draining, draining-begins}
use Rattle.cycle_events.proofs.Stopping.{stop-says}
use Rattle.cycle_refines.proofs.Running.{Goes, goes-on, drain-begins, starts}
use Rattle.eager_laws.specs.Flights.{EachTold, flight_after, cycles_of, told_of}
use Rattle.eager_laws.specs.Eager.{IsEager}
use Rattle.eager_laws.proofs.Following.{told_by, Follows, follows-next, follows-start, follows-drain}
use Rattle.eager_laws.proofs.Cycled.{Phase, Within, Beyond, scene, scene-tells, eager-at}

-- a run so far
pub record SoFar {P : Type 0} (meaning : Meaning P) (s : Setup) (first : P) (p : Progress P) : Type 0 where
  pub eager : EachTold (IsEager meaning s first) (told_by p)
  pub follows : Follows meaning s first p

-- a cycle later
later : {P : Type 0} (meaning : Meaning P) (s : Setup) (first : P) (p : Progress P) → IsInRange s.params → Goes s p → Phase s p → SoFar meaning s first p → SoFar meaning s first (next meaning p)
later meaning s first p range g phase f = record {
  eager = (eager-at meaning s first p range g f.follows phase, f.eager);
  follows = follows-next meaning s first p (scene-tells s p (scene s p g)) g.paired.order.pairs f.follows;
}

-- ---- up to a stop, or to the end of the budget

data Came {P : Type 0} (s : Setup) (n : ℕ) (p : Progress P) : Type 0 where
  On : Goes s p → p.machines.core.mode ≡ Running → length (told_by p) + n ≡ s.budget → Came s n p
  Off : is_some p.machines.core.stopped ≡ true → Came s n p

record Runs {P : Type 0} (meaning : Meaning P) (s : Setup) (first : P) (n : ℕ) (p : Progress P) : Type 0 where
  came : Came s n p
  so_far : SoFar meaning s first p

came-next : {P : Type 0} (meaning : Meaning P) (s : Setup) (n : ℕ) (p : Progress P) → IsInRange s.params → Goes s p → p.machines.core.mode ≡ Running → length (told_by p) + suc n ≡ s.budget → Came s n (next meaning p)
came-next meaning s n p range g r l = go (choices p.machines.core).stop refl
  where
    more : (a : ℕ) → a + suc n ≡ s.budget → suc a + n ≡ s.budget
    more a h = omega (arith, h)

    go : (o : Option StopCause) → (choices p.machines.core).stop ≡ o → Came s n (next meaning p)
    go None z = On (goes-on meaning s p range g z) (cycle-mode 0 (meaning.answer p.predictor) p.machines ∙ ap mode_after r) (more (length (told_by p)) l)
    go (Some cause) z = Off (ap is_some (stop-says 0 (meaning.answer p.predictor) p.machines cause z))

running : {P : Type 0} (meaning : Meaning P) (s : Setup) (first : P) (n : ℕ) (p : Progress P) → IsInRange s.params → Came s n p → SoFar meaning s first p → Runs meaning s first 0 (cycles_until meaning is_stopped n p)
running meaning s first zero p range c f = record { came = c; so_far = f }
running meaning s first (suc n) p range (Off h) f =
    subst (λ b. Runs meaning s first 0 (unless b p (λ q. cycles_until meaning is_stopped n (next meaning q)))) (sym h) (record { came = Off h; so_far = f })
running meaning s first (suc n) p range (On g r l) f =
    subst (λ b. Runs meaning s first 0 (unless b p (λ q. cycles_until meaning is_stopped n (next meaning q)))) (sym (ap is_some g.unstopped))
    (running meaning s first n (next meaning p) range (came-next meaning s n p range g r l) (later meaning s first p range g (Within r (less (length (told_by p)) l)) f))
  where
    less : (a : ℕ) → a + suc n ≡ s.budget → a < s.budget
    less a h = omega (arith, h)

up-to : {P : Type 0} (meaning : Meaning P) (s : Setup) (first : P) → IsInRange s.params → Runs meaning s first 0 (cycles_until meaning is_stopped s.budget (start s first))
up-to meaning s first range =
    running meaning s first s.budget (start s first) range (On (starts s first range) refl (omega arith)) (record { eager = tt; follows = follows-start meaning s first })

-- ---- the drain

draining : {P : Type 0} (meaning : Meaning P) (s : Setup) (first : P) (n : ℕ) (p : Progress P) → IsInRange s.params → (p.machines.core.mode ≡ Running → ⊥) → s.budget ≤ length (told_by p) → Goes s p → SoFar meaning s first p → SoFar meaning s first (cycles_until meaning is_empty n p)
draining meaning s first zero p range idle l g f = f
draining meaning s first (suc n) p range idle l g f =
    go (is_empty p.machines.core)
    (draining meaning s first n (next meaning p) range (still-draining (meaning.answer p.predictor) p.machines idle) (more (length (told_by p)) l) (goes-on meaning s p range g (drain-runs p.machines.core idle)) (later meaning s first p range g (Beyond idle l) f))
  where
    more : (a : ℕ) → s.budget ≤ a → s.budget ≤ suc a
    more a h = omega (arith, h)

    go : (b : Bool) → SoFar meaning s first (cycles_until meaning is_empty n (next meaning p)) → SoFar meaning s first (unless b p (λ q. cycles_until meaning is_empty n (next meaning q)))
    go true h = f
    go false h = h

drains : {P : Type 0} (meaning : Meaning P) (s : Setup) (first : P) (n : ℕ) (p : Progress P) → IsInRange s.params → Runs meaning s first 0 p → SoFar meaning s first (drained meaning n p)
drains {P = P} meaning s first n p range r = by r.came
  where
    go : (b : Bool) → SoFar meaning s first (cycles_until meaning is_empty n (with_drain p)) → SoFar meaning s first (unless b p (λ q. cycles_until meaning is_empty n (with_drain q)))
    go true h = r.so_far
    go false h = h

    full : (a : ℕ) → a + 0 ≡ s.budget → s.budget ≤ a
    full a h = omega (arith, h)

    by : Came s 0 p → SoFar meaning s first (drained meaning n p)
    by (Off h) = subst (λ b. SoFar meaning s first (unless (b || is_empty p.machines.core) p (λ q. cycles_until meaning is_empty n (with_drain q)))) (sym h) r.so_far
    by (On g m l) =
        subst (λ b. SoFar meaning s first (unless (b || is_empty p.machines.core) p (λ q. cycles_until meaning is_empty n (with_drain q)))) (sym (ap is_some g.unstopped))
        (go (is_empty p.machines.core)
        (draining meaning s first n (with_drain p) range (draining-begins p) (full (length (told_by p)) l) (drain-begins s p g) (record { eager = r.so_far.eager; follows = follows-drain meaning s first p r.so_far.follows })))

-- ---- the laws

pub all-eager : {P : Type 0} (meaning : Meaning P) (s : Setup) (first : P) → IsInRange s.params → EachTold (IsEager meaning s first) (told_by (progress_of meaning s first))
all-eager meaning s first range = (drains meaning s first (drain_limit s) (cycles_until meaning is_stopped s.budget (start s first)) range (up-to meaning s first range)).eager

-- after so many cycles: a run with that budget
pub told-running : {P : Type 0} (meaning : Meaning P) (s : Setup) (first : P) (n : ℕ) → IsInRange s.params
    → let p = cycles_until meaning is_stopped n (start s first) in map told_of p.machines.core.flight ≡ flight_after meaning first (cycles_of p.logs p.buses)
told-running meaning s first n range = (up-to meaning (record s { budget = n }) first range).so_far.follows.flight_is

pub told-draining : {P : Type 0} (meaning : Meaning P) (s : Setup) (first : P) (n : ℕ) → IsInRange s.params
    → let p = drained meaning n (cycles_until meaning is_stopped s.budget (start s first)) in map told_of p.machines.core.flight ≡ flight_after meaning first (cycles_of p.logs p.buses)
told-draining meaning s first n range = (drains meaning s first n (cycles_until meaning is_stopped s.budget (start s first)) range (up-to meaning s first range)).follows.flight_is

-- ---- a log for each bus

same-until : {P : Type 0} (meaning : Meaning P) (test : Core → Bool) (n : ℕ) (p : Progress P) → length p.logs ≡ length p.buses → length (cycles_until meaning test n p).logs ≡ length (cycles_until meaning test n p).buses
same-until meaning test zero p h = h
same-until meaning test (suc n) p h = go (test p.machines.core) (same-until meaning test n (next meaning p) (ap suc h))
  where
    go : (b : Bool) → length (cycles_until meaning test n (next meaning p)).logs ≡ length (cycles_until meaning test n (next meaning p)).buses
        → length (unless b p (λ q. cycles_until meaning test n (next meaning q))).logs ≡ length (unless b p (λ q. cycles_until meaning test n (next meaning q))).buses
    go true k = h
    go false k = k

pub same-count : {P : Type 0} (meaning : Meaning P) (s : Setup) (first : P) → length (progress_of meaning s first).logs ≡ length (progress_of meaning s first).buses
same-count meaning s first =
    let p = cycles_until meaning is_stopped s.budget (start s first) in
    go p (is_stopped p.machines.core || is_empty p.machines.core) (same-until meaning is_stopped s.budget (start s first) refl)
  where
    go : (p : Progress _) (b : Bool) → length p.logs ≡ length p.buses
        → length (unless b p (λ q. cycles_until meaning is_empty (drain_limit s) (with_drain q))).logs ≡ length (unless b p (λ q. cycles_until meaning is_empty (drain_limit s) (with_drain q))).buses
    go p true h = h
    go p false h = same-until meaning is_empty (drain_limit s) (with_drain p) h
