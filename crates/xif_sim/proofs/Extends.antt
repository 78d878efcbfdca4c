-- What a simulation has told of a run: nothing at first, and one bus and log more with each cycle,
-- up to all of them.
use Rattle.std.proofs.Common.{◌≡◌, ◌<◌, ◌≤◌, ◌+◌, ◌*◌, ◌-◌, ◌==◌, ◌&&◌, ◌||◌, ℕ, zero, suc, Bool, true, false, if◌then◌else◌, true≢false, List, [], ◌∷◌, reverse, refl, sym, ap, ◌∙◌, subst, arith}
use Rattle.std.proofs.Math.Dec.{eqb-suc-zero}
use Rattle.xif_signals.specs.declared.bus.Bus.{Bus}
use Rattle.cycle_spec.specs.declared.log.CycleLog.{CycleLog}
use Rattle.cycle_spec.specs.State.{Core}
use Rattle.cycle_spec.specs.Cycle.{Machines}
use Rattle.cycle_spec.specs.Run.{Setup, Meaning, Progress, next, unless, cycles_until, drained, drain_limit, with_drain as drain_begun_in, run_of, run_after, is_stopped, is_empty}
use Rattle.xif_drive.specs.Scripts.{largest_of}
use Rattle.xif_sim.specs.Setup.{IsLawfulSetup}
use Rattle.xif_sim.specs.Simulating.{Simulating, begun, is_over, with_drain, turned, after_cycle, GoesOn, progress_at, ended_from, Tells}

-- ---- before the first cycle

product-some : (a b : ℕ) → 1 ≤ a → 0 < b → 0 < a * b
product-some zero b h some = absurd (omega (arith, h))
product-some (suc a) b h some = omega (arith, some)

pub some-drain : (s : Setup) → IsLawfulSetup s → 0 < drain_limit s
some-drain s l = product-some s.window (8 * largest_of s.script + 40) l.window.0 (omega arith)

-- nothing is told
pub tells-none : {P : Type 0} → (m : Meaning P) (setup : Setup) (first : P) → IsLawfulSetup setup → Tells m setup first (begun setup) first [] []
tells-none m setup first l = record { run = refl; drain = some-drain setup l }

-- ---- the cycles of a phase

until-over : {P : Type 0} → (m : Meaning P) (test : Core → Bool) (n : ℕ) (p : Progress P) → test p.machines.core ≡ true → cycles_until m test n p ≡ p
until-over m test zero p h = refl
until-over m test (suc n) p h = go (test p.machines.core) h
  where
    go : (t : Bool) → t ≡ true → unless t p (λ q. cycles_until m test n (next m q)) ≡ p
    go true h = refl
    go false h = absurd (cc)

until-on : {P : Type 0} → (m : Meaning P) (test : Core → Bool) (n : ℕ) (p : Progress P) → test p.machines.core ≡ false → cycles_until m test (suc n) p ≡ cycles_until m test (suc n - 1) (next m p)
until-on m test n p h = go (test p.machines.core) h
  where
    less : n ≡ suc n - 1
    less = omega arith

    go : (t : Bool) → t ≡ false → unless t p (λ q. cycles_until m test n (next m q)) ≡ cycles_until m test (suc n - 1) (next m p)
    go true h = absurd (cc)
    go false h = ap (λ k. cycles_until m test k (next m p)) less

no-drain : {P : Type 0} → (m : Meaning P) (limit : ℕ) (p : Progress P) → (is_stopped p.machines.core || is_empty p.machines.core) ≡ true → drained m limit p ≡ p
no-drain m limit p h = go (is_stopped p.machines.core || is_empty p.machines.core) h
  where
    go : (t : Bool) → t ≡ true → unless t p (λ q. cycles_until m is_empty limit (drain_begun_in q)) ≡ p
    go true h = refl
    go false h = absurd (cc)

drain-on : {P : Type 0} → (m : Meaning P) (limit : ℕ) (p : Progress P) → (is_stopped p.machines.core || is_empty p.machines.core) ≡ false → drained m limit p ≡ cycles_until m is_empty limit (drain_begun_in p)
drain-on m limit p h = go (is_stopped p.machines.core || is_empty p.machines.core) h
  where
    go : (t : Bool) → t ≡ false → unless t p (λ q. cycles_until m is_empty limit (drain_begun_in q)) ≡ cycles_until m is_empty limit (drain_begun_in p)
    go true h = absurd (cc)
    go false h = refl

-- ---- where no cycle follows

-- a test of the number of cycles that are left
none-left : (n : ℕ) (b : Bool) → ((suc n == 0) && b) ≡ true → ⊥
none-left n b h = absurd (true≢false (sym h ∙ ap (λ z. z && b) (eqb-suc-zero n)))

some-left : (n : ℕ) (b : Bool) → ((suc n == 0) || b) ≡ b
some-left n b = ap (λ z. z || b) (eqb-suc-zero n)

stopped-or : (a b : Bool) → a ≡ true → (a || b) ≡ true
stopped-or true b h = refl
stopped-or false b h = absurd (cc)

ended : {P : Type 0} → (m : Meaning P) (w : Machines) (d : Bool) (left limit : ℕ) (now : P) (buses : List Bus) (logs : List CycleLog) → let s : Simulating = record { machines = w; is_draining = d; left = left; drain_limit = limit } in is_over s ≡ true → ended_from m s (progress_at s now buses logs) ≡ progress_at s now buses logs
ended {P} m w true zero limit now buses logs h = refl
ended {P} m w true (suc n) limit now buses logs h = until-over m is_empty (suc n) _ (sym (some-left n (is_empty w.core)) ∙ h)
ended {P} m w false left limit now buses logs h = go left (is_stopped w.core) refl h
  where
    p : Progress P
    p = record { machines = w; predictor = now; buses = buses; logs = logs }

    go : (left : ℕ) (stopped : Bool) → is_stopped w.core ≡ stopped → (stopped || ((left == 0) && is_empty w.core)) ≡ true → drained m limit (cycles_until m is_stopped left p) ≡ p
    go left true e h = ap (drained m limit) (until-over m is_stopped left p e) ∙ no-drain m limit p (stopped-or (is_stopped w.core) (is_empty w.core) e)
    go zero false e h = no-drain m limit p (subst (λ stopped. (stopped || is_empty w.core) ≡ true) (sym e) h)
    go (suc n) false e h = absurd (none-left n (is_empty w.core) h)

-- ---- where a cycle follows

not-turned : (s : Simulating) (n : ℕ) → s.left ≡ suc n → turned s ≡ s
not-turned s n e = go s.is_draining (s.left == 0) (ap (λ k. k == 0) e ∙ eqb-suc-zero n)
  where
    go : (d z : Bool) → z ≡ false → (if d then s else if z then with_drain s else s) ≡ s
    go true z h = refl
    go false true h = absurd (cc)
    go false false h = refl

-- the cycle, from the simulation with its drain on
abbrev then_ended : {P : Type 0} → Meaning P → P → List Bus → List CycleLog → Simulating → Progress P
then_ended m now buses logs t = ended_from m (after_cycle t (m.answer now)) (next m (progress_at t now buses logs))

going : {P : Type 0} → (m : Meaning P) (w : Machines) (d : Bool) (left limit : ℕ) (now : P) (buses : List Bus) (logs : List CycleLog) → let s : Simulating = record { machines = w; is_draining = d; left = left; drain_limit = limit } in 0 < limit → is_over s ≡ false → ended_from m s (progress_at s now buses logs) ≡ then_ended m now buses logs (turned s)
going {P} m w true zero limit now buses logs some h = absurd (cc)
going {P} m w true (suc n) limit now buses logs some h =
    until-on m is_empty n (record { machines = w; predictor = now; buses = buses; logs = logs }) (sym (some-left n (is_empty w.core)) ∙ h)
going {P} m w false (suc n) limit now buses logs some h = go (is_stopped w.core) refl h
  where
    p : Progress P
    p = record { machines = w; predictor = now; buses = buses; logs = logs }

    s : Simulating
    s = record { machines = w; is_draining = false; left = suc n; drain_limit = limit }

    go : (stopped : Bool) → is_stopped w.core ≡ stopped → (stopped || ((suc n == 0) && is_empty w.core)) ≡ false → drained m limit (cycles_until m is_stopped (suc n) p) ≡ then_ended m now buses logs (turned s)
    go true e h = absurd (cc)
    go false e h = ap (drained m limit) (until-on m is_stopped n p e) ∙ ap (then_ended m now buses logs) (sym (not-turned s n refl))
going {P} m w false zero zero now buses logs some h = absurd (omega (arith, some))
going {P} m w false zero (suc k) now buses logs some h = drain-on m (suc k) p h ∙ until-on m is_empty k (drain_begun_in p) (empty (is_stopped w.core) (is_empty w.core) h)
  where
    p : Progress P
    p = record { machines = w; predictor = now; buses = buses; logs = logs }

    empty : (a b : Bool) → (a || b) ≡ false → b ≡ false
    empty true b h = absurd (cc)
    empty false b h = h

turned-drain : (s : Simulating) → 0 < s.drain_limit → 0 < (turned s).drain_limit
turned-drain s some = go s.is_draining (s.left == 0)
  where
    go : (d z : Bool) → 0 < (if d then s else if z then with_drain s else s).drain_limit
    go true z = some
    go false true = some
    go false false = some

-- a cycle that follows is told
pub tells-more : {P : Type 0} → (m : Meaning P) (setup : Setup) (first : P) (old : Simulating) (asked : P) (new : Simulating) (taught : P) (told : Bus × CycleLog) (buses : List Bus) (logs : List CycleLog) → Tells m setup first old asked buses logs → is_over old ≡ false → GoesOn m old asked new taught told → Tells m setup first new taught (told.0 ∷ buses) (told.1 ∷ logs)
tells-more m setup first old asked new taught told buses logs t h g = record {
  run = t.run
      ∙ going m old.machines old.is_draining old.left old.drain_limit asked buses logs t.drain h
      ∙ (λ i. ended_from m ((sym g.simulation) i) (progress_at ((sym g.simulation) i) ((sym g.predictor) i) ((sym g.bus) i ∷ buses) ((sym g.log) i ∷ logs)));
  drain = subst (λ s. 0 < s.drain_limit) (sym g.simulation) (turned-drain old t.drain);
}

-- ---- the whole run

pub whole-run : {P : Type 0} → (m : Meaning P) (setup : Setup) (first : P) (s : Simulating) (now : P) (buses : List Bus) (logs : List CycleLog) → is_over s ≡ true → Tells m setup first s now buses logs → run_of m setup first ≡ run_after (progress_at s now buses logs)
whole-run m setup first s now buses logs h t =
    ap run_after (t.run ∙ ended m s.machines s.is_draining s.left s.drain_limit now buses logs h)

pub whole-buses : {P : Type 0} → (m : Meaning P) (setup : Setup) (first : P) (s : Simulating) (now : P) (buses : List Bus) (logs : List CycleLog) → is_over s ≡ true → Tells m setup first s now buses logs → (run_of m setup first).buses ≡ reverse buses
whole-buses m setup first s now buses logs h t = ap (λ r. r.buses) (whole-run m setup first s now buses logs h t)

pub whole-logs : {P : Type 0} → (m : Meaning P) (setup : Setup) (first : P) (s : Simulating) (now : P) (buses : List Bus) (logs : List CycleLog) → is_over s ≡ true → Tells m setup first s now buses logs → (run_of m setup first).logs ≡ reverse logs
whole-logs m setup first s now buses logs h t = ap (λ r. r.logs) (whole-run m setup first s now buses logs h t)
