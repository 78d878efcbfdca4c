-- The buses that were told are a front of those of the whole run.
use Rattle.std.proofs.Common.{◌≡◌, ◌||◌, ℕ, zero, suc, Bool, true, false, List, [], ◌∷◌, ◌++◌, reverse, refl, sym, ap, ◌∙◌, append_assoc}
use Rattle.std.specs.Prelude.{if◌then◌else◌}
use Rattle.std.proofs.lemmas.List.{reverse-append}
use Rattle.xif_signals.specs.declared.bus.Bus.{Bus}
use Rattle.cycle_spec.specs.declared.log.CycleLog.{CycleLog}
use Rattle.cycle_spec.specs.State.{Core}
use Rattle.cycle_spec.specs.Cycle.{bus_at}
use Rattle.cycle_spec.specs.Run.{Setup, Meaning, Progress, run_of, next, unless, cycles_until, drained, with_drain, is_stopped, is_empty}
use Rattle.xif_sim.specs.Simulating.{Simulating, progress_at, ended_from, Tells}
use Rattle.traced_run.proofs.Counting.{reverse-more}

-- later buses stand before the earlier ones
abbrev Extends : {P : Type 0} → (earlier later : Progress P) → Type 0
Extends p q = (newer : List Bus) × (q.buses ≡ newer ++ p.buses)

stays : {P : Type 0} (p : Progress P) → Extends p p
stays p = ([], refl)

behind : {P : Type 0} (p q r : Progress P) → Extends p q → Extends q r → Extends p r
behind p q r first second = (second.0 ++ first.0, second.1 ∙ ap (λ bs. second.0 ++ bs) first.1 ∙ sym (append_assoc second.0 first.0 p.buses))

until-extends : {P : Type 0} (m : Meaning P) (test : Core → Bool) (n : ℕ) (p : Progress P) → Extends p (cycles_until m test n p)
until-extends m test zero p = stays p
until-extends m test (suc n) p = go (test p.machines.core) (until-extends m test n (next m p))
  where
    go : (t : Bool) → Extends (next m p) (cycles_until m test n (next m p)) → Extends p (unless t p (λ q. cycles_until m test n (next m q)))
    go true later = stays p
    go false later = (later.0 ++ bus_at p.machines 0 ∷ [], later.1 ∙ sym (append_assoc later.0 (bus_at p.machines 0 ∷ []) p.buses))

drained-extends : {P : Type 0} (m : Meaning P) (limit : ℕ) (p : Progress P) → Extends p (drained m limit p)
drained-extends m limit p = go (is_stopped p.machines.core || is_empty p.machines.core)
  where
    go : (t : Bool) → Extends p (unless t p (λ q. cycles_until m is_empty limit (with_drain q)))
    go true = stays p
    go false = until-extends m is_empty limit (with_drain p)

ended-extends : {P : Type 0} (m : Meaning P) (s : Simulating) (p : Progress P) → Extends p (ended_from m s p)
ended-extends m s p = go s.is_draining
  where
    go : (d : Bool) → Extends p (if d then cycles_until m is_empty s.left p else drained m s.drain_limit (cycles_until m is_stopped s.left p))
    go true = until-extends m is_empty s.left p
    go false = behind p (cycles_until m is_stopped s.left p) (drained m s.drain_limit (cycles_until m is_stopped s.left p)) (until-extends m is_stopped s.left p) (drained-extends m s.drain_limit (cycles_until m is_stopped s.left p))

pub told-front : {P : Type 0} (m : Meaning P) (setup : Setup) (first : P) (s : Simulating) (now : P) (buses : List Bus) (logs : List CycleLog) → Tells m setup first s now buses logs → (later : List Bus) × ((run_of m setup first).buses ≡ reverse buses ++ later)
told-front m setup first s now buses logs tells =
    let later = ended-extends m s (progress_at s now buses logs) in
    (reverse later.0, ap (λ p. reverse p.buses) tells.run ∙ ap reverse later.1 ∙ reverse-append later.0 buses)

-- and so with one bus more
pub told-front-more : {P : Type 0} (m : Meaning P) (setup : Setup) (first : P) (s : Simulating) (now : P) (bus : Bus) (buses : List Bus) (logs : List CycleLog) → Tells m setup first s now (bus ∷ buses) logs → (later : List Bus) × ((run_of m setup first).buses ≡ reverse buses ++ bus ∷ later)
told-front-more m setup first s now bus buses logs tells =
    let front = told-front m setup first s now (bus ∷ buses) logs tells in
    (front.0, front.1 ∙ ap (λ bs. bs ++ front.0) (reverse-more bus buses) ∙ append_assoc (reverse buses) (bus ∷ []) front.0)
