-- The measure in every state that core and engine reach.
use Rattle.std.proofs.Common.{◌≡◌, ◌≢◌, ◌<◌, ◌≤◌, ◌+◌, ◌*◌, ◌⊎◌, inl, inr, ℕ, true, List, [], ◌∷◌, length, None, refl, sym, ap, ◌∙◌}
use Rattle.std.specs.Prelude.{is_some}
use Rattle.std.proofs.lemmas.Bool.{false≢true}
use Rattle.xif_drive.specs.Scripts.{largest_of}
use Rattle.cycle_spec.specs.declared.choices.Mode.TheVariants.{Running}
use Rattle.cycle_spec.specs.declared.entry.Entry.{Entry}
use Rattle.cycle_spec.specs.Choices.{choices}
use Rattle.cycle_spec.specs.Cycle.{Machines, cycle}
use Rattle.cycle_spec.specs.Run.{Setup, new_machines}
use Rattle.cycle_paired.specs.Paired.{Paired}
use Rattle.cycle_paired.specs.Reached.{Reached, First, Cycled, Drained as DrainedBy, Resumed}
use Rattle.cycle_paired.proofs.Always.{start-paired, reached-paired}
use Rattle.pace_laws.specs.Measure.{measure}
use Rattle.pace_laws.specs.Lawful.{IsLawful}
use Rattle.pace_laws.proofs.Keeping.{Steady, steady-cycle, steady-start, steady-drain, steady-resumed}
use Rattle.pace_laws.proofs.Falling.{measure-bound}
use Rattle.pace_laws.proofs.Goes.{running-goes, draining-goes}

reached-steady : (d : ℕ) (first m : Machines) → Paired 0 first → Steady d first → Reached 0 first m → Steady d m
reached-steady d first _ p s First = s
reached-steady d first _ p s (Cycled m answer r z) = steady-cycle d answer m (reached-paired 0 first m p r) z (reached-steady d first m p s r)
reached-steady d first _ p s (DrainedBy m r) = steady-drain d m (reached-steady d first m p s r)
reached-steady d first _ p s (Resumed m r) = steady-resumed d m (reached-steady d first m p s r)

steady : (s : Setup) (m : Machines) → IsLawful s → Reached 0 (new_machines s) m → Steady (largest_of s.script) m
steady s m ok r = reached-steady (largest_of s.script) (new_machines s) m (start-paired 0 s) (steady-start s ok.window ok.harts) r

paired : (s : Setup) (m : Machines) → Reached 0 (new_machines s) m → Paired 0 m
paired s m r = reached-paired 0 (new_machines s) m (start-paired 0 s) r

pub reached-bound : (s : Setup) (m : Machines) → IsLawful s → Reached 0 (new_machines s) m → measure (largest_of s.script) m ≤ 7 * largest_of s.script + 7
reached-bound s m ok r = measure-bound (largest_of s.script) m (steady s m ok r)

pub reached-falls : (s : Setup) (m : Machines) (answer : ℕ → ℕ → ℕ) → IsLawful s → Reached 0 (new_machines s) m → m.core.mode ≡ Running → (choices m.core).stop ≡ None → (choices m.core).retire ≡ None
    → measure (largest_of s.script) (cycle m 0 answer) < measure (largest_of s.script) m
reached-falls s m answer ok r q z n = by (running-goes (largest_of s.script) answer m (paired s m r) (steady s m ok r) q z)
  where
    by : (is_some (choices m.core).retire ≡ true) ⊎ (measure (largest_of s.script) (cycle m 0 answer) < measure (largest_of s.script) m) → measure (largest_of s.script) (cycle m 0 answer) < measure (largest_of s.script) m
    by (inl h) = absurd (false≢true (sym (ap is_some n) ∙ h))
    by (inr l) = l

pub reached-drains : (s : Setup) (m : Machines) (answer : ℕ → ℕ → ℕ) → IsLawful s → Reached 0 (new_machines s) m → m.core.mode ≢ Running → m.core.flight ≢ []
    → (length (cycle m 0 answer).core.flight < length m.core.flight) ⊎ (measure (largest_of s.script) (cycle m 0 answer) < measure (largest_of s.script) m)
reached-drains s m answer ok r q n = by m.core.flight refl
  where
    by : (l : List Entry) → m.core.flight ≡ l → (length (cycle m 0 answer).core.flight < length m.core.flight) ⊎ (measure (largest_of s.script) (cycle m 0 answer) < measure (largest_of s.script) m)
    by [] f = absurd (n f)
    by (e ∷ es) f = (draining-goes (largest_of s.script) answer m e es (paired s m r) (steady s m ok r) q f).goes
