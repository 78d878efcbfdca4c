-- The engine of a session has served, and where a hart has its turn, the others' results are taken.
use Rattle.std.proofs.Common.{◌≡◌, ◌≢◌, ◌&&◌, not, ℕ, Bool, true, List, [], ◌∷◌, refl, sym, ap, ◌∙◌}
use Rattle.std.specs.Prelude.{IsSome}
use Rattle.std.proofs.lemmas.Bool.{eqb-true}
use Rattle.xif_base.specs.Params.{IsInRange}
use Rattle.xif_signals.specs.declared.bus.Bus.{Bus}
use Rattle.xif_session.specs.declared.fact.Decision.{Decision}
use Rattle.xif_session.specs.declared.fact.Decision.TheVariants.{Undecided, Released, Killed}
use Rattle.xif_session.specs.Facts.{is_released, is_killed}
use Rattle.cycle_spec.specs.declared.entry.Entry.{Entry}
use Rattle.cycle_spec.specs.declared.use_of.Use.{Use}
use Rattle.cycle_spec.specs.Engine.{is_accepted}
use Rattle.cycle_spec.specs.Cycle.{Machines}
use Rattle.cycle_spec.specs.Run.{Setup}
use Rattle.cycle_lists.specs.Lists.{Each}
use Rattle.cycle_lists.proofs.Tests.{not-both, true-or, and-both}
use Rattle.cycle_lists.proofs.Every.{Each-both, Each-filter, Each-passed, Each-unfilter}
use Rattle.cycle_paired.specs.Paired.{live_entries, is_live_use, live_uses, Match, IsUse, Paired}
use Rattle.engine_history.specs.Runs.{HasRun}
use Rattle.engine_history.proofs.Run.{run_start, run_cycle}
use Rattle.trace_laws.specs.Sessions.{Session, Begun, Cycled, Drained, Resumed, Turned, Stopped}
use Rattle.trace_laws.proofs.Sessions.{session_legal}
use Rattle.hart_laws.specs.Harts.{HasServed, is_of, uses_of, AreTaken}

session-run : (setup : Setup) (hart : ℕ) (m : Machines) (session : List Bus) → Session setup hart m session → HasRun setup.params setup.set setup.script session m.engine
session-run setup hart _ _ (Begun _ h b) = run_start setup
session-run setup hart _ _ (Cycled _ m session answer x s) = run_cycle setup.params setup.set setup.script session m hart answer (session-run setup hart m session x)
session-run setup hart _ session (Drained _ m _ x) = session-run setup hart m session x
session-run setup hart _ session (Resumed _ m _ x) = session-run setup hart m session x
session-run setup other _ session (Turned hart _ m _ w x below h waits b) = session-run setup hart m session x
session-run setup other _ _ (Stopped hart _ m session answer cause w x below s b) = run_cycle setup.params setup.set setup.script session m hart answer (session-run setup hart m session x)

pub session-served : (setup : Setup) (hart : ℕ) (m : Machines) (session : List Bus) → Session setup hart m session → HasServed m.engine
session-served setup hart m session x = record { params = setup.params; set = setup.set; script = setup.script; session = session; run = session-run setup hart m session x }

-- the live uses are those of the hart
live-hart : (hart : ℕ) (es : List Entry) (us : List Use) → Match hart es us → Each (λ u. u.key.hart ≡ hart) us
live-hart hart [] [] m = tt
live-hart hart [] (u ∷ us) m = absurd m
live-hart hart (e ∷ es) [] m = absurd m
live-hart hart (e ∷ es) (u ∷ us) m = (m.0.hart_is, live-hart hart es us m.1)

released-live : (d : Decision) → is_released d ≡ true → not (is_killed d) ≡ true
released-live Undecided h = cc
released-live Released h = refl
released-live Killed h = cc

-- a use of another hart
taken-use : (hart other : ℕ) (answered : ℕ → Bool) (u : Use) → other ≢ hart → is_of other u ≡ true → IsUse answered u → (is_live_use answered u ≡ true → u.key.hart ≡ hart) → IsSome u.ready → u.finished ≡ true
taken-use hart other answered u n p ok live r = true-or u.finished
    (λ f. n (sym (eqb-true u.key.hart other p) ∙ live (and-both (answered u.start) (not (is_killed u.decision) && not u.finished) begun (and-both (not (is_killed u.decision)) (not u.finished) (released-live u.decision (ok.ready r).released) (ap not f)))))
  where
    begun : answered u.start ≡ true
    begun = true-or (answered u.start) (λ q. not-both (is_accepted u) (ok.unanswered q).refused (ok.ready r).accepted)

pub session-taken : (setup : Setup) (hart other : ℕ) (m : Machines) (session : List Bus) → IsInRange setup.params → Session setup hart m session → other ≢ hart → AreTaken m.engine other
session-taken setup hart other m session range x n =
    let p : Paired hart m = (session_legal setup range hart m session x).legal.paired in
    let us = m.engine.uses in
    let live = Each-unfilter (λ u. u.key.hart ≡ hart) (is_live_use p.answered) us (live-hart hart (live_entries m.core.flight) (live_uses p.answered us) p.match) in
    let both = Each-both (IsUse p.answered) (λ u. is_live_use p.answered u ≡ true → u.key.hart ≡ hart) (λ u. is_of other u ≡ true → IsSome u.ready → u.finished ≡ true) us
    (λ u ok l q r. taken-use hart other p.answered u n q ok l r) p.uses live in
    Each-both (λ u. is_of other u ≡ true → IsSome u.ready → u.finished ≡ true) (λ u. is_of other u ≡ true) (λ u. IsSome u.ready → u.finished ≡ true) (uses_of m.engine other)
    (λ u h q. h q) (Each-filter (λ u. is_of other u ≡ true → IsSome u.ready → u.finished ≡ true) (is_of other) us both) (Each-passed (is_of other) us)
