-- The buses of a run are those of a session.
use Rattle.std.proofs.Common.{◌≡◌, ◌<◌, ℕ, true, None, List, ◌∷◌, refl, ap, ◌∙◌, arith}
use Rattle.std.specs.Prelude.{is_some}
use Rattle.std.specs.Option.{option_or}
use Rattle.xif_base.specs.Params.{IsInRange}
use Rattle.xif_signals.specs.declared.bus.Bus.{Bus}
use Rattle.xif_session.specs.Facts.{Past}
use Rattle.xif_session.specs.Legal.{HoldsAll, EachCycle, IsLegalSession}
use Rattle.cycle_spec.specs.Choices.{choices}
use Rattle.cycle_spec.specs.Cycle.{Machines, bus_at, cycle}
use Rattle.cycle_spec.specs.Run.{Setup, Meaning, Progress, progress_of}
use Rattle.cycle_lists.proofs.Runs.{Keeping, Comes, Going, Halted, comes}
use Rattle.trace_laws.specs.Sessions.{HasBytes, Session, Begun, Cycled, Drained}
use Rattle.trace_laws.proofs.Sessions.{session_keeps}

-- what is said of each cycle of a session, with the next one
abbrev pub Said : Setup → (Past → Bus → Type 0) → Type 0
Said setup P = (m : Machines) (session : List Bus) → Session setup 0 m session → EachCycle P (bus_at m 0 ∷ session)

-- what holds of a run that goes on, and of one that stopped
record Goes {T : Type 0} (setup : Setup) (P : Past → Bus → Type 0) (q : Progress T) : Type 0 where
  pub so_far : EachCycle P q.buses
  pub session : Session setup 0 q.machines q.buses
  pub unstopped : q.machines.core.stopped ≡ None

record Halts {T : Type 0} (P : Past → Bus → Type 0) (q : Progress T) : Type 0 where
  pub so_far : EachCycle P q.buses
  pub stopped : is_some q.machines.core.stopped ≡ true

stopped-after : (m : Machines) (answer : ℕ → ℕ → ℕ) → (cycle m 0 answer).core.stopped ≡ option_or (choices m.core).stop m.core.stopped
unfolding cycle
stopped-after m answer = refl

keeping : {T : Type 0} (setup : Setup) (P : Past → Bus → Type 0) (meaning : Meaning T) → Said setup P → Keeping meaning (Goes setup P) (Halts P)
keeping setup P meaning said = record {
  unstopped = λ q g. g.unstopped;
  stopped = λ q h. h.stopped;
  goes-on = λ q g z. record {
    so_far = said q.machines q.buses g.session;
    session = Cycled 0 q.machines q.buses (meaning.answer q.predictor) g.session z;
    unstopped = stopped-after q.machines (meaning.answer q.predictor) ∙ ap (λ o. option_or o q.machines.core.stopped) z ∙ g.unstopped;
  };
  halts = λ q cause g z. record {
    so_far = said q.machines q.buses g.session;
    stopped = ap is_some (stopped-after q.machines (meaning.answer q.predictor) ∙ ap (λ o. option_or o q.machines.core.stopped) z);
  };
  drain-begins = λ q g. record { so_far = g.so_far; session = Drained 0 q.machines q.buses g.session; unstopped = g.unstopped };
}

pub run_said : {T : Type 0} (setup : Setup) (P : Past → Bus → Type 0) (meaning : Meaning T) (predictor : T) → 0 < setup.params.num_harts → HasBytes setup.memory → Said setup P → EachCycle P (progress_of meaning setup predictor).buses
run_said {T = T} setup P meaning predictor below bytes said =
    by (comes meaning (Goes setup P) (Halts P) (keeping setup P meaning said) setup predictor (record { so_far = tt; session = Begun 0 below bytes; unstopped = refl }))
  where
    by : {q : Progress T} → Comes (Goes setup P) (Halts P) q → EachCycle P q.buses
    by (Going g) = g.so_far
    by (Halted h) = h.so_far

-- each run is legal
pub run-legal : {T : Type 0} (meaning : Meaning T) (setup : Setup) (predictor : T) → IsInRange setup.params → HasBytes setup.memory → IsLegalSession setup.params (progress_of meaning setup predictor).buses
run-legal meaning setup predictor range bytes =
    run_said setup (HoldsAll setup.params) meaning predictor (omega (arith, range.num_harts)) bytes (λ m session x. session_keeps setup range 0 m session x)
