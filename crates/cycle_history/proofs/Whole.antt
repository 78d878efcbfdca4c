-- A whole run: cycles up to a stop, or up to a budget and then until nothing is in flight.
use Rattle.std.proofs.Common.{◌≡◌, ◌&&◌, ◌||◌, if◌then◌else◌, ℕ, zero, suc, Bool, true, false, Option, Some, None, List, [], ◌∷◌, map, take, length, refl, sym, ap, ◌∙◌, subst, arith}
use Rattle.std.specs.Prelude.{is_some, nat_lt}
use Rattle.std.proofs.lemmas.List.{length-reverse}
use Rattle.std.proofs.lemmas.Bool.Decides.{nat_tests}
use Rattle.xif_base.specs.Params.{IsInRange}
use Rattle.inorder_machine.specs.declared.stop.StopCause.{StopCause}
use Rattle.inorder_machine.specs.Machine.{State}
use Rattle.inorder_machine.specs.After.{after}
use Rattle.coproc_config.specs.State.{zeros}
use Rattle.cycle_spec.specs.declared.choices.Choices.{Choices}
use Rattle.cycle_spec.specs.declared.log.Cut.{Cut}
use Rattle.cycle_spec.specs.declared.choices.Mode.{Mode}
use Rattle.cycle_spec.specs.declared.choices.Mode.TheVariants.{Running, DrainBegins, Draining}
use Rattle.cycle_spec.specs.declared.entry.Entry.{Entry}
use Rattle.cycle_spec.specs.State.{Core}
use Rattle.cycle_spec.specs.Choices.{stop_at, choices_by, choices_in, choices}
use Rattle.cycle_spec.specs.Core.{cut_step, drain_step, retire_step, with_dispatch, next_entry, dispatch_of}
use Rattle.cycle_spec.specs.Engine.{units_of}
use Rattle.cycle_spec.specs.Cycle.{Machines, bus_at, cycle}
use Rattle.cycle_spec.specs.Run.{Setup, Meaning, Progress, new_machines, start, next as next_progress, is_stopped, is_empty, has_no_entry, with_drain, progress_of, run_of}
use Rattle.cycle_lists.proofs.Runs.{Keeping, Comes, Going, Halted, comes}
use Rattle.cycle_paired.specs.Paired.{Paired}
use Rattle.cycle_paired.proofs.Closing.{cycle-paired}
use Rattle.cycle_paired.proofs.Always.{start-paired, drain-paired}
use Rattle.ahead_spec.specs.World.{World, begun, run}
use Rattle.cycle_events.specs.Shown.{Shown, extension_of, state_in}
use Rattle.cycle_events.proofs.Cycled.{cycled}
use Rattle.cycle_events.proofs.Stopping.{stop-says, goes-says}
use Rattle.cycle_events.proofs.Between.{start-shown, drain-shown, cycle-params, cycle-extension}
use Rattle.cycle_refines.specs.RefinesInOrder.{extension_in, first_state}
use Rattle.cycle_refines.proofs.Running.{retired_in, reverse-lines, replicate-first, run-refines}
use Rattle.cycle_history.proofs.Retired.{retired-words}
use Rattle.trace_laws.specs.Sessions.{HasBytes, Session, Begun, Cycled, Drained}
use Rattle.xif_signals.specs.declared.rule.Rule.TheVariants.{I1}
use Rattle.engine_history.specs.Runs.{HasRun}
use Rattle.engine_history.proofs.Run.{run_start, run_cycle, run_told}
use Rattle.pace_laws.specs.Lawful.{IsLawful}
use Rattle.pace_laws.proofs.Whole.{drain-empty}
use Rattle.cycle_history.specs.Uses.{UsesAreThoseThatRetire}
use Rattle.cycle_history.proofs.Words.{words-none}
use Rattle.cycle_history.proofs.Steps.{whole_change, cutting}
use Rattle.cycle_history.proofs.Going.{Next, going, flight-after}
use Rattle.cycle_history.proofs.Runs.{told-at-end, beside, both-after, stops-there}
use Rattle.cycle_history.proofs.Past.{Hist}

-- ---- a run that goes on, and one that stopped

pub record Goes {P : Type 0} (s : Setup) (p : Progress P) : Type 0 where
  pub params : p.machines.core.params ≡ s.params
  pub extension : extension_of p.machines.engine ≡ extension_in s
  pub unstopped : p.machines.core.stopped ≡ None
  pub paired : Paired 0 p.machines
  pub session : Session s 0 p.machines p.buses
  pub run' : HasRun s.params s.set s.script p.buses p.machines.engine
  pub world : World
  pub shown : Shown (first_state s) 0 (retired_in p.logs) p.machines world
  pub now : State
  pub arrived : after (extension_in s) (length (retired_in p.logs)) (first_state s) ≡ Some now
  pub hist : Hist (extension_in s) (first_state s) p.buses (length (retired_in p.logs)) now p.machines.core.flight
  -- where no instruction may be in flight, none is
  pub window : p.machines.core.window ≡ s.window
  pub idle : s.window ≡ 0 → p.machines.core.flight ≡ []

pub record Halts {P : Type 0} (s : Setup) (p : Progress P) : Type 0 where
  pub cause : StopCause
  pub stopped : p.machines.core.stopped ≡ Some cause
  pub next : Next (extension_in s) (first_state s) p.buses (length (retired_in p.logs)) []

-- ---- a window of no instruction

none-below : (n k : ℕ) → k ≡ 0 → nat_lt n k ≡ false
none-below n k h = grind (arith, nat_tests)

and-first : (a b : Bool) → a ≡ false → (a && b) ≡ false
and-first true b h = cc
and-first false b h = refl

no-dispatch : (w : Core) → w.window ≡ 0 → (choices w).dispatch ≡ false
no-dispatch w h = go w.mode
  where
    by : (o : Option StopCause) → (choices_by w o).dispatch ≡ false
    by None = and-first (nat_lt (length w.flight) w.window) _ (none-below (length w.flight) w.window h)
    by (Some c) = refl

    go : (mode : Mode) → (choices_in w mode).dispatch ≡ false
    go Running = by (stop_at w.flight)
    go DrainBegins = refl
    go Draining = refl

cycle-window : (answer : ℕ → ℕ → ℕ) (m : Machines) → (cycle m 0 answer).core.window ≡ m.core.window
unfolding cycle
cycle-window answer m = refl

taken-nil : (k : ℕ) → take {A = Entry} k [] ≡ []
taken-nil zero = refl
taken-nil (suc k) = refl

nil-settled : (g : Entry → Entry) (r : Option Entry) (ch : Choices) → retire_step r (map g (cutting ch [])) ≡ []
nil-settled g r ch = ap (λ es. retire_step r (map g es)) (cut ch.drain ch.cut) ∙ rest r
  where
    cut : (d : Option ℕ) (c : Option Cut) → drain_step d (cut_step c []) ≡ []
    cut None None = refl
    cut None (Some c) = taken-nil c.keep
    cut (Some k) None = taken-nil k
    cut (Some k) (Some c) = ap (take k) (taken-nil c.keep) ∙ taken-nil k

    rest : (r : Option Entry) → retire_step r [] ≡ []
    rest None = refl
    rest (Some e) = refl

cycle-idle : (answer : ℕ → ℕ → ℕ) (m : Machines) → m.core.window ≡ 0 → m.core.flight ≡ [] → (cycle m 0 answer).core.flight ≡ []
cycle-idle answer m w h =
    let ch = choices m.core in
    let g = whole_change ch (bus_at m 0) m.core.flight in
    flight-after m answer ∙ ap (λ es. with_dispatch (dispatch_of answer m.core ch) (retire_step ch.retire (map g (cutting ch es)))) h
    ∙ ap (with_dispatch (dispatch_of answer m.core ch)) (nil-settled g ch.retire ch)
    ∙ ap (λ t. with_dispatch (if t then Some (next_entry answer m.core ch) else None) []) (no-dispatch m.core w)

-- ---- a cycle

goes-on : {P : Type 0} (meaning : Meaning P) (s : Setup) (p : Progress P) → IsInRange s.params → Goes s p → (choices p.machines.core).stop ≡ None → Goes s (next_progress meaning p)
goes-on meaning s p range g z =
    let m = p.machines in
    let answer = meaning.answer p.predictor in
    let x = extension_in s in
    let retired = retired_in p.logs in
    let beside' = beside s m p.buses range g.session g.run' in
    let r = going x (first_state s) m answer p.buses retired g.world g.paired z g.shown g.extension beside'.cycle_is (beside'.rules I1) (both-after s m answer p.buses range g.session g.run') g.now g.arrived g.hist in
    let events = cycled (first_state s) 0 retired answer m g.world (subst IsInRange (sym g.params) range) g.paired z g.shown in
    record {
      params = cycle-params 0 answer m ∙ g.params;
      extension = cycle-extension 0 answer m ∙ g.extension;
      unstopped = goes-says 0 answer m z ∙ g.unstopped;
      paired = cycle-paired 0 m answer g.paired z;
      session = Cycled 0 m p.buses answer g.session z;
      run' = run_cycle s.params s.set s.script p.buses m 0 answer g.run';
      world = run (extension_of m.engine) g.world events.events;
      shown = events.there;
      now = r.now;
      arrived = r.arrived;
      hist = r.hist;
      window = cycle-window answer m ∙ g.window;
      idle = λ w. cycle-idle answer m (g.window ∙ w) (g.idle w);
    }

halts-there : {P : Type 0} (meaning : Meaning P) (s : Setup) (p : Progress P) (cause : StopCause) → IsInRange s.params → Goes s p → (choices p.machines.core).stop ≡ Some cause → Halts s (next_progress meaning p)
halts-there meaning s p cause range g z =
    let m = p.machines in
    let answer = meaning.answer p.predictor in
    record {
      cause = cause;
      stopped = stop-says 0 answer m cause z;
      next = stops-there s m answer p.buses (retired_in p.logs) g.world cause g.paired range z g.session g.run' g.shown g.extension g.now g.arrived g.hist;
    }

drain-begins : {P : Type 0} (s : Setup) (p : Progress P) → Goes s p → Goes s (with_drain p)
drain-begins s p g = record {
  params = g.params;
  extension = g.extension;
  unstopped = g.unstopped;
  paired = drain-paired 0 p.machines g.paired;
  session = Drained 0 p.machines p.buses g.session;
  run' = g.run';
  world = g.world;
  shown = drain-shown (first_state s) 0 (retired_in p.logs) p.machines g.world g.shown;
  now = g.now;
  arrived = g.arrived;
  hist = g.hist;
  window = g.window;
  idle = g.idle;
}

keeping : {P : Type 0} (meaning : Meaning P) (s : Setup) → IsInRange s.params → Keeping meaning (Goes s) (Halts s)
keeping meaning s range = record {
  unstopped = λ p g. g.unstopped;
  stopped = λ p h. ap is_some h.stopped;
  goes-on = λ p g z. goes-on meaning s p range g z;
  halts = λ p cause g z. halts-there meaning s p cause range g z;
  drain-begins = λ p g. drain-begins s p g;
}

-- ---- the whole run

starts : {P : Type 0} (s : Setup) (predictor : P) → IsInRange s.params → HasBytes s.memory → Goes s (start s predictor)
starts s predictor range bytes =
    let m = new_machines s in
    let units : units_of m.engine 0 ≡ zeros s.set = replicate-first s.params.num_harts (zeros s.set) range.num_harts.0 in
    let same : state_in 0 m ≡ first_state s = ap (λ u. record (first_state s) { units = u }) units in
    record {
      params = refl;
      extension = refl;
      unstopped = refl;
      paired = start-paired 0 s;
      session = Begun 0 (omega (arith, range.num_harts)) bytes;
      run' = run_start s;
      world = begun (first_state s);
      shown = subst (λ z. Shown z 0 [] m (begun z)) same (start-shown 0 s);
      now = first_state s;
      arrived = refl;
      hist = record { lists = record { older = []; split = refl; past = tt; kept = tt; done = tt }; owned = tt; words = words-none };
      window = refl;
      idle = λ w. refl;
    }

-- nothing is in flight at the end of a run that didn't stop
ends-empty : {P : Type 0} (meaning : Meaning P) (s : Setup) (predictor : P) → IsInRange s.params → Goes s (progress_of meaning s predictor) → (progress_of meaning s predictor).machines.core.flight ≡ []
ends-empty meaning s predictor range g = go s.window refl
  where
    nothing : (es : List Entry) → has_no_entry es ≡ true → es ≡ []
    nothing [] h = refl
    nothing (e ∷ es) h = cc

    either : (a b : Bool) → a ≡ false → (a || b) ≡ true → b ≡ true
    either true b q h = cc
    either false b q h = h

    go : (n : ℕ) → s.window ≡ n → (progress_of meaning s predictor).machines.core.flight ≡ []
    go zero w = g.idle w
    go (suc n) w =
        let p = progress_of meaning s predictor in
        let lawful : IsLawful s = record { window = omega (arith, w); harts = omega (arith, range.num_harts) } in
        nothing p.machines.core.flight (either (is_stopped p.machines.core) (is_empty p.machines.core) (ap is_some g.unstopped) (drain-empty _ meaning s predictor lawful))

pub run-uses : {P : Type 0} (meaning : Meaning P) (s : Setup) (predictor : P) → IsInRange s.params → HasBytes s.memory → UsesAreThoseThatRetire s (progress_of meaning s predictor).buses (run_of meaning s predictor).retired
run-uses meaning s predictor range bytes = by (comes meaning (Goes s) (Halts s) (keeping meaning s range) s predictor (starts s predictor range bytes))
  where
    told : (now : State) → Hist (extension_in s) (first_state s) (progress_of meaning s predictor).buses (length (retired_in (progress_of meaning s predictor).logs)) now [] → UsesAreThoseThatRetire s (progress_of meaning s predictor).buses (run_of meaning s predictor).retired
    told now h =
        let p = progress_of meaning s predictor in
        let r = run_of meaning s predictor in
        let refined = run-refines meaning s predictor range in
        told-at-end s p.buses r.retired now p.machines.engine (run_told meaning s predictor) (retired-words (extension_in s) (first_state s) refined.now r.retired refined.arrived refined.retired)
        (subst (λ n. Hist (extension_in s) (first_state s) p.buses n now []) (sym (ap length (reverse-lines p.logs) ∙ length-reverse (retired_in p.logs))) h)

    by : Comes (Goes s) (Halts s) (progress_of meaning s predictor) → UsesAreThoseThatRetire s (progress_of meaning s predictor).buses (run_of meaning s predictor).retired
    by (Going g) =
        let p = progress_of meaning s predictor in
        told g.now (subst (Hist (extension_in s) (first_state s) p.buses (length (retired_in p.logs)) g.now) (ends-empty meaning s predictor range g) g.hist)
    by (Halted h) = told h.next.now h.next.hist
