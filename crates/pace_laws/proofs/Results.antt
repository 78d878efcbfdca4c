-- What is left of the result of the oldest entry falls.
use Rattle.std.proofs.Common.{◌≡◌, ◌<◌, ◌≤◌, ◌&&◌, ◌+◌, ℕ, Bool, true, false, cond, not, List, Option, Some, None, refl, sym, ap, ◌∙◌, subst}
use Rattle.std.specs.Prelude.{is_some, IfSome, IsSome}
use Rattle.std.specs.Option.{option_map}
use Rattle.std.proofs.lemmas.Bool.{true≢false}
use Rattle.xif_drive.specs.Scripts.{delay_of}
use Rattle.xif_signals.specs.declared.bus.CpuIn.{CpuIn}
use Rattle.xif_session.specs.Facts.{is_killed}
use Rattle.cycle_spec.specs.declared.choices.Choices.{Choices}
use Rattle.cycle_spec.specs.declared.entry.Entry.{Entry}
use Rattle.cycle_spec.specs.declared.turn.Transactions.{Transactions}
use Rattle.cycle_spec.specs.declared.use_of.Use.{Use}
use Rattle.cycle_spec.specs.Flight.{free_id}
use Rattle.cycle_spec.specs.Turns.{turn_of, aged, is_past, transactions_after}
use Rattle.cycle_spec.specs.State.{Engine}
use Rattle.cycle_spec.specs.Core.{result_owner, settled_entries, execute_step, retire_step}
use Rattle.cycle_spec.specs.Engine.{issue_start, response_hit, has_start, is_due, offered_by, offered_use, use_or, writeback_of, engine_drive, ended_uses, settled_uses}
use Rattle.cycle_spec.specs.Cycle.{Machines}
use Rattle.cycle_lists.specs.Lists.{Each}
use Rattle.cycle_lists.proofs.Tests.{and-right, not-in, some-is}
use Rattle.cycle_lists.proofs.Every.{Each-at}
use Rattle.cycle_lists.proofs.Places.{first-at}
use Rattle.cycle_paired.specs.Paired.{response_of, Paired}
use Rattle.cycle_paired.proofs.Carrying.{Carries}
use Rattle.cycle_paired.proofs.Facts.{Joint}
use Rattle.cycle_paired.proofs.Choosing.{Sound}
use Rattle.cycle_paired.proofs.Lasting.{carried-at, late-decided, late-result, late-executed, late-retired, result_entries, result_uses, waiting_after}
use Rattle.cycle_paired.proofs.Cycling.{cpu_for, answers, gives, half_entries, half_uses, half, result_write}
use Rattle.cycle_paired.proofs.Closing.{bus_for}
use Rattle.cycle_paired.proofs.Same.{settled-is}
use Rattle.pace_laws.specs.Measure.{rest, take_turn, offer_rest, wait_of, is_over}
use Rattle.pace_laws.proofs.Delays.{rest-aged, rest-bound, wait-falls, none-after, some-after}
use Rattle.pace_laws.proofs.Steps.{Leads, moved, for_result}
use Rattle.pace_laws.proofs.Keeping.{Steady}
use Rattle.pace_laws.proofs.Chosen.{Chosen}
use Rattle.pace_laws.proofs.Track.{Its}

-- ---- the pairing before the units

offered-carries : (m : Machines) → Paired 0 m → (us : List Use) → ((u : Use) → Carries u m.engine.uses → Carries u us) → IfSome (offered_use m.engine) (λ u. Carries u us)
offered-carries m k us f = go (offered_use m.engine) refl
  where
    go : (o : Option Use) → offered_use m.engine ≡ o → IfSome o (λ u. Carries u us)
    go None h = tt
    go (Some u) h = f u (carried-at m.engine.result_waiting m.engine.script.result m.engine.cycle m.engine.uses u k.results h)

pub ended-joint : (m : Machines) (ch : Choices) (input : CpuIn) (k : Paired 0 m) (so : Sound m.core.params.split m.core.flight ch)
    → Joint 0 m.core.next_seq (free_id m.core.flight) (m.engine.cycle + 1) (half 0 m ch k so).answered (settled_entries ch (bus_for 0 m.engine ch input) m.core.flight) (ended_uses m.engine (cpu_for 0 ch) (engine_drive m.engine (cpu_for 0 ch)) input)
ended-joint m ch input k so =
    let h = half 0 m ch k so in
    let w = m.core in
    let e = m.engine in
    let v = is_some ch.offer in
    let s = issue_start e (cpu_for 0 ch) in
    let t = answers e 0 ch in
    let n = w.next_seq in
    let id = free_id w.flight in
    let o = offered_use e in
    let ready = input.result_ready in
    let es4 = half_entries e 0 ch w.flight in
    let us4 = half_uses e 0 ch in
    let l4 = late-decided v s t 0 n id (e.cycle + 1) h.answered ch.execute ch.retire w.flight es4 e.uses us4 h.decided so.execute so.retire in
    let l5 = late-result ready v s t 0 n id (e.cycle + 1) h.answered ch.execute ch.retire es4 us4 o (result_write o) l4 (offered-carries m k us4 h.decided.carries) in
    let l6 = late-executed v s t 0 n id (e.cycle + 1) h.answered ch.execute ch.retire (waiting_after o ready) _ _ l5 in
    let l7 = late-retired v s t 0 n id (e.cycle + 1) h.answered ch.retire (waiting_after o ready) _ _ l6 in
    subst (λ es. Joint 0 n id (e.cycle + 1) h.answered es (result_uses o ready us4)) (sym (entries-are w.flight)) l7.joint
  where
    entries-are : (es : List Entry) → settled_entries ch (bus_for 0 m.engine ch input) es
        ≡ retire_step ch.retire (execute_step ch.execute (result_entries (offered_use m.engine) input.result_ready (result_write (offered_use m.engine)) (half_entries m.engine 0 ch es)))
    entries-are es =
        settled-is ch (bus_for 0 m.engine ch input) (answers m.engine 0 ch) (response_of (response_hit m.engine (cpu_for 0 ch))) (gives m.engine 0 ch) (is_some (offered_use m.engine) && input.result_ready)
        (use_or (offered_use m.engine)).key.id (writeback_of (use_or (offered_use m.engine)).hit) (use_or (offered_use m.engine)).result es refl refl refl (record { taken = refl; id_is = refl; we_is = refl; data_is = refl })

-- ---- the channel in one cycle

turn-none : (d : ℕ) (delays : List ℕ) (ts : Transactions) (ready : Bool) → ((k : ℕ) → delay_of delays k ≤ d) → rest delays (turn_of (transactions_after ts None ready) result_owner) ≤ d
turn-none d delays ts ready h = rest-bound d delays (record { number = ts.begun; age = 0 }) (h ts.begun)

-- a use may be offered for itself, and isn't taken
pub channel : (d s r delay now : ℕ) (delays : List ℕ) (ts : Transactions) (o : Option ℕ) (x : Option Use) (ready : Bool) → ((k : ℕ) → delay_of delays k ≤ d) → wait_of r delay now ≤ d
    → ready ≡ (is_some x && is_past delays (turn_of ts result_owner)) → (o ≡ Some s → option_map (λ u. u.start) x ≡ Some s) → (o ≡ None → wait_of r delay now ≡ 0 → option_map (λ u. u.start) x ≡ Some s)
    → (option_map (λ u. u.start) x ≡ Some s → ready ≡ true → ⊥)
    → offer_rest d (rest delays (turn_of (transactions_after ts (cond (is_some x) (Some result_owner) None) ready) result_owner)) s (cond ready None (option_map (λ u. u.start) x)) (wait_of r delay (now + 1))
    < offer_rest d (rest delays (turn_of ts result_owner)) s o (wait_of r delay now)
channel d s r delay now delays ts o None true h k p own due stays = absurd (true≢false p)
channel d s r delay now delays ts o None false h k p own due stays =
    subst (λ w. offer_rest d (rest delays (record { number = ts.begun; age = 0 })) s None w < offer_rest d (rest delays (turn_of ts result_owner)) s o (wait_of r delay now)) (sym (wait-falls r delay now))
    (none-after d (rest delays (turn_of ts result_owner)) (rest delays (record { number = ts.begun; age = 0 })) s (wait_of r delay now) o (turn-none d delays ts false h) k (λ q. none-some (own q)) (λ q z. none-some (due q z)))
  where
    none-some : {A : Type 0} {y : A} → None ≡ Some y → ⊥
    none-some q = cc
channel d s r delay now delays ts o (Some u) true h k p own due stays =
    let t = turn_of (transactions_after ts (Some result_owner) true) result_owner in
    subst (λ w. offer_rest d (rest delays t) s None w < offer_rest d (rest delays (turn_of ts result_owner)) s o (wait_of r delay now)) (sym (wait-falls r delay now))
    (none-after d (rest delays (turn_of ts result_owner)) (rest delays t) s (wait_of r delay now) o (rest-bound d delays t (h t.number)) k (λ q. stays (own q) refl) (λ q z. stays (due q z) refl))
channel d s r delay now delays ts o (Some u) false h k p own due stays =
    let t = turn_of ts result_owner in
    subst (λ w. offer_rest d (rest delays (aged t)) s (Some u.start) w < offer_rest d (rest delays t) s o (wait_of r delay now)) (sym (wait-falls r delay now))
    (some-after d (rest delays t) (rest delays (aged t)) s (wait_of r delay now) u.start o (rest-aged delays t (sym p)) (rest-bound d delays t (h t.number)) k (λ q. some-is u.start s (own q)) (λ q z. some-is u.start s (due q z)))

-- ---- the scene

-- a cycle in which the oldest entry neither stops nor is done, nor is after it
pub record Scene (d : ℕ) (m : Machines) (ch : Choices) (input : CpuIn) (e : Entry) : Type 0 where
  pub paired : Paired 0 m
  pub steady : Steady d m
  pub sound : Sound m.core.params.split m.core.flight ch
  pub chosen : Chosen m.core ch e
  pub leads : Leads m.core.flight e
  pub over : is_over e ≡ false
  pub taken : input.result_ready ≡ (is_some (offered_use m.engine) && is_past m.core.script.take (take_turn m))

-- the oldest entry after it
abbrev pub moved_in : Machines → Choices → CpuIn → Entry → Entry
moved_in m ch input e = moved ch (bus_for 0 m.engine ch input) (for_result ch (bus_for 0 m.engine ch input) m.core.flight) e

-- the uses after it
abbrev pub uses_in : Machines → Choices → CpuIn → List Use
uses_in m ch input = settled_uses m.engine (cpu_for 0 ch) (engine_drive m.engine (cpu_for 0 ch)) input

pub unfinished-its : (answered : ℕ → Bool) (e : Entry) (us : List Use) (i : Its answered e us) → i.its.finished ≡ false
unfinished-its answered e us i = not-in i.its.finished (and-right (not (is_killed i.its.decision)) (not i.its.finished) (and-right (answered i.its.start) (not (is_killed i.its.decision) && not i.its.finished) i.live))

pub carries-its : (answered : ℕ → Bool) (e : Entry) (us : List Use) (i : Its answered e us) → IsSome i.its.ready → Carries i.its us
carries-its answered e us i r = record {
  front = i.front;
  carried = i.its;
  back = i.back;
  here = i.here;
  start = refl;
  key = refl;
  word = refl;
  hit = refl;
  result = refl;
  ready = r;
  unfinished = unfinished-its answered e us i;
}

-- ---- the offered use

-- an offered use is one of the engine's
pub offered-in : (e : Engine) (P : Use → Type 0) (v : Use) → offered_use e ≡ Some v → Each P e.uses → P v
offered-in e P v q h = go e.result_waiting q
  where
    go : (o : Option ℕ) → offered_by o e.script.result e.cycle e.uses ≡ Some v → P v
    go None k = let f = first-at (is_due e.script.result e.cycle) e.uses v k in Each-at P e.uses f.older v f.younger f.here h
    go (Some s) k = let f = first-at (has_start s) e.uses v k in Each-at P e.uses f.older v f.younger f.here h

pub start-of : (o : Option Use) (s : ℕ) → option_map (λ u. u.start) o ≡ Some s → (v : Use) → o ≡ Some v → v.start ≡ s
start-of None s h v q = cc
start-of (Some u) s h v q = ap (λ x. x.start) (sym (some-is u v q)) ∙ some-is u.start s h
