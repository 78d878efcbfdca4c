-- Core and engine stay steady in every cycle that doesn't stop the machine.
use Rattle.std.proofs.Common.{◌≡◌, ◌<◌, ◌≤◌, ◌==◌, ◌++◌, ◌-◌, ◌⊎◌, inl, inr, ℕ, Bool, true, false, cond, List, [], ◌∷◌, map, take, length, Option, Some, None, refl, sym, ap, ◌∙◌, subst, arith}
use Rattle.coproc_config.specs.Set.{UnitTable}
use Rattle.coproc_config.specs.State.{zeros}
use Rattle.std.specs.Prelude.{zero, suc, replicate, find, is_some, nat_lt, IsSome}
use Rattle.std.proofs.lemmas.Bool.{eq-eqb, eqb-true, ltb-true}
use Rattle.std.proofs.lemmas.List.{length-map, length-take, length-drop, length-append, take-map}
use Rattle.coproc_config.specs.Accept.{hit_of}
use Rattle.inorder_machine.specs.declared.stop.StopCause.{StopCause}
use Rattle.xif_signals.specs.declared.bus.Bus.{Bus}
use Rattle.xif_signals.specs.declared.bus.CpuIn.{CpuIn}
use Rattle.xif_session.specs.Facts.{is_issued, is_given, is_taken, response_on}
use Rattle.xif_image.specs.Region.{word_at}
use Rattle.cycle_spec.specs.declared.choices.Choices.{Choices}
use Rattle.cycle_spec.specs.declared.choices.Executed.{Executed}
use Rattle.cycle_spec.specs.declared.choices.Mode.{Mode}
use Rattle.cycle_spec.specs.declared.choices.Mode.TheVariants.{Running, DrainBegins, Draining}
use Rattle.cycle_spec.specs.declared.choices.Presented.{Presented}
use Rattle.cycle_spec.specs.declared.entry.Entry.{Entry}
use Rattle.cycle_spec.specs.declared.log.Cut.{Cut}
use Rattle.cycle_spec.specs.declared.use_of.Use.{Use}
use Rattle.cycle_spec.specs.Flight.{holds_id, free_id, count_through, youngest_released, with_response, with_sent, with_result, with_outcome}
use Rattle.cycle_spec.specs.State.{Core}
use Rattle.cycle_spec.specs.Choices.{choices, choices_by, choices_in, choices_draining, choices_drain_begins, stop_at, stay_with}
use Rattle.cycle_spec.specs.Core.{word_in, response_on_offer, response_step, sent_on_present, sent_step, release_step, cut_step, drain_step, result_for, result_step, execute_step, retire_step, sent_entries, kept_entries, settled_entries, with_dispatch, dispatch_of, ahead_behind, memory_behind, mode_after, next_entry}
use Rattle.cycle_spec.specs.Engine.{offered_hit, issue_ready, register_ready, engine_drive, units_in_harts, ended_uses}
use Rattle.cycle_spec.specs.Cycle.{Machines, input_at, cycle}
use Rattle.cycle_spec.specs.Run.{Setup, new_machines}
use Rattle.xif_drive.specs.Scripts.{largest_of}
use Rattle.cycle_lists.specs.Lists.{Each, Pairs}
use Rattle.cycle_lists.specs.Order.{Before}
use Rattle.cycle_lists.proofs.Tests.{and-left, and-right, and-both, or-left, or-right}
use Rattle.cycle_lists.proofs.Every.{Each-map, Each-push}
use Rattle.cycle_lists.proofs.Places.{last-found}
use Rattle.cycle_lists.proofs.Order.{start-kept, response-kept, sent-kept}
use Rattle.cycle_paired.specs.Paired.{response_of, Paired}
use Rattle.cycle_paired.specs.Reached.{begins_drain, resumes}
use Rattle.cycle_paired.proofs.Choosing.{Presents, take-through, sound}
use Rattle.cycle_paired.proofs.Lasting.{carried-at}
use Rattle.cycle_paired.proofs.Cycling.{facts_of, cpu_for}
use Rattle.cycle_paired.proofs.Closing.{bus_for, both_after}
use Rattle.pace_laws.proofs.Delays.{Bounds, largest-bounds}
use Rattle.pace_laws.proofs.Steps.{Goes}
use Rattle.pace_laws.proofs.Steady.{IsSteady, AnswersFor, each-late, each-sent, steady-settled, steady-pushed, Shields, shields-settled, shields-pushed, LastReleased, last-late, last-sent, last-taken}
use Rattle.pace_laws.proofs.Uses.{IsKept, kept-settled}

-- without X_ISSUE_REGISTER_SPLIT a word with an answer has its registers
abbrev pub IsSent : Entry → Type 0
IsSent e = IsSome e.response → e.operands_sent ≡ true

-- no delay of the script is above d
pub record Steady (d : ℕ) (m : Machines) : Type 0 where
  pub some : 0 < m.core.window
  pub room : length m.core.flight ≤ m.core.window
  pub entries : Each (IsSteady m.engine.set m.engine.params) m.core.flight
  pub shields : Pairs Shields m.core.flight
  pub last : m.core.mode ≡ Draining → LastReleased m.core.flight
  pub sent : m.core.params.split ≡ false → Each IsSent m.core.flight
  pub uses : Each (IsKept m.engine.cycle) m.engine.uses
  pub units : 0 < length m.engine.units
  pub core_script : Bounds d m.core.script
  pub engine_script : Bounds d m.engine.script

-- ---- the signals

answers-for : (m : Machines) (ch : Choices) (input : CpuIn) → AnswersFor m.engine.set m.engine.params ch.offer (bus_for 0 m.engine ch input)
answers-for m ch input = record { answer = λ e h i. go (issue_ready m.engine (cpu_for 0 ch)) (and-right (is_some ch.offer) (issue_ready m.engine (cpu_for 0 ch)) i) ∙ ap (λ o. response_of (hit_of m.engine.set m.engine.params (word_in o))) h }
  where
    go : (t : Bool) → t ≡ true → response_of (cond t (offered_hit m.engine (cpu_for 0 ch)) None) ≡ response_of (offered_hit m.engine (cpu_for 0 ch))
    go true h = refl
    go false h = cc

-- ---- the registers of an answered word

sent-goes : (e f : Entry) → Goes e f → IsSent e → IsSent f
sent-goes e f g h s = g.sent (h (ap is_some (sym g.response) ∙ s))

abbrev Or : ℕ → Entry → Type 0
Or n y = (y.seq ≡ n) ⊎ IsSent y

sent-both : (ch : Choices) (b : Bus) (es : List Entry) → Presents false es ch.offer ch.present → (is_issued b ≡ true → is_given b ≡ true) → Each IsSent es → Each IsSent (sent_entries ch b es)
sent-both ch b es ps k h = go (is_issued b) refl ch.offer ch.present refl refl ps
  where
    answered : (p : Entry) (y : Entry) → IsSent y → Or p.seq (with_response p.seq (response_on b) y)
    answered p y s = by (y.seq == p.seq) refl
      where
        by : (t : Bool) → (y.seq == p.seq) ≡ t → (y.seq ≡ p.seq) ⊎ (IsSome (cond t (Some (response_on b)) y.response) → y.operands_sent ≡ true)
        by true q = inl (eqb-true y.seq p.seq q)
        by false q = inr s

    given : (n : ℕ) (y : Entry) → Or n y → IsSent (with_sent n y)
    given n y (inl q) = λ s. or-right y.operands_sent (y.seq == n) (eq-eqb y.seq n q)
    given n y (inr s) = λ z. or-left y.operands_sent (y.seq == n) (s z)

    go : (t : Bool) → is_issued b ≡ t → (o : Option Entry) (x : Option Presented) → ch.offer ≡ o → ch.present ≡ x → Presents false es o x → Each IsSent (sent_step ch.present b (cond t (response_on_offer ch.offer b es) es))
    go false i o x p q z = each-sent IsSent ch.present b es sent-goes h
    go true i None x p q z = each-sent IsSent ch.present b _ sent-goes (subst (λ o. Each IsSent (response_on_offer o b es)) (sym p) h)
    go true i (Some e) None p q z = absurd z
    go true i (Some e) (Some x) p q z =
        rw (p, q, k i) (Each-map (Or e.seq) IsSent (with_sent x.entry.seq) (map (with_response e.seq (response_on b)) es) (λ y a. subst (λ w. IsSent (with_sent w.seq y)) (sym z) (given e.seq y a))
        (Each-map IsSent (Or e.seq) (with_response e.seq (response_on b)) es (answered e) h))

new-sent : (answer : ℕ → ℕ → ℕ) (w : Core) (ch : Choices) (es : List Entry) → Each IsSent es → Each IsSent (with_dispatch (dispatch_of answer w ch) es)
new-sent answer w ch es h = go ch.dispatch
  where
    go : (t : Bool) → Each IsSent (with_dispatch (cond t (Some (next_entry answer w ch)) None) es)
    go true = Each-push IsSent es (next_entry answer w ch) h (λ s. cc)
    go false = h

-- ---- how many are in flight

same-length : (n : ℕ) (g : Entry → Entry) (es : List Entry) → length es ≤ n → length (map g es) ≤ n
same-length n g es h = let l = length-map es g in omega (arith, l, h)

length-take_up : (n k : ℕ) (es : List Entry) → length es ≤ n → length (take k es) ≤ n
length-take_up n k es h = let l = length-take k es in omega (arith, l, h)

length-answered : (n : ℕ) (o : Option Entry) (b : Bus) (es : List Entry) → length es ≤ n → length (response_step o b es) ≤ n
length-answered n o b es h = go (is_issued b) o
  where
    go : (t : Bool) (o : Option Entry) → length (cond t (response_on_offer o b es) es) ≤ n
    go false o = h
    go true None = h
    go true (Some p) = same-length n (with_response p.seq (response_on b)) es h

length-sent : (n : ℕ) (o : Option Presented) (b : Bus) (es : List Entry) → length es ≤ n → length (sent_step o b es) ≤ n
length-sent n o b es h = go (is_given b) o
  where
    go : (t : Bool) (o : Option Presented) → length (cond t (sent_on_present o es) es) ≤ n
    go false o = h
    go true None = h
    go true (Some x) = same-length n (with_sent x.entry.seq) es h

length-released : (n : ℕ) (o : Option Entry) (es : List Entry) → length es ≤ n → length (release_step o es) ≤ n
length-released n None es h = h
length-released n (Some p) es h = same-length n _ es h

length-cut : (n : ℕ) (o : Option Cut) (es : List Entry) → length es ≤ n → length (cut_step o es) ≤ n
length-cut n None es h = h
length-cut n (Some c) es h = length-take_up n c.keep es h

length-drained : (n : ℕ) (o : Option ℕ) (es : List Entry) → length es ≤ n → length (drain_step o es) ≤ n
length-drained n None es h = h
length-drained n (Some k) es h = length-take_up n k es h

length-result : (n : ℕ) (b : Bus) (es : List Entry) → length es ≤ n → length (result_step b es) ≤ n
length-result n b es h = go (is_taken b) (find (holds_id b.result_id) es)
  where
    go : (t : Bool) (o : Option Entry) → length (cond t (result_for o b es) es) ≤ n
    go false o = h
    go true None = h
    go true (Some p) = same-length n (with_result p.seq _) es h

length-executed : (n : ℕ) (o : Option Executed) (es : List Entry) → length es ≤ n → length (execute_step o es) ≤ n
length-executed n None es h = h
length-executed n (Some x) es h = same-length n (with_outcome x.entry.seq x.outcome) es h

length-retired : (n : ℕ) (o : Option Entry) (es : List Entry) → length es ≤ n → length (retire_step o es) ≤ n - cond (is_some o) 1 0
length-retired n None es h = omega (arith, h)
length-retired n (Some p) es h = let l = length-drop 1 es in omega (arith, l, h)

-- from the cut on
pub length-late : (n : ℕ) (ch : Choices) (b : Bus) (es : List Entry) → length (kept_entries ch b es) ≤ n → length (settled_entries ch b es) ≤ n
length-late n ch b es h = weak n (cond (is_some ch.retire) 1 0) (length (settled_entries ch b es)) (length-retired n ch.retire _ (length-executed n ch.execute _ (length-result n b (kept_entries ch b es) h)))
  where
    weak : (n k l : ℕ) → l ≤ n - k → l ≤ n
    weak n k l q = omega arith

-- one less where one retires
pub length-settled : (n : ℕ) (ch : Choices) (b : Bus) (es : List Entry) → length es ≤ n → length (settled_entries ch b es) ≤ n - cond (is_some ch.retire) 1 0
length-settled n ch b es h =
    length-retired n ch.retire _ (length-executed n ch.execute _ (length-result n b _ (length-drained n ch.drain _ (length-cut n ch.cut _ (length-released n ch.release _ (length-sent n ch.present b _ (length-answered n ch.offer b es h)))))))

-- one is dispatched only where there is room
room-for : (w : Core) → (choices w).dispatch ≡ true → length w.flight < w.window
room-for w h = go w.mode h
  where
    by : (o : Option StopCause) → (choices_by w o).dispatch ≡ true → length w.flight < w.window
    by None k = ltb-true (length w.flight) w.window (and-left (nat_lt (length w.flight) w.window) _ k)
    by (Some cause) k = cc

    go : (mode : Mode) → (choices_in w mode).dispatch ≡ true → length w.flight < w.window
    go Running k = by (stop_at w.flight) k
    go DrainBegins k = cc
    go Draining k = cc

room-after : (answer : ℕ → ℕ → ℕ) (w : Core) (ch : Choices) (b : Bus) → (ch.dispatch ≡ true → length w.flight < w.window) → length w.flight ≤ w.window → length (with_dispatch (dispatch_of answer w ch) (settled_entries ch b w.flight)) ≤ w.window
room-after answer w ch b k h = go ch.dispatch k
  where
    settled : length (settled_entries ch b w.flight) ≤ length w.flight
    settled = let l = length-settled (length w.flight) ch b w.flight (omega arith) in fewer (length (settled_entries ch b w.flight)) (length w.flight) (cond (is_some ch.retire) 1 0) l
      where
        fewer : (a b c : ℕ) → a ≤ b - c → a ≤ b
        fewer a b c q = omega arith

    go : (t : Bool) → (t ≡ true → length w.flight < w.window) → length (with_dispatch (cond t (Some (next_entry answer w ch)) None) (settled_entries ch b w.flight)) ≤ w.window
    go true k = let l = length-append (settled_entries ch b w.flight) (next_entry answer w ch ∷ []) in let r = k refl in omega (arith, l, r, settled)
    go false k = omega (arith, settled, h)

-- ---- in a drain

no-offer : (b : Bus) (es : List Entry) → response_step None b es ≡ es
no-offer b es = go (is_issued b)
  where
    go : (t : Bool) → cond t es es ≡ es
    go true = refl
    go false = refl

taken-sent : (k : ℕ) (present : Option Presented) (b : Bus) (es : List Entry) → LastReleased (take k es) → LastReleased (take k (sent_step present b es))
taken-sent k present b es h = go (is_given b) present refl refl
  where
    go : (t : Bool) (o : Option Presented) → is_given b ≡ t → present ≡ o → LastReleased (take k (cond t (sent_on_present o es) es))
    go false o p q = h
    go true None p q = h
    go true (Some x) p q = subst LastReleased (sym (take-map (with_sent x.entry.seq) k es)) (subst (λ z. LastReleased z) (one p q) (last-sent present b (take k es) h))
      where
        one : is_given b ≡ true → present ≡ Some x → sent_step present b (take k es) ≡ map (with_sent x.entry.seq) (take k es)
        one p q = rw (p, q) refl

stay-released : (es : List Entry) → Pairs Before es → LastReleased (take (stay_with (youngest_released es) es) es)
stay-released es b = go (youngest_released es) refl
  where
    go : (o : Option Entry) → youngest_released es ≡ o → LastReleased (take (stay_with o es) es)
    go None h = tt
    go (Some p) h =
        let l = last-found (λ e. e.released) es p h in
        let b' : Pairs Before (l.older ++ p ∷ l.younger) = subst (Pairs Before) l.here b in
        subst (λ fs. LastReleased (take (count_through p.seq fs) fs)) (sym l.here) (subst LastReleased (sym (take-through l.older p l.younger b')) (last-taken l.older p l.passes))

last-after : (w : Core) (b : Bus) → Pairs Before w.flight → (w.mode ≡ Draining → LastReleased w.flight) → (mode : Mode) → w.mode ≡ mode → mode_after mode ≡ Draining → LastReleased (settled_entries (choices_in w mode) b w.flight)
last-after w b pairs h Running m d = cc
last-after w b pairs h DrainBegins m d =
    let k = stay_with (youngest_released w.flight) w.flight in
    let ch = choices_drain_begins w k in
    last-late ch b w.flight (taken-sent k ch.present b (response_step None b w.flight) (subst (λ l. LastReleased (take k l)) (sym (no-offer b w.flight)) (stay-released w.flight pairs)))
last-after w b pairs h Draining m d =
    let ch = choices_draining w (length w.flight) in
    last-late ch b w.flight (last-sent ch.present b (response_step None b w.flight) (subst LastReleased (sym (no-offer b w.flight)) (h m)))

last-pushed : (answer : ℕ → ℕ → ℕ) (w : Core) (mode : Mode) (es : List Entry) → mode_after mode ≡ Draining → LastReleased es → LastReleased (with_dispatch (dispatch_of answer w (choices_in w mode)) es)
last-pushed answer w Running es d h = cc
last-pushed answer w DrainBegins es d h = h
last-pushed answer w Draining es d h = h

-- ---- the units

units-stay : (set : List UnitTable) (hart : ℕ) (states : List (List (List ℕ))) (us : List Use) → 0 < length states → 0 < length (units_in_harts set hart states us)
units-stay set hart [] us h = h
units-stay set hart (s ∷ states) us h = omega arith

-- ---- every cycle

unless-split : (t x y : Bool) → t ≡ false → y ≡ true → cond t x y ≡ true
unless-split true x y h k = cc
unless-split false x y h k = k

pub steady-after : (d : ℕ) (answer : ℕ → ℕ → ℕ) (m : Machines) (input : CpuIn) → Paired 0 m → (choices m.core).stop ≡ None → Steady d m → Steady d (both_after 0 answer m (choices m.core) input)
steady-after d answer m input p z s =
    let w = m.core in
    let e = m.engine in
    let ch = choices m.core in
    let b = bus_for 0 m.engine (choices m.core) input in
    let so = sound m.core (facts_of 0 m p) z in
    let n = w.next_seq in
    let id = free_id w.flight in
    let order = sent-kept n id ch.present b _ (response-kept n id ch.offer b w.flight (start-kept w p.order)) in
    let pc = ahead_behind ch.cut w.ahead in
    let word = word_at (memory_behind ch.retire w.memory) pc in
    record {
      some = s.some;
      room = room-after answer w ch b (room-for w) s.room;
      entries = steady-pushed e.set e.params answer n id pc word ch.dispatch (settled_entries ch b w.flight) (steady-settled e.set e.params ch b w.flight (answers-for m ch input) so.offer p.order.pairs s.entries);
      shields = shields-pushed answer n id pc word ch.dispatch (settled_entries ch b w.flight) (shields-settled ch b w.flight so.offer p.order.pairs p.behind order.pairs s.shields);
      last = λ q. last-pushed answer w w.mode (settled_entries ch b w.flight) q (last-after w b p.order.pairs s.last w.mode refl q);
      sent = λ q. new-sent answer w ch (settled_entries ch b w.flight)
          (each-late IsSent ch b w.flight sent-goes (sent-both ch b w.flight (subst (λ t. Presents t w.flight ch.offer ch.present) q so.present) (given q (subst (λ t. Presents t w.flight ch.offer ch.present) q so.present)) (s.sent q)));
      uses = kept-settled e (cpu_for 0 ch) (engine_drive e (cpu_for 0 ch)) input p.below p.older (λ v q. carried-at e.result_waiting e.script.result e.cycle e.uses v p.results q) s.uses;
      units = units-stay e.set 0 e.units (ended_uses e (cpu_for 0 ch) (engine_drive e (cpu_for 0 ch)) input) s.units;
      core_script = s.core_script;
      engine_script = s.engine_script;
    }
  where
    some-present : (o : Option Entry) (x : Option Presented) → Presents false m.core.flight o x → is_some o ≡ true → is_some x ≡ true
    some-present None x q h = cc
    some-present (Some y) None q h = absurd q
    some-present (Some y) (Some x) q h = refl

    given : m.core.params.split ≡ false → Presents false m.core.flight (choices m.core).offer (choices m.core).present → is_issued (bus_for 0 m.engine (choices m.core) input) ≡ true → is_given (bus_for 0 m.engine (choices m.core) input) ≡ true
    given q ps i =
        let cpu = cpu_for 0 (choices m.core) in
        and-both (is_some (choices m.core).present) (register_ready m.engine cpu)
        (some-present (choices m.core).offer (choices m.core).present ps (and-left (is_some (choices m.core).offer) (issue_ready m.engine cpu) i))
        (unsplit (ap (λ x. x.split) (sym p.params) ∙ q) (and-right (is_some (choices m.core).offer) (issue_ready m.engine cpu) i))
      where
        unsplit : m.engine.params.split ≡ false → issue_ready m.engine (cpu_for 0 (choices m.core)) ≡ true → register_ready m.engine (cpu_for 0 (choices m.core)) ≡ true
        unsplit k i = unless-split m.engine.params.split _ (issue_ready m.engine (cpu_for 0 (choices m.core))) k i

pub steady-cycle : (d : ℕ) (answer : ℕ → ℕ → ℕ) (m : Machines) → Paired 0 m → (choices m.core).stop ≡ None → Steady d m → Steady d (cycle m 0 answer)
unfolding cycle
steady-cycle d answer m p z s = steady-after d answer m (input_at m 0) p z s

pub steady-start : (s : Setup) → 0 < s.window → 0 < s.params.num_harts → Steady (largest_of s.script) (new_machines s)
steady-start s w n = record {
  some = w;
  room = omega arith;
  entries = tt;
  shields = tt;
  last = λ q. tt;
  sent = λ q. tt;
  uses = tt;
  units = filled s.params.num_harts n;
  core_script = largest-bounds s.script;
  engine_script = largest-bounds s.script;
}
  where
    filled : (k : ℕ) → 0 < k → 0 < length (replicate k (zeros s.set))
    filled zero h = h
    filled (suc k) h = omega arith

pub steady-drain : (d : ℕ) (m : Machines) → Steady d m → Steady d (begins_drain m)
steady-drain d m s = record { some = s.some; room = s.room; entries = s.entries; shields = s.shields; last = λ q. cc; sent = s.sent; uses = s.uses; units = s.units; core_script = s.core_script; engine_script = s.engine_script }

pub steady-resumed : (d : ℕ) (m : Machines) → Steady d m → Steady d (resumes m)
steady-resumed d m s = record { some = s.some; room = s.room; entries = s.entries; shields = s.shields; last = λ q. cc; sent = s.sent; uses = s.uses; units = s.units; core_script = s.core_script; engine_script = s.engine_script }
