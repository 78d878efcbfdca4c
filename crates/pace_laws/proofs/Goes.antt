-- In each cycle something retires, or the measure falls; in a drain what is in flight gets less, or
-- the measure falls.
use Rattle.std.proofs.Common.{◌≡◌, ◌<◌, ◌≤◌, ◌&&◌, ◌||◌, ◌+◌, ◌-◌, ◌*◌, ◌⊎◌, inl, inr, ℕ, zero, suc, Bool, true, false, cond, not, List, [], ◌∷◌, take, length, Option, Some, None, refl, sym, ap, ◌∙◌, subst, arith}
use Rattle.std.specs.Prelude.{is_some}
use Rattle.std.proofs.lemmas.Bool.{lt-ltb}
use Rattle.inorder_machine.specs.declared.stop.StopCause.{StopCause}
use Rattle.xif_signals.specs.declared.bus.Bus.{Bus}
use Rattle.xif_session.specs.Facts.{is_accepted as is_response_accepted, is_refused}
use Rattle.xif_session.specs.declared.fact.Response.{Response}
use Rattle.cycle_spec.specs.declared.choices.Mode.{Mode}
use Rattle.cycle_spec.specs.declared.choices.Mode.TheVariants.{Running, DrainBegins, Draining}
use Rattle.cycle_spec.specs.declared.entry.Entry.{Entry}
use Rattle.cycle_spec.specs.Flight.{is_open, is_stopping, is_safe, is_safe_kind, youngest_released}
use Rattle.cycle_spec.specs.State.{Core}
use Rattle.cycle_spec.specs.Choices.{stop_at, retirement, choices, choices_by, choices_in, choices_running, choices_draining, choices_drain_begins, stay_with}
use Rattle.cycle_spec.specs.Core.{settled_entries, with_dispatch, dispatch_of, next_entry}
use Rattle.cycle_spec.specs.Cycle.{Machines, input_at, cycle}
use Rattle.cycle_lists.specs.Lists.{Each, Pairs}
use Rattle.cycle_lists.proofs.Tests.{and-left, not-both, not-in, false-or}
use Rattle.cycle_lists.proofs.Every.{Each-both, Each-at}
use Rattle.cycle_lists.proofs.Places.{last-found}
use Rattle.cycle_paired.specs.Paired.{IsEntry, Behind, Paired}
use Rattle.cycle_paired.proofs.Facts.{accepted-some, some-closed, open-unsafe}
use Rattle.cycle_paired.proofs.Choosing.{sound}
use Rattle.cycle_paired.proofs.Cycling.{facts_of}
use Rattle.cycle_paired.proofs.Closing.{bus_for, both_after, cycle-paired}
use Rattle.pace_laws.specs.Measure.{oldest_rest, measure, is_over}
use Rattle.pace_laws.proofs.Steps.{Leads}
use Rattle.pace_laws.proofs.Steady.{Shields, LastIs, LastReleased}
use Rattle.pace_laws.proofs.Keeping.{Steady, steady-cycle, length-settled, length-late}
use Rattle.pace_laws.proofs.Chosen.{Chosen, Stays, Drains, running-chosen, drain-chosen}
use Rattle.pace_laws.proofs.Falling.{oldest-bound, falls}

pub cycle-is : (m : Machines) (answer : ℕ → ℕ → ℕ) → cycle m 0 answer ≡ both_after 0 answer m (choices m.core) (input_at m 0)
unfolding cycle
cycle-is m answer = refl

-- the cycle of a chosen scene
scene-falls : (d : ℕ) (answer : ℕ → ℕ → ℕ) (m : Machines) (e : Entry) → Paired 0 m → Steady d m → (choices m.core).stop ≡ None → Chosen m.core (choices m.core) e → Leads m.core.flight e → is_over e ≡ false → measure d (cycle m 0 answer) < measure d m
scene-falls d answer m e p s z c l o =
    subst (λ n. measure d n < measure d m) (sym (cycle-is m answer))
    (falls d answer m (choices m.core) (input_at m 0) e (record { paired = p; steady = s; sound = sound m.core (facts_of 0 m p) z; chosen = c; leads = l; over = o; taken = refl })
    (subst (Paired 0) (cycle-is m answer) (cycle-paired 0 m answer p z)) (subst (Steady d) (cycle-is m answer) (steady-cycle d answer m p z s)))

-- ---- running

record RunsOn (w : Core) : Type 0 where
  stop : stop_at w.flight ≡ None
  choices_are : choices w ≡ choices_running w

runs-on : (w : Core) → w.mode ≡ Running → (choices w).stop ≡ None → RunsOn w
runs-on w r z = by (stop_at w.flight) refl (sym (ap (λ t. (choices_in w t).stop) r) ∙ z)
  where
    by : (o : Option StopCause) → stop_at w.flight ≡ o → (choices_by w (stop_at w.flight)).stop ≡ None → RunsOn w
    by None q k = record { stop = q; choices_are = ap (choices_in w) r ∙ ap (choices_by w) q }
    by (Some cause) q k = absurd (stops (sym (ap (λ o. (choices_by w o).stop) q) ∙ k))
      where
        stops : Some cause ≡ None → ⊥
        stops h = cc

nothing : (l : List Entry) → length l ≤ 0 → l ≡ []
nothing [] h = refl
nothing (x ∷ xs) h = absurd (omega arith)

-- nothing is in flight: one is dispatched
empty-falls : (d : ℕ) (answer : ℕ → ℕ → ℕ) (m : Machines) → Paired 0 m → Steady d m → (choices m.core).stop ≡ None → choices m.core ≡ choices_running m.core → m.core.flight ≡ [] → measure d (cycle m 0 answer) < measure d m
empty-falls d answer m p s z q f =
    let w = m.core in
    let n = cycle m 0 answer in
    let steady : Steady d n = steady-cycle d answer m p z s in
    lower (measure d n) (measure d m) (ap (oldest_rest m d) f) (oldest-bound d n new steady (record { younger = []; here = ap (λ k. k.core.flight) (cycle-is m answer) ∙ one }))
  where
    lower : (a b : ℕ) → b ≡ 7 * d + 7 → a ≤ 7 * d + 6 → a < b
    lower a b x y = omega (arith, x, y)

    b : Bus
    b = bus_for 0 m.engine (choices m.core) (input_at m 0)

    new : Entry
    new = next_entry answer m.core (choices m.core)

    settled : settled_entries (choices m.core) b m.core.flight ≡ []
    settled = nothing (settled_entries (choices m.core) b m.core.flight) (weak (length (settled_entries (choices m.core) b m.core.flight)) (cond (is_some (choices m.core).retire) 1 0) (length-settled 0 (choices m.core) b m.core.flight (same (length m.core.flight) (ap length f))))
      where
        weak : (l k : ℕ) → l ≤ 0 - k → l ≤ 0
        weak l k h = omega arith

        same : (l : ℕ) → l ≡ 0 → l ≤ 0
        same l h = omega (arith, h)

    dispatches : (choices m.core).dispatch ≡ true
    dispatches = ap (λ c. c.dispatch) q ∙ free m.core.flight f
      where
        free : (l : List Entry) → l ≡ [] → (choices_running (record m.core { flight = l })).dispatch ≡ true
        free l h = subst (λ l. (choices_running (record m.core { flight = l })).dispatch ≡ true) (sym h) (ap (λ t. t && true) (lt-ltb 0 m.core.window s.some))

    one : with_dispatch (dispatch_of answer m.core (choices m.core)) (settled_entries (choices m.core) b m.core.flight) ≡ new ∷ []
    one = ap (with_dispatch (dispatch_of answer m.core (choices m.core))) settled ∙ ap (λ t. with_dispatch (cond t (Some new) None) []) dispatches

pub running-goes : (d : ℕ) (answer : ℕ → ℕ → ℕ) (m : Machines) → Paired 0 m → Steady d m → m.core.mode ≡ Running → (choices m.core).stop ≡ None → (is_some (choices m.core).retire ≡ true) ⊎ (measure d (cycle m 0 answer) < measure d m)
running-goes d answer m p s r z = by m.core.flight refl
  where
    on : RunsOn m.core
    on = runs-on m.core r z

    by : (l : List Entry) → m.core.flight ≡ l → (is_some (choices m.core).retire ≡ true) ⊎ (measure d (cycle m 0 answer) < measure d m)
    by [] f = inr (empty-falls d answer m p s z on.choices_are f)
    by (e ∷ es) f = one e.done refl
      where
        stop : e.stop ≡ None
        stop = sym (ap stop_at f) ∙ on.stop

        one : (t : Bool) → e.done ≡ t → (is_some (choices m.core).retire ≡ true) ⊎ (measure d (cycle m 0 answer) < measure d m)
        one true h = inl (ap (λ c. is_some c.retire) on.choices_are ∙ ap (λ l. is_some (retirement l)) f ∙ ap (λ t. is_some (cond t (Some e) None)) h)
        one false h =
            let over : is_over e ≡ false = ap (λ t. t || is_stopping e) h ∙ ap is_some stop in
            inr (scene-falls d answer m e p s z (subst (λ c. Chosen m.core c e) (sym on.choices_are) (running-chosen m.core e es f over p.entries p.order.pairs p.behind)) (record { younger = es; here = f }) over)

-- ---- a drain

-- an entry with a released one that is it or behind it
record Covered (e : Entry) : Type 0 where
  by : Entry
  it : (by ≡ e) ⊎ (Behind e by × Shields e by)
  released : by.released ≡ true

safe-runs : (e : Entry) → is_safe e ≡ true → is_stopping e ≡ false
safe-runs e h = not-in (is_stopping e) (and-left (not (is_stopping e)) (is_safe_kind e.kind e) h)

released-runs : (e : Entry) → IsEntry e → e.released ≡ true → is_stopping e ≡ false
released-runs e ok r =
    false-or (is_stopping e) (λ s. let a = ok.released r in not-both (is_response_accepted e.response) (refused e.response (ok.refused (ok.answered (accepted-some e.response a)) s)) a)
  where
    refused : (o : Option Response) → is_refused o ≡ true → is_response_accepted o ≡ false
    refused None h = cc
    refused (Some r) h = not-in r.accept h

covered-runs : (e : Entry) → IsEntry e → Covered e → is_stopping e ≡ false
covered-runs e ok c = by c.it
  where
    by : (c.by ≡ e) ⊎ (Behind e c.by × Shields e c.by) → is_stopping e ≡ false
    by (inl q) = released-runs e ok (ap (λ x. x.released) (sym q) ∙ c.released)
    by (inr k) = safe-runs e (k.0.safe c.released)

covered-stays : (e : Entry) → IsEntry e → Covered e → Stays e
covered-stays e ok c = by c.it
  where
    by : (c.by ≡ e) ⊎ (Behind e c.by × Shields e c.by) → Stays e
    by (inl q) =
        let r : e.released ≡ true = ap (λ x. x.released) (sym q) ∙ c.released in
        record { closed = some-closed e (accepted-some e.response (ok.released r)); released = λ a. r }
    by (inr k) = record { closed = false-or (is_open e) (λ o. not-both (is_safe e) (open-unsafe e o) (k.0.safe c.released)); released = λ a. k.1 c.released a }

-- those behind the first
places : (e : Entry) (es : List Entry) → Pairs Behind (e ∷ es) → Pairs Shields (e ∷ es) → Each (λ y. (y ≡ e) ⊎ (Behind e y × Shields e y)) (e ∷ es)
places e es b s = (inl refl, Each-both (Behind e) (Shields e) (λ y. (y ≡ e) ⊎ (Behind e y × Shields e y)) es (λ y a c. inr (a, c)) b.0 s.0)

last-covers : (e x : Entry) (xs : List Entry) → LastIs x xs → Each (λ y. (y ≡ e) ⊎ (Behind e y × Shields e y)) (x ∷ xs) → Covered e
last-covers e x [] h p = record { by = x; it = p.0; released = h }
last-covers e x (y ∷ ys) h p = last-covers e y ys h p.1

-- the choices of a drain, and how many it keeps
record DrainOf (m : Machines) : Type 0 where
  stay : ℕ
  drains : Drains m.core stay (choices m.core)
  dispatch : (choices m.core).dispatch ≡ false
  -- nothing stays, or each first entry is covered
  gone : stay ≡ 0 → length (settled_entries (choices m.core) (bus_for 0 m.engine (choices m.core) (input_at m 0)) m.core.flight) ≤ 0
  covers : (e : Entry) (es : List Entry) → m.core.flight ≡ e ∷ es → 0 < stay → Covered e

begins : (d : ℕ) (m : Machines) → Paired 0 m → Steady d m → m.core.mode ≡ DrainBegins → DrainOf m
begins d m p s q =
    let w = m.core in
    let k = stay_with (youngest_released w.flight) w.flight in
    let are : choices w ≡ choices_drain_begins w k = ap (choices_in w) q in
    record {
      stay = k;
      drains = subst (Drains w k) (sym are) (record { retire = refl; execute = refl; present = refl; cut = refl; drain = refl; offer = refl });
      dispatch = ap (λ c. c.dispatch) are;
      gone = λ z. subst (λ c. length (settled_entries c (bus_for 0 m.engine c (input_at m 0)) w.flight) ≤ 0) (sym are) (length-late 0 (choices_drain_begins w k) (bus_for 0 m.engine (choices_drain_begins w k) (input_at m 0)) w.flight (none k z _));
      covers = λ e es f pos. cover e es f (youngest_released w.flight) refl pos;
    }
  where
    none : (k : ℕ) → k ≡ 0 → (l : List Entry) → length (take k l) ≤ 0
    none k z l = subst (λ n. length (take n l) ≤ 0) (sym z) (omega arith)

    cover : (e : Entry) (es : List Entry) → m.core.flight ≡ e ∷ es → (o : Option Entry) → youngest_released m.core.flight ≡ o → 0 < stay_with o m.core.flight → Covered e
    cover e es f None h pos = absurd (omega arith)
    cover e es f (Some y) h pos =
        let l = last-found (λ x. x.released) m.core.flight y h in
        record {
          by = y;
          it = Each-at (λ y. (y ≡ e) ⊎ (Behind e y × Shields e y)) m.core.flight l.older y l.younger l.here
              (subst (Each (λ y. (y ≡ e) ⊎ (Behind e y × Shields e y))) (sym f) (places e es (subst (Pairs Behind) f p.behind) (subst (Pairs Shields) f s.shields)));
          released = l.passes;
        }

goes-on : (d : ℕ) (m : Machines) → Paired 0 m → Steady d m → m.core.mode ≡ Draining → DrainOf m
goes-on d m p s q =
    let w = m.core in
    let are : choices w ≡ choices_draining w (length w.flight) = ap (choices_in w) q in
    record {
      stay = length w.flight;
      drains = subst (Drains w (length w.flight)) (sym are) (record { retire = refl; execute = refl; present = refl; cut = refl; drain = tt; offer = refl });
      dispatch = ap (λ c. c.dispatch) are;
      gone = λ z. weak _ _ (length-settled 0 (choices w) (bus_for 0 m.engine (choices w) (input_at m 0)) w.flight (same (length w.flight) z));
      covers = λ e es f pos. last-covers e e es (subst LastReleased f (s.last q)) (places e es (subst (Pairs Behind) f p.behind) (subst (Pairs Shields) f s.shields));
    }
  where
    weak : (l k : ℕ) → l ≤ 0 - k → l ≤ 0
    weak l k h = omega arith

    same : (l : ℕ) → l ≡ 0 → l ≤ 0
    same l h = omega (arith, h)

-- what a cycle of a drain does
pub record Drained (d : ℕ) (m n : Machines) : Type 0 where
  pub fewer : length n.core.flight ≤ length m.core.flight
  pub goes : (length n.core.flight < length m.core.flight) ⊎ (measure d n < measure d m)

drained-by : (d : ℕ) (answer : ℕ → ℕ → ℕ) (m : Machines) (e : Entry) (es : List Entry) → Paired 0 m → Steady d m → (choices m.core).stop ≡ None → m.core.flight ≡ e ∷ es → DrainOf m → Drained d m (cycle m 0 answer)
drained-by d answer m e es p s z f o = record {
  fewer = most (length n.core.flight) (length m.core.flight) (cond (is_some (choices m.core).retire) 1 0) settled;
  goes = by o.stay refl e.done refl;
}
  where
    n : Machines
    n = cycle m 0 answer

    b : Bus
    b = bus_for 0 m.engine (choices m.core) (input_at m 0)

    flight : n.core.flight ≡ settled_entries (choices m.core) b m.core.flight
    flight = ap (λ k. k.core.flight) (cycle-is m answer) ∙ ap (λ t. with_dispatch (cond t (Some (next_entry answer m.core (choices m.core))) None) (settled_entries (choices m.core) b m.core.flight)) o.dispatch

    self : (a : ℕ) → a ≤ a
    self a = omega arith

    settled : length n.core.flight ≤ length m.core.flight - cond (is_some (choices m.core).retire) 1 0
    settled = subst (λ l. length l ≤ length m.core.flight - cond (is_some (choices m.core).retire) 1 0) (sym flight) (length-settled (length m.core.flight) (choices m.core) b m.core.flight (self (length m.core.flight)))

    most : (a x k : ℕ) → a ≤ x - k → a ≤ x
    most a x k h = omega arith

    some : length m.core.flight ≡ length es + 1
    some = ap length f ∙ long es
      where
        long : (l : List Entry) → length (e ∷ l) ≡ length l + 1
        long l = omega arith

    none-left : (a x y : ℕ) → a ≤ 0 → x ≡ y + 1 → a < x
    none-left a x y h k = omega (arith, h, k)

    one-less : (a x y : ℕ) → a ≤ x - 1 → x ≡ y + 1 → a < x
    one-less a x y h k = omega (arith, h, k)

    retires : (k : ℕ) → Drains m.core (suc k) (choices m.core) → e.done ≡ true → is_some (choices m.core).retire ≡ true
    retires k r h = ap is_some (r.retire ∙ ap (λ l. retirement (take (suc k) l)) f) ∙ ap (λ t. is_some (cond t (Some e) None)) h

    by : (k : ℕ) → o.stay ≡ k → (t : Bool) → e.done ≡ t → (length n.core.flight < length m.core.flight) ⊎ (measure d n < measure d m)
    by zero q t h = inl (none-left (length n.core.flight) (length m.core.flight) (length es) (subst (λ l. length l ≤ 0) (sym flight) (o.gone q)) some)
    by (suc k) q true h =
        inl (one-less (length n.core.flight) (length m.core.flight) (length es) (subst (λ t. length n.core.flight ≤ length m.core.flight - cond t 1 0) (retires k (subst (λ x. Drains m.core x (choices m.core)) q o.drains) h) settled) some)
    by (suc k) q false h =
        let pos : 0 < o.stay = subst (λ x. 0 < x) (sym q) (omega arith) in
        let ok : IsEntry e = (subst (Each IsEntry) f p.entries).0 in
        let c = o.covers e es f pos in
        let over : is_over e ≡ false = ap (λ t. t || is_stopping e) h ∙ covered-runs e ok c in
        inr (scene-falls d answer m e p s z (drain-chosen m.core o.stay (choices m.core) e (record { younger = es; here = f }) pos o.drains over (covered-stays e ok c)) (record { younger = es; here = f }) over)

drain-of : (d : ℕ) (m : Machines) → Paired 0 m → Steady d m → (mode : Mode) → m.core.mode ≡ mode → (mode ≡ Running → ⊥) → DrainOf m
drain-of d m p s Running q n = absurd (n refl)
drain-of d m p s DrainBegins q n = begins d m p s q
drain-of d m p s Draining q n = goes-on d m p s q

-- a drain doesn't stop the machine
pub drain-on : (w : Core) → (mode : Mode) → w.mode ≡ mode → (mode ≡ Running → ⊥) → (choices w).stop ≡ None
drain-on w Running q n = absurd (n refl)
drain-on w DrainBegins q n = ap (λ t. (choices_in w t).stop) q
drain-on w Draining q n = ap (λ t. (choices_in w t).stop) q

pub draining-goes : (d : ℕ) (answer : ℕ → ℕ → ℕ) (m : Machines) (e : Entry) (es : List Entry) → Paired 0 m → Steady d m → (m.core.mode ≡ Running → ⊥) → m.core.flight ≡ e ∷ es → Drained d m (cycle m 0 answer)
draining-goes d answer m e es p s r f = drained-by d answer m e es p s (drain-on m.core m.core.mode refl r) f (drain-of d m p s m.core.mode refl r)
