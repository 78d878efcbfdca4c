-- The result of the oldest entry in a cycle: none of what is left of it comes back, and it falls
-- once the entry is released and has sent its registers.
use Rattle.std.proofs.Common.{◌≡◌, ◌<◌, ◌≤◌, ◌==◌, ◌&&◌, ◌||◌, ◌+◌, ◌*◌, ◌⊎◌, inl, inr, ℕ, Bool, true, false, not, List, ◌∷◌, Option, Some, None, refl, sym, ap, ◌∙◌, subst, arith}
use Rattle.std.specs.Prelude.{find, is_some, is_none, IfSome, IsSome}
use Rattle.std.specs.Option.{option_map}
use Rattle.std.proofs.lemmas.Bool.{eq-eqb, ne_eqb, true≢false, le-leb}
use Rattle.xif_drive.specs.Scripts.{delay_of}
use Rattle.xif_signals.specs.declared.bus.Bus.{Bus}
use Rattle.xif_signals.specs.declared.bus.CpuIn.{CpuIn}
use Rattle.xif_session.specs.Facts.{is_accepted as is_response_accepted, is_released, is_killed}
use Rattle.cycle_spec.specs.declared.choices.Choices.{Choices}
use Rattle.cycle_spec.specs.declared.entry.Entry.{Entry}
use Rattle.cycle_spec.specs.declared.use_of.Use.{Use}
use Rattle.cycle_spec.specs.Flight.{holds_id, is_waiting, is_unknown, is_unknown_kind, is_stopping, reads_registers}
use Rattle.cycle_spec.specs.Core.{kept_entries, settled_entries}
use Rattle.cycle_spec.specs.Engine.{is_accepted, is_next, is_complete, has_operands, has_start, is_due, is_past_ready, offered_by, offered_use, use_or, register_read_of, engine_drive, ended_uses}
use Rattle.cycle_spec.specs.Cycle.{Machines}
use Rattle.cycle_lists.specs.Lists.{Each, Pairs}
use Rattle.cycle_lists.proofs.Tests.{and-left, and-right, and-both, not-both, not-in, not-out, false-or, or-false_left}
use Rattle.cycle_lists.proofs.Every.{Each-from, Each-both, Each-at, Each-front, Pairs-older}
use Rattle.cycle_lists.proofs.Places.{find-at}
use Rattle.cycle_paired.specs.Paired.{is_live, is_live_use, response_of, decision_of, Alike, IsUse, Older, Paired}
use Rattle.cycle_paired.proofs.Facts.{accepted-answered, ready-live}
use Rattle.cycle_paired.proofs.Lasting.{carried-at}
use Rattle.cycle_paired.proofs.Cycling.{cpu_for, half}
use Rattle.cycle_paired.proofs.Closing.{bus_for, both_after}
use Rattle.pace_laws.specs.Measure.{rest, take_turn, offer_rest, wait_of, ready_rest, result_rest, is_over}
use Rattle.pace_laws.proofs.Delays.{rest-bound, offer-bound}
use Rattle.pace_laws.proofs.Steps.{moved, for_result, lead-kept, lead-settled, kept_one, kept-goes, answered-leaves, done-comes}
use Rattle.pace_laws.proofs.Uses.{IsKept, kept-ended}
use Rattle.pace_laws.proofs.Chosen.{find-first}
use Rattle.pace_laws.proofs.Track.{Its, its-of, HasId, of-key, of-start, OtherStarts, SameReady, SameOrder, MayReady, ended-same, ended-order, start-apart, ready-same, ready-may, applied}
use Rattle.pace_laws.proofs.Results.{ended-joint, channel, Scene, moved_in, uses_in, unfinished-its, carries-its, offered-in, start-of}

-- at most, and less where a premise holds
pub record Drops (P : Type 0) (a b : ℕ) : Type 0 where
  pub most : a ≤ b
  pub less : P → a < b

-- ---- the use of the oldest entry is offered

before-starts : (answered : ℕ → Bool) (e : Entry) (us : List Use) (i : Its answered e us) → Pairs Older us → Each (λ x. has_start i.its.start x ≡ false) i.front
before-starts answered e us i older =
    Each-from (λ x. Older x i.its) (λ x. has_start i.its.start x ≡ false) i.front (λ x o. ne_eqb x.start i.its.start (λ q. let r = o.rises in omega (arith, r, q)))
    (Pairs-older Older i.front i.its i.back (subst (Pairs Older) i.here older))

offered-on : (m : Machines) (k : Paired 0 m) (e : Entry) (i : Its k.answered e m.engine.uses) → m.engine.result_waiting ≡ Some i.its.start → option_map (λ u. u.start) (offered_use m.engine) ≡ Some i.its.start
offered-on m k e i q =
    ap (λ o. option_map (λ u. u.start) (offered_by o m.engine.script.result m.engine.cycle m.engine.uses)) q
    ∙ ap (option_map (λ u. u.start)) (ap (find (has_start i.its.start)) i.here ∙ find-at (has_start i.its.start) i.front i.its i.back (before-starts k.answered e m.engine.uses i k.older) (eq-eqb i.its.start i.its.start refl))

past-some : (delay cycle : ℕ) (r : Option ℕ) → is_past_ready delay cycle r ≡ true → IsSome r
past-some delay cycle None h = cc
past-some delay cycle (Some k) h = refl

offered-due : (m : Machines) (k : Paired 0 m) (e : Entry) (i : Its k.answered e m.engine.uses) (r : ℕ) → i.its.ready ≡ Some r → m.engine.result_waiting ≡ None → wait_of r (delay_of m.engine.script.result i.its.order) m.engine.cycle ≡ 0
    → option_map (λ u. u.start) (offered_use m.engine) ≡ Some i.its.start
offered-due m k e i r ready q z =
    ap (λ o. option_map (λ u. u.start) (offered_by o m.engine.script.result m.engine.cycle m.engine.uses)) q
    ∙ ap (option_map (λ u. u.start)) (ap (find test) i.here ∙ find-at test i.front i.its i.back others due)
  where
    test : Use → Bool
    test = is_due m.engine.script.result m.engine.cycle

    others : Each (λ x. test x ≡ false) i.front
    others =
        Each-both (λ x. is_live_use k.answered x ≡ false) (IsUse k.answered) (λ x. test x ≡ false) i.front
        (λ x l ok. false-or (test x) (λ t. not-both (is_live_use k.answered x) l (ready-live k.answered x ok (past-some (delay_of m.engine.script.result x.order) m.engine.cycle x.ready (and-right (not x.finished) (is_past_ready (delay_of m.engine.script.result x.order) m.engine.cycle x.ready) t)) (not-in x.finished (and-left (not x.finished) (is_past_ready (delay_of m.engine.script.result x.order) m.engine.cycle x.ready) t)))))
        i.before (Each-front (IsUse k.answered) i.front (i.its ∷ i.back) (subst (Each (IsUse k.answered)) i.here k.uses))

    over : r + 1 + delay_of m.engine.script.result i.its.order ≤ m.engine.cycle
    over = by (delay_of m.engine.script.result i.its.order) z
      where
        by : (delay : ℕ) → wait_of r delay m.engine.cycle ≡ 0 → r + 1 + delay ≤ m.engine.cycle
        by delay z = omega arith

    due : test i.its ≡ true
    due =
        ap (λ t. not t && is_past_ready (delay_of m.engine.script.result i.its.order) m.engine.cycle i.its.ready) (unfinished-its k.answered e m.engine.uses i)
        ∙ ap (is_past_ready (delay_of m.engine.script.result i.its.order) m.engine.cycle) ready ∙ le-leb (r + 1 + delay_of m.engine.script.result i.its.order) m.engine.cycle over

-- ---- a result that is taken ends it

pub taken-done : (d : ℕ) (m : Machines) (ch : Choices) (input : CpuIn) (e : Entry) (c : Scene d m ch input e) (i : Its c.paired.answered e m.engine.uses) → option_map (λ u. u.start) (offered_use m.engine) ≡ Some i.its.start → input.result_ready ≡ true → (moved_in m ch input e).done ≡ true
taken-done d m ch input e c i q r = go (offered_use m.engine) refl
  where
    b : Bus
    b = bus_for 0 m.engine ch input

    one : (v : Use) → offered_use m.engine ≡ Some v → v ≡ i.its
    one v h = offered-in m.engine (λ v. v.start ≡ i.its.start → v ≡ i.its) v h (of-start c.paired.answered e m.engine.uses i c.paired.older) (start-of (offered_use m.engine) i.its.start q v h)

    go : (o : Option Use) → offered_use m.engine ≡ o → (moved_in m ch input e).done ≡ true
    go None h = absurd (none-some (sym (ap (option_map (λ u. u.start)) h) ∙ q))
      where
        none-some : None ≡ Some i.its.start → ⊥
        none-some z = cc
    go (Some v) h =
        let g = kept-goes ch b e in
        let a = answered-leaves ch.offer b e in
        let p = kept_one ch b e in
        let unknown : is_unknown p ≡ true = ap is_unknown_kind (g.kind ∙ a.kind) ∙ i.alike.unknown in
        let id : p.id ≡ b.result_id = g.id ∙ a.id ∙ sym i.alike.id ∙ ap (λ u. u.key.id) (sym (one v h)) ∙ ap (λ o. (use_or o).key.id) (sym h) in
        let found : for_result ch b m.core.flight ≡ Some p = find-first (holds_id b.result_id) (kept_entries ch b m.core.flight) p (lead-kept ch b m.core.flight e c.leads c.chosen.spares) (and-both (is_unknown p) (p.id == b.result_id) unknown (eq-eqb p.id b.result_id id)) in
        ap (λ o. (moved ch b o e).done) found ∙ done-comes ch b e p (g.seq ∙ a.seq) (ap (λ o. is_some o && input.result_ready) h ∙ r)

-- ---- what is left falls where there is a result

over-done : (e : Entry) → is_over e ≡ false → e.done ≡ true → ⊥
over-done e o h = not-both e.done (or-false_left e.done (is_stopping e) o) h

pub waits-little : (d r delay cycle : ℕ) → delay ≤ d → r < cycle → wait_of r delay cycle ≤ d
waits-little d r delay cycle h k = omega arith

form : (m : Machines) (d : ℕ) (u : Use) (s o r : ℕ) → u.start ≡ s → u.order ≡ o → u.ready ≡ Some r → result_rest m d (Some u) ≡ offer_rest d (rest m.core.script.take (take_turn m)) s m.engine.result_waiting (wait_of r (delay_of m.engine.script.result o) m.engine.cycle)
form m d u s o r h k q =
    ap (ready_rest m d u) q ∙ ap (λ x. offer_rest d (rest m.core.script.take (take_turn m)) x m.engine.result_waiting (wait_of r (delay_of m.engine.script.result u.order) m.engine.cycle)) h
    ∙ ap (λ x. offer_rest d (rest m.core.script.take (take_turn m)) s m.engine.result_waiting (wait_of r (delay_of m.engine.script.result x) m.engine.cycle)) k

ready-before : (d : ℕ) (m : Machines) (ch : Choices) (input : CpuIn) (e : Entry) (c : Scene d m ch input e) (i : Its c.paired.answered e m.engine.uses) (r : ℕ) → i.its.ready ≡ Some r → r < m.engine.cycle
ready-before d m ch input e c i r q = subst (λ o. IfSome o (λ r. r < m.engine.cycle)) q (Each-at (IsKept m.engine.cycle) m.engine.uses i.front i.its i.back i.here c.steady.uses).before

ready-falls : (d : ℕ) (answer : ℕ → ℕ → ℕ) (m : Machines) (ch : Choices) (input : CpuIn) (e : Entry) (c : Scene d m ch input e) (i : Its c.paired.answered e m.engine.uses) (r : ℕ) → i.its.ready ≡ Some r → is_over (moved_in m ch input e) ≡ false → (v : Use) → SameOrder i.its.start i.its.order (Some r) v
    → result_rest (both_after 0 answer m ch input) d (Some v) < result_rest m d (Some i.its)
ready-falls d answer m ch input e c i r q over v s =
    subst (λ n. n < result_rest m d (Some i.its)) (sym (form (both_after 0 answer m ch input) d v i.its.start i.its.order r s.0 s.1.0 s.1.1))
    (subst (λ n. offer_rest d (rest m.core.script.take (take_turn (both_after 0 answer m ch input))) i.its.start (both_after 0 answer m ch input).engine.result_waiting (wait_of r (delay_of m.engine.script.result i.its.order) (m.engine.cycle + 1)) < n) (sym (form m d i.its i.its.start i.its.order r refl refl q))
    (channel d i.its.start r (delay_of m.engine.script.result i.its.order) m.engine.cycle m.core.script.take m.core.result_turns m.engine.result_waiting (offered_use m.engine) input.result_ready c.steady.core_script.take
    (waits-little d r (delay_of m.engine.script.result i.its.order) m.engine.cycle (c.steady.engine_script.result i.its.order) (ready-before d m ch input e c i r q)) c.taken
    (offered-on m c.paired e i) (offered-due m c.paired e i r q) (λ z t. over-done (moved_in m ch input e) over (taken-done d m ch input e c i z t))))

-- ---- one without a result gets it

fresh-bound : (d : ℕ) (answer : ℕ → ℕ → ℕ) (m : Machines) (ch : Choices) (input : CpuIn) (e : Entry) → Scene d m ch input e → (v : Use) → v.ready ≡ Some m.engine.cycle → result_rest (both_after 0 answer m ch input) d (Some v) ≤ 3 * d + 2
fresh-bound d answer m ch input e c v q =
    let n = both_after 0 answer m ch input in
    let t = take_turn n in
    subst (λ k. k ≤ 3 * d + 2) (sym (form n d v v.start v.order m.engine.cycle refl refl q))
    (offer-bound d (rest m.core.script.take t) v.start (wait_of m.engine.cycle (delay_of m.engine.script.result v.order) (m.engine.cycle + 1)) n.engine.result_waiting (rest-bound d m.core.script.take t (c.steady.core_script.take t.number))
    (waits-little d m.engine.cycle (delay_of m.engine.script.result v.order) (m.engine.cycle + 1) (c.steady.engine_script.result v.order) (now m.engine.cycle)))
  where
    now : (c : ℕ) → c < c + 1
    now c = omega arith

unready-rest : (m : Machines) (d : ℕ) (u : Use) → u.ready ≡ None → result_rest m d (Some u) ≡ 3 * d + 3
unready-rest m d u q = ap (ready_rest m d u) q

complete-use : (e : Entry) (u : Use) → Alike 0 e u → e.released ≡ true → is_response_accepted e.response ≡ true → is_waiting e ≡ false → (is_accepted u ≡ true) × (is_complete u ≡ true)
complete-use e u a r acc w = (
  ap is_response_accepted (sym a.response) ∙ acc,
  and-both (is_released u.decision) (has_operands u) (ap is_released (a.decision ∙ ap decision_of r)) (operands u.given (register_read_of u.hit == 0) (ap is_response_accepted (sym a.response) ∙ acc) (sym (waits a.response a.given) ∙ w)),
)
  where
    waits : e.response ≡ Some (response_of u.hit) → u.given ≡ e.operands_sent → is_waiting e ≡ ((is_accepted u && not (register_read_of u.hit == 0)) && not u.given)
    waits h k = ap (λ o. reads_registers o && not e.operands_sent) h ∙ ap (λ t. reads_registers (Some (response_of u.hit)) && not t) (sym k)

    operands : (g z : Bool) → is_accepted u ≡ true → ((is_accepted u && not z) && not g) ≡ false → (g || z) ≡ true
    operands true z acc h = refl
    operands false true acc h = refl
    operands false false acc h = absurd (true≢false (sym (ap (λ t. (t && true) && true) acc) ∙ h))

becomes-ready : (d : ℕ) (m : Machines) (ch : Choices) (input : CpuIn) (e : Entry) (c : Scene d m ch input e) (i : Its c.paired.answered e m.engine.uses) → OtherStarts m.engine ch e.id → i.its.ready ≡ None → is_live (moved_in m ch input e) ≡ true
    → (moved_in m ch input e).id ≡ e.id → (moved_in m ch input e).released ≡ true → is_response_accepted (moved_in m ch input e).response ≡ true → is_waiting (moved_in m ch input e) ≡ false → Each (λ v. HasId e.id v → v.ready ≡ Some m.engine.cycle) (uses_in m ch input)
becomes-ready d m ch input e c i o q live id rel acc wait =
    let f = moved_in m ch input e in
    let cpu = cpu_for 0 ch in
    let cop = engine_drive m.engine (cpu_for 0 ch) in
    let us = ended_uses m.engine cpu cop input in
    let h = half 0 m ch c.paired c.sound in
    let j = ended-joint m ch input c.paired c.sound in
    let y = its-of h.answered (settled_entries ch (bus_for 0 m.engine ch input) m.core.flight) f us (lead-settled ch (bus_for 0 m.engine ch input) m.core.flight e c.leads c.chosen.spares c.chosen.retire) live j.older j.match in
    let kept = kept-ended m.engine cpu cop input c.paired.below c.paired.older (λ v z. carried-at m.engine.result_waiting m.engine.script.result m.engine.cycle m.engine.uses v c.paired.results z) c.steady.uses in
    let none : y.its.ready ≡ None = (Each-at (λ v. HasId e.id v → SameReady i.its.start None v) us y.front y.its y.back y.here (ended-same m.engine ch input e.id i.its.start None o (of-key c.paired.answered e m.engine.uses i (SameReady i.its.start None) c.paired.older (refl, q))) (y.alike.hart_is, y.alike.id ∙ id)).1 in
    let full = complete-use f y.its y.alike rel acc wait in
    let next : is_next 0 y.its ≡ true = and-both (y.its.key.hart == 0) (is_accepted y.its && (not (is_killed y.its.decision) && is_none y.its.ready)) (eq-eqb y.its.key.hart 0 y.alike.hart_is)
    (and-both (is_accepted y.its) (not (is_killed y.its.decision) && is_none y.its.ready) full.0 (and-both (not (is_killed y.its.decision)) (is_none y.its.ready) (unkilled h.answered y.its y.live) (ap is_none none))) in
    subst (λ k. Each (λ v. HasId k v → v.ready ≡ Some m.engine.cycle) (uses_in m ch input)) id
    (applied m.engine us h.answered f y j.older c.steady.units (Each-both (λ x. is_live_use h.answered x ≡ false) (λ x. IsUse h.answered x × IsKept m.engine.cycle x) (λ x. is_next 0 x ≡ false) y.front (λ x l k. passed h.answered m.engine.cycle x l k.0 k.1) y.before
    (Each-front (λ x. IsUse h.answered x × IsKept m.engine.cycle x) y.front (y.its ∷ y.back) (subst (Each (λ x. IsUse h.answered x × IsKept m.engine.cycle x)) y.here (Each-both (IsUse h.answered) (IsKept m.engine.cycle) (λ x. IsUse h.answered x × IsKept m.engine.cycle x) us (λ x a b. (a, b)) j.uses kept)))) next full.1)
  where
    unkilled : (answered : ℕ → Bool) (u : Use) → is_live_use answered u ≡ true → not (is_killed u.decision) ≡ true
    unkilled answered u l = and-left (not (is_killed u.decision)) (not u.finished) (and-right (answered u.start) (not (is_killed u.decision) && not u.finished) l)

    passed : (answered : ℕ → Bool) (c : ℕ) (x : Use) → is_live_use answered x ≡ false → IsUse answered x → IsKept c x → is_next 0 x ≡ false
    passed answered c x l ok kept =
        false-or (is_next 0 x) (λ n.
        let a = and-right (x.key.hart == 0) (is_accepted x && (not (is_killed x.decision) && is_none x.ready)) n in
        let b = and-right (is_accepted x) (not (is_killed x.decision) && is_none x.ready) a in
        let unready = not-in (is_some x.ready) (and-right (not (is_killed x.decision)) (is_none x.ready) b) in
        let unfinished : x.finished ≡ false = false-or x.finished (λ f. not-both (is_some x.ready) unready (kept.finished f)) in
        not-both (is_live_use answered x) l
        (and-both (answered x.start) (not (is_killed x.decision) && not x.finished) (accepted-answered answered x ok (and-left (is_accepted x) (not (is_killed x.decision) && is_none x.ready) a))
        (and-both (not (is_killed x.decision)) (not x.finished) (and-left (not (is_killed x.decision)) (is_none x.ready) b) (not-out x.finished unfinished))))

-- ---- both

-- its use after the cycle
pub record NextUse (d : ℕ) (answer : ℕ → ℕ → ℕ) (m : Machines) (ch : Choices) (input : CpuIn) (e : Entry) (its next : Use) : Type 0 where
  pub start : next.start ≡ its.start
  pub result : Drops (((moved_in m ch input e).released ≡ true) × (is_waiting (moved_in m ch input e) ≡ false)) (result_rest (both_after 0 answer m ch input) d (Some next)) (result_rest m d (Some its))

pub next-use : (d : ℕ) (answer : ℕ → ℕ → ℕ) (m : Machines) (ch : Choices) (input : CpuIn) (e : Entry) (c : Scene d m ch input e) (i : Its c.paired.answered e m.engine.uses) → OtherStarts m.engine ch e.id → is_live (moved_in m ch input e) ≡ true → (moved_in m ch input e).id ≡ e.id
    → is_response_accepted (moved_in m ch input e).response ≡ true → is_over (moved_in m ch input e) ≡ false → (answered : ℕ → Bool) (j : Its answered (moved_in m ch input e) (uses_in m ch input)) → NextUse d answer m ch input e i.its j.its
next-use d answer m ch input e c i o live id acc over answered j = go i.its.ready refl
  where
    us : List Use
    us = ended_uses m.engine (cpu_for 0 ch) (engine_drive m.engine (cpu_for 0 ch)) input

    key : HasId e.id j.its
    key = (j.alike.hart_is, j.alike.id ∙ id)

    at : (P : Use → Type 0) → Each (λ v. HasId e.id v → P v) (uses_in m ch input) → P j.its
    at P h = Each-at (λ v. HasId e.id v → P v) (uses_in m ch input) j.front j.its j.back j.here h key

    go : (r : Option ℕ) → i.its.ready ≡ r → NextUse d answer m ch input e i.its j.its
    go (Some r) q =
        let apart = start-apart m ch c.paired c.sound.offer i.its (carries-its c.paired.answered e m.engine.uses i (ap is_some q)) in
        let s = at (SameOrder i.its.start i.its.order (Some r)) (ready-same m.engine us e.id i.its.start i.its.order r
        (ended-order m.engine ch input e.id i.its.start i.its.order (Some r) o apart (of-key c.paired.answered e m.engine.uses i (SameOrder i.its.start i.its.order (Some r)) c.paired.older (refl, (refl, q))))) in
        let l = ready-falls d answer m ch input e c i r q over j.its s in
        record { start = s.0; result = record { most = weak _ _ l; less = λ p. l } }
      where
        weak : (a b : ℕ) → a < b → a ≤ b
        weak a b h = omega arith
    go None q =
        let s = at (MayReady i.its.start m.engine.cycle) (ready-may m.engine us e.id i.its.start (ended-same m.engine ch input e.id i.its.start None o (of-key c.paired.answered e m.engine.uses i (SameReady i.its.start None) c.paired.older (refl, q)))) in
        record {
          start = s.0;
          result = record {
            most = subst (λ n. result_rest (both_after 0 answer m ch input) d (Some j.its) ≤ n) (sym (unready-rest m d i.its q)) (most s.1);
            less = λ p. subst (λ n. result_rest (both_after 0 answer m ch input) d (Some j.its) < n) (sym (unready-rest m d i.its q))
                (under (result_rest (both_after 0 answer m ch input) d (Some j.its)) (fresh-bound d answer m ch input e c j.its (at (λ v. v.ready ≡ Some m.engine.cycle) (becomes-ready d m ch input e c i o q live id p.0 acc p.1))));
          };
        }
      where
        under : (a : ℕ) → a ≤ 3 * d + 2 → a < 3 * d + 3
        under a h = omega arith

        same : (a : ℕ) → a ≡ 3 * d + 3 → a ≤ 3 * d + 3
        same a h = omega (arith, h)

        upto : (a : ℕ) → a ≤ 3 * d + 2 → a ≤ 3 * d + 3
        upto a h = omega arith

        most : (j.its.ready ≡ None) ⊎ (j.its.ready ≡ Some m.engine.cycle) → result_rest (both_after 0 answer m ch input) d (Some j.its) ≤ 3 * d + 3
        most (inl z) = same _ (unready-rest (both_after 0 answer m ch input) d j.its z)
        most (inr z) = upto _ (fresh-bound d answer m ch input e c j.its z)
