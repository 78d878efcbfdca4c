-- The use of the oldest entry, before and after a cycle.
use Rattle.std.proofs.Common.{◌≡◌, ◌≢◌, ◌<◌, ◌==◌, ◌&&◌, ◌++◌, ◌⊎◌, inl, inr, ℕ, Bool, true, false, cond, not, List, [], ◌∷◌, filter, length, Option, Some, None, refl, sym, ap, ◌∙◌, subst, arith}
use Rattle.std.specs.Prelude.{is_some, is_none, IfSome}
use Rattle.std.specs.Option.{option_map_or}
use Rattle.std.proofs.lemmas.Bool.{ne_eqb, false≢true}
use Rattle.coproc_config.specs.Set.{UnitTable}
use Rattle.xif_signals.specs.declared.bus.CpuIn.{CpuIn}
use Rattle.xif_session.specs.Facts.{is_killed}
use Rattle.cycle_spec.specs.declared.choices.Choices.{Choices}
use Rattle.cycle_spec.specs.declared.entry.Entry.{Entry}
use Rattle.cycle_spec.specs.declared.use_of.Use.{Use}
use Rattle.cycle_spec.specs.Flight.{is_open, free_id}
use Rattle.cycle_spec.specs.State.{Engine}
use Rattle.cycle_spec.specs.Core.{id_in, word_in}
use Rattle.cycle_spec.specs.Engine.{issue_key, latest, starts, goes_on, issue_start, engine_drive, ended_uses, is_accepted, is_next, is_complete, outcome_of, with_ready, ready_uses, ready_in_harts}
use Rattle.cycle_spec.specs.Cycle.{Machines, hart_if}
use Rattle.cycle_lists.specs.Lists.{Each, Pairs, FirstAt}
use Rattle.cycle_lists.proofs.Tests.{and-left, and-right, not-both}
use Rattle.cycle_lists.proofs.Every.{Each-from, Each-append, Pairs-older, Pairs-younger}
use Rattle.cycle_paired.specs.Paired.{is_live, live_entries, is_live_use, live_uses, Alike, Match, Older, Paired}
use Rattle.cycle_paired.proofs.Carrying.{Carries}
use Rattle.cycle_paired.proofs.Matching.{found, latest-at}
use Rattle.cycle_paired.proofs.Starting.{OffersWord, starting}
use Rattle.cycle_paired.proofs.Cycling.{joint_of, cpu_for}
use Rattle.pace_laws.specs.Measure.{key_of, start_in}
use Rattle.pace_laws.proofs.Steps.{Leads}
use Rattle.pace_laws.proofs.Uses.{each-up, each-end, each-ready}

-- ---- the use of the oldest live entry

pub record Its (answered : ℕ → Bool) (e : Entry) (us : List Use) : Type 0 where
  pub front : List Use
  pub its : Use
  pub back : List Use
  pub here : us ≡ front ++ its ∷ back
  pub alike : Alike 0 e its
  pub latest_is : latest (key_of e) us ≡ Some its
  pub live : is_live_use answered its ≡ true
  pub before : Each (λ x. is_live_use answered x ≡ false) front

none-pass : (test : Use → Bool) (us : List Use) → Match 0 [] (filter test us) → Each (λ u. test u ≡ false) us
none-pass test [] m = tt
none-pass test (u ∷ us) m = by (test u) refl m (λ k. none-pass test us k)
  where
    by : (t : Bool) → test u ≡ t → Match 0 [] (cond t (u ∷ filter test us) (filter test us)) → (Match 0 [] (filter test us) → Each (λ u. test u ≡ false) us) → Each (λ u. test u ≡ false) (u ∷ us)
    by true q m k = absurd m
    by false q m k = (q, k m)

pub its-of : (answered : ℕ → Bool) (es : List Entry) (e : Entry) (us : List Use) → Leads es e → is_live e ≡ true → Pairs Older us → Match 0 (live_entries es) (live_uses answered us) → Its answered e us
its-of answered es e us l live older m =
    let f = found 0 answered [] e l.younger us live older (subst (λ x. Match 0 (live_entries x) (live_uses answered us)) l.here m) in
    record { front = f.front; its = f.partner; back = f.back; here = f.here; alike = f.alike; latest_is = f.is_it; live = f.live_is; before = none-pass (is_live_use answered) f.front f.lefts }

pub start-its : (answered : ℕ → Bool) (m : Machines) (e : Entry) (i : Its answered e m.engine.uses) → start_in m e ≡ i.its.start
start-its answered m e i = ap (λ o. option_map_or (λ u. u.start) o m.engine.cycle) i.latest_is

-- ---- of the uses with its key

abbrev pub HasId : ℕ → Use → Type 0
HasId id u = (u.key.hart ≡ 0) × (u.key.id ≡ id)

-- it is the only one
pub of-key : (answered : ℕ → Bool) (e : Entry) (us : List Use) (i : Its answered e us) (P : Use → Type 0) → Pairs Older us → P i.its → Each (λ v. HasId e.id v → P v) us
of-key answered e us i P older p =
    let pairs : Pairs Older (i.front ++ i.its ∷ i.back) = subst (Pairs Older) i.here older in
    subst (Each (λ v. HasId e.id v → P v)) (sym i.here)
    (Each-append (λ v. HasId e.id v → P v) i.front (i.its ∷ i.back)
    (Each-from (λ x. Older x i.its) (λ v. HasId e.id v → P v) i.front (λ x o h. absurd (o.apart (h.0 ∙ sym i.alike.hart_is) (h.1 ∙ sym i.alike.id))) (Pairs-older Older i.front i.its i.back pairs))
    (λ h. p, Each-from (Older i.its) (λ v. HasId e.id v → P v) i.back (λ x o h. absurd (o.apart (i.alike.hart_is ∙ sym h.0) (i.alike.id ∙ sym h.1))) (Pairs-younger Older i.front i.its i.back pairs)))

-- and the only one of its start
pub of-start : (answered : ℕ → Bool) (e : Entry) (us : List Use) (i : Its answered e us) → Pairs Older us → Each (λ v. v.start ≡ i.its.start → v ≡ i.its) us
of-start answered e us i older =
    let pairs : Pairs Older (i.front ++ i.its ∷ i.back) = subst (Pairs Older) i.here older in
    subst (Each (λ v. v.start ≡ i.its.start → v ≡ i.its)) (sym i.here)
    (Each-append (λ v. v.start ≡ i.its.start → v ≡ i.its) i.front (i.its ∷ i.back)
    (Each-from (λ x. Older x i.its) (λ v. v.start ≡ i.its.start → v ≡ i.its) i.front (λ x o q. absurd (let r = o.rises in omega (arith, r, q))) (Pairs-older Older i.front i.its i.back pairs))
    (λ q. refl, Each-from (Older i.its) (λ v. v.start ≡ i.its.start → v ≡ i.its) i.back (λ x o q. absurd (let r = o.rises in omega (arith, r, q))) (Pairs-younger Older i.front i.its i.back pairs)))

-- ---- through the steps up to the end

-- no other word of its key starts
abbrev pub OtherStarts : Engine → Choices → (id : ℕ) → Type 0
OtherStarts e ch id = IfSome ch.offer (λ p. p.id ≢ id)

pub not-new : (e : Engine) (ch : Choices) (id : ℕ) → OtherStarts e ch id → starts e (cpu_for 0 ch) ≡ true → id_in ch.offer ≡ id → ⊥
not-new e ch id h s q = go ch.offer h (and-left (is_some ch.offer) (not (goes_on e (cpu_for 0 ch))) s) q
  where
    go : (o : Option Entry) → IfSome o (λ p. p.id ≢ id) → is_some o ≡ true → id_in o ≡ id → ⊥
    go None k s q = false≢true s
    go (Some p) k s q = k q

abbrev pub SameReady : (start : ℕ) (ready : Option ℕ) → Use → Type 0
SameReady start ready v = (v.start ≡ start) × (v.ready ≡ ready)

pub ended-same : (e : Engine) (ch : Choices) (input : CpuIn) (id start : ℕ) (ready : Option ℕ) → OtherStarts e ch id → Each (λ v. HasId id v → SameReady start ready v) e.uses
    → Each (λ v. HasId id v → SameReady start ready v) (ended_uses e (cpu_for 0 ch) (engine_drive e (cpu_for 0 ch)) input)
ended-same e ch input id start ready o h =
    let P = λ (v : Use). HasId id v → SameReady start ready v in
    each-end P e (cpu_for 0 ch) (engine_drive e (cpu_for 0 ch)) input (λ v q u p k. p k)
    (each-up P e (cpu_for 0 ch) (engine_drive e (cpu_for 0 ch)) (λ u v l p k. let s = p (ap (λ x. x.hart) (sym l.key) ∙ k.0, ap (λ x. x.id) (sym l.key) ∙ k.1) in (l.start ∙ s.0, l.ready ∙ s.1))
    (λ s k. absurd (not-new e ch id o s k.1)) (λ a u p k. p k) h)

-- with its number
abbrev pub SameOrder : (start order : ℕ) (ready : Option ℕ) → Use → Type 0
SameOrder start order ready v = (v.start ≡ start) × ((v.order ≡ order) × (v.ready ≡ ready))

pub ended-order : (e : Engine) (ch : Choices) (input : CpuIn) (id start order : ℕ) (ready : Option ℕ) → OtherStarts e ch id → (is_some ch.offer ≡ true → start ≢ issue_start e (cpu_for 0 ch)) → Each (λ v. HasId id v → SameOrder start order ready v) e.uses
    → Each (λ v. HasId id v → SameOrder start order ready v) (ended_uses e (cpu_for 0 ch) (engine_drive e (cpu_for 0 ch)) input)
ended-order e ch input id start order ready o apart h =
    let P = λ (v : Use). HasId id v → SameOrder start order ready v in
    let cpu = cpu_for 0 ch in
    let cop = engine_drive e (cpu_for 0 ch) in
    each-end P e cpu cop input (λ v q u p k. p k)
    (each-up P e cpu cop (λ u v l p k. let s = p (ap (λ x. x.hart) (sym l.key) ∙ k.0, ap (λ x. x.id) (sym l.key) ∙ k.1) in (l.start ∙ s.0, (l.order ∙ s.1.0, l.ready ∙ s.1.1)))
    (λ s k. absurd (not-new e ch id o s k.1)) (λ a u p k. let s = p k in (s.0, (ap (λ t. cond t e.accepted u.order) (ne_eqb u.start (issue_start e cpu) (λ q. apart (and-left (is_some ch.offer) cop.issue_ready a) (sym s.0 ∙ q))) ∙ s.1.0, s.1.1))) h)

-- the word that is offered has another start than a use with a result
pub start-apart : (m : Machines) (ch : Choices) → Paired 0 m → IfSome ch.offer (FirstAt is_open m.core.flight) → (u : Use) → Carries u m.engine.uses → is_some ch.offer ≡ true → u.start ≢ issue_start m.engine (cpu_for 0 ch)
start-apart m ch k f u c s = go ch.offer refl f s
  where
    go : (o : Option Entry) → ch.offer ≡ o → IfSome o (FirstAt is_open m.core.flight) → is_some o ≡ true → u.start ≢ issue_start m.engine (cpu_for 0 ch)
    go None h f s = absurd (false≢true s)
    go (Some p) h f s =
        let cpu = cpu_for 0 ch in
        let word : OffersWord 0 cpu p = record { valid = ap is_some h; hart_is = ap (λ o. hart_if (is_some o) 0) h; id_is = ap id_in h; word_is = ap word_in h } in
        let a = starting 0 m.core.next_seq (free_id m.core.flight) m.engine.cycle k.answered m.engine.issue_turns.waiting cpu m.core.flight p m.engine.uses word f k.offers (joint_of 0 m k) in
        let same : issue_start m.engine cpu ≡ a.new.start =
        ap (λ o. option_map_or (λ u. u.start) o m.engine.cycle) (ap (latest (issue_key cpu)) a.here ∙ latest-at a.front a.new [] cpu.issue_hartid cpu.issue_id (a.hart_is ∙ sym word.hart_is) (a.id_is ∙ sym word.id_is) tt) in
        λ q. a.apart u c (q ∙ same)

-- ---- through the application

-- of a use that is next nothing is said but what the application makes of it
pub ready-same : (e : Engine) (us : List Use) (id start order r : ℕ) → Each (λ v. HasId id v → SameOrder start order (Some r) v) us → Each (λ v. HasId id v → SameOrder start order (Some r) v) (ready_in_harts e.set e.cycle 0 e.units us)
ready-same e us id start order r h =
    each-ready (λ v. HasId id v → SameOrder start order (Some r) v) e.set e.cycle 0 e.units us (λ hart result u n p k. absurd (not-both (is_none u.ready) (ap is_none (p k).1.1) (unready hart u n))) h
  where
    unready : (hart : ℕ) (u : Use) → is_next hart u ≡ true → is_none u.ready ≡ true
    unready hart u n = and-right (not (is_killed u.decision)) (is_none u.ready) (and-right (is_accepted u) (not (is_killed u.decision) && is_none u.ready) (and-right (u.key.hart == hart) (is_accepted u && (not (is_killed u.decision) && is_none u.ready)) n))

abbrev pub MayReady : (start c : ℕ) → Use → Type 0
MayReady start c v = (v.start ≡ start) × ((v.ready ≡ None) ⊎ (v.ready ≡ Some c))

pub ready-may : (e : Engine) (us : List Use) (id start : ℕ) → Each (λ v. HasId id v → SameReady start None v) us → Each (λ v. HasId id v → MayReady start e.cycle v) (ready_in_harts e.set e.cycle 0 e.units us)
ready-may e us id start h =
    each-ready (λ v. HasId id v → MayReady start e.cycle v) e.set e.cycle 0 e.units us (λ hart result u n p k. ((p k).0, inr refl))
    (Each-from (λ v. HasId id v → SameReady start None v) (λ v. HasId id v → MayReady start e.cycle v) us (λ v p k. ((p k).0, inl (p k).1)) h)

-- ---- a complete use becomes ready

each-one : (set : List UnitTable) (c : ℕ) (state : List (List ℕ)) (us : List Use) (P : Use → Type 0) → ((result : ℕ) (v : Use) → is_next 0 v ≡ true → P v → P (with_ready c result v)) → Each P us → Each P (ready_uses set c 0 state us)
each-one set c state [] P r h = tt
each-one set c state (u ∷ us) P r h = go (is_next 0 u) (is_complete u) refl (each-one set c state us P r h.1) (each-one set c (outcome_of set state u).state us P r h.1)
  where
    go : (a b : Bool) → is_next 0 u ≡ a → Each P (ready_uses set c 0 state us) → Each P (ready_uses set c 0 (outcome_of set state u).state us)
        → Each P (cond (not a) (u ∷ ready_uses set c 0 state us) (cond b (with_ready c (outcome_of set state u).result u ∷ ready_uses set c 0 (outcome_of set state u).state us) (u ∷ us)))
    go false b p x y = (h.0, x)
    go true true p x y = (r (outcome_of set state u).result u p h.0, y)
    go true false p x y = h

ready-at : (set : List UnitTable) (c : ℕ) (state : List (List ℕ)) (front : List Use) (u : Use) (back : List Use) (P : Use → Type 0) → Each (λ x. is_next 0 x ≡ false) front → is_next 0 u ≡ true → is_complete u ≡ true
    → Each P front → Each P back → ((result : ℕ) (v : Use) → is_next 0 v ≡ true → P v → P (with_ready c result v)) → ((result : ℕ) → P (with_ready c result u)) → Each P (ready_uses set c 0 state (front ++ u ∷ back))
ready-at set c state [] u back P f n k pf pb r i =
    rw (n, k) (i (outcome_of set state u).result, each-one set c (outcome_of set state u).state back P r pb)
ready-at set c state (x ∷ xs) u back P f n k pf pb r i = rw f.0 (pf.0, ready-at set c state xs u back P f.1 n k pf.1 pb r i)

pub applied : (e : Engine) (us : List Use) (answered : ℕ → Bool) (y : Entry) (i : Its answered y us) → Pairs Older us → 0 < length e.units → Each (λ x. is_next 0 x ≡ false) i.front → is_next 0 i.its ≡ true → is_complete i.its ≡ true
    → Each (λ v. HasId y.id v → v.ready ≡ Some e.cycle) (ready_in_harts e.set e.cycle 0 e.units us)
applied e us answered y i older some before next complete = go e.units some
  where
    P : Use → Type 0
    P v = HasId y.id v → v.ready ≡ Some e.cycle

    parts : Each P i.front × Each P i.back
    parts =
        let pairs : Pairs Older (i.front ++ i.its ∷ i.back) = subst (Pairs Older) i.here older in (
          Each-from (λ x. Older x i.its) P i.front (λ x o h. absurd (o.apart (h.0 ∙ sym i.alike.hart_is) (h.1 ∙ sym i.alike.id))) (Pairs-older Older i.front i.its i.back pairs),
          Each-from (Older i.its) P i.back (λ x o h. absurd (o.apart (i.alike.hart_is ∙ sym h.0) (i.alike.id ∙ sym h.1))) (Pairs-younger Older i.front i.its i.back pairs),
        )

    go : (states : List (List (List ℕ))) → 0 < length states → Each P (ready_in_harts e.set e.cycle 0 states us)
    go [] s = absurd (omega arith)
    go (state ∷ states) s =
        each-ready P e.set e.cycle 1 states (ready_uses e.set e.cycle 0 state us) (λ hart result u n p k. refl)
        (subst (λ l. Each P (ready_uses e.set e.cycle 0 state l)) (sym i.here) (ready-at e.set e.cycle state i.front i.its i.back P before next complete parts.0 parts.1 (λ result v n p k. refl) (λ result k. refl)))
