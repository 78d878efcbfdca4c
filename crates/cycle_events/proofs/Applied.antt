-- The units compute the uses that are complete: each is an event.
use Rattle.std.proofs.Common.{◌≡◌, ◌≢◌, ◌==◌, ◌&&◌, ◌||◌, ◌⊎◌, ◌++◌, ℕ, Bool, true, false, cond, not, List, [], ◌∷◌, Option, Some, None, refl, sym, ap, ◌∙◌, subst, append_assoc, inl, inr}
use Rattle.std.specs.Prelude.{is_some, is_none, IsSome, ⊤}
use Rattle.std.proofs.lemmas.Bool.{eqb-true, eq-eqb}
use Rattle.xif_base.specs.Params.{IsInRange}
use Rattle.coproc_config.specs.Apply.{Outcome}
use Rattle.inorder_machine.specs.Machine.{Extension, State}
use Rattle.xif_session.specs.declared.fact.Decision.{Decision}
use Rattle.xif_session.specs.declared.fact.Decision.TheVariants.{Undecided}
use Rattle.xif_session.specs.declared.fact.Response.{Response}
use Rattle.xif_session.specs.Facts.{is_accepted as is_response_accepted, is_released, is_killed}
use Rattle.cycle_spec.specs.declared.entry.Entry.{Entry}
use Rattle.cycle_spec.specs.declared.use_of.Use.{Use}
use Rattle.cycle_spec.specs.Flight.{is_unknown}
use Rattle.cycle_spec.specs.Engine.{is_accepted, register_read_of, has_operands, is_complete, is_next, outcome_of, outcome_by, with_ready, ready_uses, units_behind}
use Rattle.cycle_lists.specs.Lists.{Each, Pairs}
use Rattle.cycle_lists.proofs.Tests.{and-left, and-right, not-in, not-both, false-or, true-or}
use Rattle.cycle_lists.proofs.Every.{Each-from, Each-both, Each-at, Each-here, Each-append, Each-front, Each-back, Each-filter, Each-passed, Each-unfilter, Pairs-older, Pairs-younger}
use Rattle.cycle_lists.proofs.Filters.{filter-at, unfilter}
use Rattle.cycle_paired.specs.Paired.{is_live, live_entries, is_live_use, live_uses, decision_of, Alike, Match, IsEntry, IsUse, Older}
use Rattle.cycle_paired.proofs.Facts.{accepted-answered}
use Rattle.cycle_paired.proofs.Matching.{joined}
use Rattle.cycle_paired.proofs.Applying.{Readied, AllReadied, all-itself, all-uses, all-older, all-match}
use Rattle.ahead_spec.specs.Walk.{Item, entries, path_end}
use Rattle.ahead_spec.specs.Operands.{halves_read, applied_to}
use Rattle.ahead_spec.specs.World.{World, Spot, Applies}
use Rattle.ahead_spec.specs.Guards.{MayApply}
use Rattle.ahead_spec.specs.Invariant.{Agrees, RunsAhead}
use Rattle.ahead_laws.proofs.Walks.{walked-each}
use Rattle.ahead_laws.proofs.Retiring.{keeps}
use Rattle.cycle_lists.specs.Order.{Before}
use Rattle.cycle_events.specs.Becomes.{Becomes}
use Rattle.cycle_events.specs.Shown.{shown, IsUseOf, Tied, IsHeld, Left, Shows}
use Rattle.cycle_events.proofs.Moving.{stays, event, next, entries-append, to-items, item-at, path-same}
use Rattle.cycle_events.proofs.Tying.{each-split, Tie, other-ids-at}

-- ---- what is known of the uses

pub record Uses (hart : ℕ) (answered : ℕ → Bool) (es : List Entry) (us : List Use) : Type 0 where
  pub older : Pairs Older us
  pub uses : Each (IsUse answered) us
  pub held : Each IsHeld us
  pub match : Match hart (live_entries es) (live_uses answered us)

-- a use stands in a list
record Placed (us : List Use) (u : Use) : Type 0 where
  front : List Use
  back : List Use
  here : us ≡ front ++ u ∷ back

-- an accepted entry's use is in the list, with its result
abbrev HasResult : (hart : ℕ) → List Use → Entry → Type 0
HasResult hart us e = is_response_accepted e.response ≡ true → (v : Use) × Placed us v × (v.key.hart ≡ hart) × (v.key.id ≡ e.id) × IsSome v.ready

match-back : (hart : ℕ) (P : Entry → Type 0) (Q : Use → Type 0) (es : List Entry) (us : List Use) → ((e : Entry) (u : Use) → Alike hart e u → Q u → P e) → Match hart es us → Each Q us → Each P es
match-back hart P Q [] [] k m h = tt
match-back hart P Q [] (u ∷ us) k m h = absurd m
match-back hart P Q (e ∷ es) [] k m h = absurd m
match-back hart P Q (e ∷ es) (u ∷ us) k m h = (k e u m.0 h.0, match-back hart P Q es us k m.1 h.1)

-- a use before the next one: it is passed over
record IsPassed (hart : ℕ) (us : List Use) (u : Use) : Type 0 where
  placed : Placed us u
  passed : is_next hart u ≡ false
  unkilled : is_killed u.decision ≡ false

passed-ready : (hart : ℕ) (u : Use) → u.key.hart ≡ hart → is_accepted u ≡ true → is_killed u.decision ≡ false → is_next hart u ≡ false → IsSome u.ready
passed-ready hart u h a k n = true-or (is_some u.ready) (λ r. not-both (is_next hart u) n
    (ap (λ b. b && (is_accepted u && (not (is_killed u.decision) && not (is_some u.ready)))) (eq-eqb u.key.hart hart h) ∙ ap (λ b. b && (not (is_killed u.decision) && not (is_some u.ready))) a
    ∙ ap (λ b. not b && not (is_some u.ready)) k ∙ ap not r))

result-there : (hart : ℕ) (us : List Use) (e : Entry) (u : Use) → Alike hart e u → IsPassed hart us u → HasResult hart us e
result-there hart us e u a p h =
    let acc : is_accepted u ≡ true = sym (ap is_response_accepted a.response) ∙ h in
    (u, p.placed, a.hart_is, a.id, passed-ready hart u a.hart_is acc p.unkilled p.passed)

live-unkilled : (answered : ℕ → Bool) (u : Use) → is_live_use answered u ≡ true → is_killed u.decision ≡ false
live-unkilled answered u h = not-in (is_killed u.decision) (and-left (not (is_killed u.decision)) (not u.finished) (and-right (answered u.start) (not (is_killed u.decision) && not u.finished) h))

-- the uses that were passed
all-passed : (hart : ℕ) (answered : ℕ → Bool) (pre rest : List Use) → Each (λ u. is_next hart u ≡ false) pre → Each (IsPassed hart (pre ++ rest)) (live_uses answered pre)
all-passed hart answered pre rest h =
    let placed = each-split (Placed (pre ++ rest)) pre (λ f u b q. record { front = f; back = b ++ rest; here = ap (λ l. l ++ rest) q ∙ append_assoc f (u ∷ b) rest }) in
    let both = Each-both (λ u. is_next hart u ≡ false) (Placed (pre ++ rest)) (λ u. (is_next hart u ≡ false) × Placed (pre ++ rest) u) pre (λ u a b. (a, b)) h placed in
    Each-both (λ u. (is_next hart u ≡ false) × Placed (pre ++ rest) u) (λ u. is_live_use answered u ≡ true) (IsPassed hart (pre ++ rest)) (live_uses answered pre) (λ u a b. record { placed = a.1; passed = a.0; unkilled = live-unkilled answered u b })
    (Each-filter (λ u. (is_next hart u ≡ false) × Placed (pre ++ rest) u) (is_live_use answered) pre both) (Each-passed (is_live_use answered) pre)

shown-some : (r : Option ℕ) (v : ℕ) → IsSome r → IsSome (shown r v)
shown-some None v h = cc
shown-some (Some c) v h = refl

-- so each older word has its result
item-result : (x : Extension) (hart : ℕ) (us : List Use) (y : Item) → Tied x hart us y → IsEntry y.entry → (y.entry.done ≡ true → is_unknown y.entry ≡ true → IsSome y.result) → (is_live y.entry ≡ true → HasResult hart us y.entry) → is_response_accepted y.entry.response ≡ true → IsSome y.result
item-result x hart us y t ok d h a = go y.entry.done refl
  where
    some : is_some y.entry.response ≡ true
    some = by y.entry.response a
      where
        by : (o : Option Response) → is_response_accepted o ≡ true → is_some o ≡ true
        by None k = cc
        by (Some r) k = refl

    go : (b : Bool) → y.entry.done ≡ b → IsSome y.result
    go true e = d e (ok.answered some)
    go false e =
        let live : is_live y.entry ≡ true = ap (λ b. b && not y.entry.done) some ∙ ap not e in
        let k = h live a in
        let v = k.0 in
        let r = Each-at (Tie x hart y) us k.1.front v k.1.back k.1.here t live k.2 k.3 in
        ap is_some r.result_is ∙ shown-some v.ready v.result k.4

-- ---- one use

-- what is known of a use that is computed
pub record IsComputed (hart : ℕ) (answered : ℕ → Bool) (u : Use) : Type 0 where
  pub hart_is : u.key.hart ≡ hart
  pub accepted : is_accepted u ≡ true
  pub unready : u.ready ≡ None
  pub released : is_released u.decision ≡ true
  pub operands : has_operands u ≡ true
  pub live : is_live_use answered u ≡ true

none-is : (o : Option ℕ) → is_none o ≡ true → o ≡ None
none-is None h = refl
none-is (Some v) h = cc

pub computed : (hart : ℕ) (answered : ℕ → Bool) (u : Use) → IsUse answered u → IsHeld u → is_next hart u ≡ true → is_complete u ≡ true → IsComputed hart answered u
computed hart answered u ok held n c =
    let a = and-right (u.key.hart == hart) (is_accepted u && (not (is_killed u.decision) && is_none u.ready)) n in
    let acc = and-left (is_accepted u) (not (is_killed u.decision) && is_none u.ready) a in
    let k = and-right (is_accepted u) (not (is_killed u.decision) && is_none u.ready) a in
    let unkilled = not-in (is_killed u.decision) (and-left (not (is_killed u.decision)) (is_none u.ready) k) in
    let unready = none-is u.ready (and-right (not (is_killed u.decision)) (is_none u.ready) k) in
    let unfinished = false-or u.finished (λ f. not-both (is_some u.ready) (ap is_some unready) (held.ended f)) in
    record {
      hart_is = eqb-true u.key.hart hart (and-left (u.key.hart == hart) (is_accepted u && (not (is_killed u.decision) && is_none u.ready)) n);
      accepted = acc;
      unready = unready;
      released = and-left (is_released u.decision) (has_operands u) c;
      operands = and-right (is_released u.decision) (has_operands u) c;
      live = rw (accepted-answered answered u ok acc, unkilled, unfinished) refl;
    }

released-by : (b : Bool) (d : Decision) → d ≡ decision_of b → is_released d ≡ true → b ≡ true
released-by true d h k = refl
released-by false d h k = absurd (no (sym (ap is_released h) ∙ k))
  where
    no : is_released Undecided ≡ true → ⊥
    no e = cc

-- the lanes that it was sent
lanes-of : (x : Extension) (y : Item) (u : Use) → IsUseOf x y u → IsHeld u → has_operands u ≡ true → (y.sent ≡ Some u.lanes) ⊎ ((halves_read x y.entry.word ≡ 0) × (u.lanes ≡ 0 ∷ 0 ∷ 0 ∷ []))
lanes-of x y u t held h = go u.given refl h
  where
    go : (b : Bool) → u.given ≡ b → (b || (register_read_of u.hit == 0)) ≡ true → (y.sent ≡ Some u.lanes) ⊎ ((halves_read x y.entry.word ≡ 0) × (u.lanes ≡ 0 ∷ 0 ∷ 0 ∷ []))
    go true e k = inl (t.sent_is e)
    go false e k = inr (ap register_read_of (sym t.hit_is) ∙ eqb-true (register_read_of u.hit) 0 k, held.lanes e)

abbrev pub with_units : Left → List (List ℕ) → Left
with_units left units = record left { units = units }

-- the tie of another item, and of the computed one
tied-other : (x : Extension) (hart cycle result : ℕ) (pre : List Use) (u : Use) (rest : List Use) (y : Item) → (is_live y.entry ≡ true → y.entry.id ≢ u.key.id) → Tied x hart (pre ++ u ∷ rest) y → Tied x hart (pre ++ with_ready cycle result u ∷ rest) y
tied-other x hart cycle result pre u rest y n t =
    Each-append (Tie x hart y) pre (with_ready cycle result u ∷ rest) (Each-front (Tie x hart y) pre (u ∷ rest) t) ((λ l h i. absurd (n l (sym i))), (Each-back (Tie x hart y) pre (u ∷ rest) t).1)

tied-computed : (x : Extension) (hart cycle result : ℕ) (pre : List Use) (u : Use) (rest : List Use) (y : Item) → u.key.hart ≡ hart → u.key.id ≡ y.entry.id → Pairs Older (pre ++ u ∷ rest) → IsUseOf x y u → Tied x hart (pre ++ with_ready cycle result u ∷ rest) (record y { result = Some result })
tied-computed x hart cycle result pre u rest y h i o t =
    let z = record y { result = Some result } in
    Each-append (Tie x hart z) pre (with_ready cycle result u ∷ rest)
    (Each-from (λ v. Older v u) (Tie x hart z) pre (λ v k l a b. absurd (k.apart (a ∙ sym h) (b ∙ sym i))) (Pairs-older Older pre u rest o))
    ((λ l a b. record { hit_is = t.hit_is; sent_is = t.sent_is; result_is = refl }), Each-from (Older u) (Tie x hart z) rest (λ v k l a b. absurd (k.apart (h ∙ sym a) (i ∙ sym b))) (Pairs-younger Older pre u rest o))

-- what the flight says of its items
done-results : (x : Extension) (start : State) (w : World) → RunsAhead x start w → Each (λ y. y.entry.done ≡ true → is_unknown y.entry ≡ true → IsSome y.result) w.flight
done-results x start w r = walked-each x (Agrees x r.now.memory) (λ y. y.entry.done ≡ true → is_unknown y.entry ≡ true → IsSome y.result) w.flight r.now (λ s y g. g.done_when) r.agree

applies : (x : Extension) (start : State) (hart : ℕ) (left : Left) (at : ℕ) (w : World) (cycle : ℕ) (answered : ℕ → Bool) (es : List Entry) (pre : List Use) (u : Use) (rest : List Use)
    → IsInRange x.params → Pairs Before es → Each IsEntry es → Uses hart answered es (pre ++ u ∷ rest) → Each (λ v. is_next hart v ≡ false) pre → is_next hart u ≡ true → is_complete u ≡ true
    → Shows x start hart left es (pre ++ u ∷ rest) at w
    → Becomes x (Shows x start hart (with_units left (outcome_of x.set left.units u).state) es (pre ++ with_ready cycle (outcome_of x.set left.units u).result u ∷ rest) at) w
applies x start hart left at w cycle answered es pre u rest range b ok f passed n c m =
    let us = pre ++ u ∷ rest in
    let held = Each-here IsHeld pre u rest f.held in
    let k = computed hart answered u (Each-here (IsUse answered) pre u rest f.uses) held n c in
    let live_is : live_uses answered us ≡ live_uses answered pre ++ u ∷ live_uses answered rest = filter-at (is_live_use answered) pre u rest k.live in
    let d = joined hart (live_entries es) (live_uses answered pre) u (live_uses answered rest) (subst (Match hart (live_entries es)) live_is f.match) in
    let g = unfilter is_live es d.older d.entry d.younger d.here in
    let p = d.entry in
    let l : is_live p ≡ true = Each-at (λ e. is_live e ≡ true) (live_entries es) d.older p d.younger d.here (Each-passed is_live es) in
    let q = item-at w.flight g.front p g.back (m.entries_are ∙ g.here) in
    let y = q.item in
    let al = d.alike in
    let id : u.key.id ≡ y.entry.id = al.id ∙ ap (λ e. e.id) (sym q.entry_is) in
    let spot : Spot = record { older = q.front; item = y; younger = q.back } in
    let tied0 : Each (Tied x hart us) (q.front ++ y ∷ q.back) = subst (Each (Tied x hart us)) q.here m.tied in
    let tie = Each-here (Tie x hart y) pre u rest (Each-here (Tied x hart us) q.front y q.back tied0) (ap is_live q.entry_is ∙ l) k.hart_is id in
    let m1 : Match hart (live_entries g.front) (live_uses answered pre) = subst (λ e. Match hart e (live_uses answered pre)) (sym g.fronts) d.lefts in
    let there = match-back hart (HasResult hart us) (IsPassed hart us) (live_entries g.front) (live_uses answered pre) (λ e v a z. result-there hart us e v a z) m1 (all-passed hart answered pre (u ∷ rest) passed) in
    let oks : Each IsEntry (g.front ++ p ∷ g.back) = subst (Each IsEntry) g.here ok in
    let P = λ (e : Entry). IsEntry e × (is_live e ≡ true → HasResult hart us e) in
    let fronts = Each-both IsEntry (λ e. is_live e ≡ true → HasResult hart us e) P g.front (λ e a z. (a, z)) (Each-front IsEntry g.front (p ∷ g.back) oks) (Each-unfilter (HasResult hart us) is_live g.front there) in
    let items = to-items P q.front (subst (Each P) (sym q.fronts) fronts) in
    let D = λ (i : Item). i.entry.done ≡ true → is_unknown i.entry ≡ true → IsSome i.result in
    let dones = Each-front D q.front (y ∷ q.back) (subst (Each D) q.here (done-results x start w m.runs)) in
    let ties = Each-both (Tied x hart us) D (λ i. Tied x hart us i × D i) q.front (λ i a z. (a, z)) (Each-front (Tied x hart us) q.front (y ∷ q.back) tied0) dones in
    let applied = Each-both (λ i. P i.entry) (λ i. Tied x hart us i × D i) (λ i. is_response_accepted i.entry.response ≡ true → IsSome i.result) q.front (λ i a z. item-result x hart us i z.0 a.0 z.1 a.1) items ties in
    let may : MayApply x w spot u.lanes = record {
      here = q.here;
      released = ap (λ e. e.released) q.entry_is ∙ released-by p.released u.decision al.decision k.released;
      lanes_are = lanes-of x y u tie held k.operands;
      is_new = tie.result_is ∙ ap (λ r. shown r u.result) k.unready;
      applied = applied;
    } in
    let made = applied_to x y.entry.word w.units u.lanes in
    let out = outcome_of x.set left.units u in
    let units : w.units ≡ left.units = ap (λ z. z.units) m.left_is in
    let same : made ≡ out = ap (λ h. outcome_by x.set h w.units u.lanes) (sym tie.hit_is) ∙ ap (λ z. outcome_by x.set u.hit z u.lanes) units in
    let vs = pre ++ with_ready cycle out.result u ∷ rest in
    let z = record y { result = Some made.result } in
    let ids = other-ids-at g.front p g.back (subst (Pairs Before) g.here b) oks al.unknown in
    let N = λ (e : Entry). is_live e ≡ true → e.id ≢ u.key.id in
    let front_ids = to-items N q.front (subst (Each N) (sym q.fronts) (Each-from (λ e. is_live e ≡ true → e.id ≢ p.id) N g.front (λ e k l r. k l (r ∙ al.id)) ids.front)) in
    let back_ids = to-items N q.back (subst (Each N) (sym q.backs) (Each-from (λ e. is_live e ≡ true → e.id ≢ p.id) N g.back (λ e k l r. k l (r ∙ al.id)) ids.back)) in
    let front = Each-both (λ i. N i.entry) (Tied x hart us) (Tied x hart vs) q.front (λ i a t. tied-other x hart cycle out.result pre u rest i a t) front_ids (Each-front (Tied x hart us) q.front (y ∷ q.back) tied0) in
    let back = Each-both (λ i. N i.entry) (Tied x hart us) (Tied x hart vs) q.back (λ i a t. tied-other x hart cycle out.result pre u rest i a t) back_ids (Each-back (Tied x hart us) q.front (y ∷ q.back) tied0).1 in
    let new : Tied x hart vs z = subst (λ r. Tied x hart vs (record y { result = Some r })) (sym (ap (λ o. o.result) same)) (tied-computed x hart cycle out.result pre u rest y k.hart_is id f.older tie) in
    event x (Shows x start hart (with_units left out.state) es vs at) w (Applies spot u.lanes) may (record {
      runs = keeps x start w (Applies spot u.lanes) range may m.runs;
      left_is = ap (λ r. with_units r made.state) m.left_is ∙ ap (λ o. with_units left o.state) same;
      entries_are = entries-append q.front (z ∷ q.back) ∙ sym (entries-append q.front (y ∷ q.back)) ∙ ap entries (sym q.here) ∙ m.entries_are;
      leads = path-same w.pc q.front y z q.back refl ∙ sym (ap (path_end w.pc) q.here) ∙ m.leads;
      tied = Each-append (Tied x hart vs) q.front (z ∷ q.back) front (new, back);
    })

-- ---- all of them

readied-append : (us vs xs ys : List Use) → AllReadied us vs → AllReadied xs ys → AllReadied (us ++ xs) (vs ++ ys)
readied-append [] [] xs ys a b = b
readied-append [] (v ∷ vs) xs ys a b = absurd a
readied-append (u ∷ us) [] xs ys a b = absurd a
readied-append (u ∷ us) (v ∷ vs) xs ys a b = (a.0, readied-append us vs xs ys a.1 b)

readied-here : (hart : ℕ) (answered : ℕ → Bool) (cycle result : ℕ) (u : Use) → IsComputed hart answered u → Readied u (with_ready cycle result u)
readied-here hart answered cycle result u c = record { same = refl; kept = λ h. refl; ready = λ k h. record { accepted = c.accepted; released = c.released; operands = c.operands } }

pub uses-readied : (hart : ℕ) (answered : ℕ → Bool) (es : List Entry) (us vs : List Use) → AllReadied us vs → Each IsHeld vs → Uses hart answered es us → Uses hart answered es vs
uses-readied hart answered es us vs a h f = record { older = all-older us vs a f.older; uses = all-uses answered us vs a f.uses; held = h; match = all-match hart answered (live_entries es) us vs a f.match }

uses-computed : (hart : ℕ) (answered : ℕ → Bool) (es : List Entry) (cycle result : ℕ) (pre : List Use) (u : Use) (rest : List Use) → Uses hart answered es (pre ++ u ∷ rest) → is_next hart u ≡ true → is_complete u ≡ true → Uses hart answered es (pre ++ with_ready cycle result u ∷ rest)
uses-computed hart answered es cycle result pre u rest f n c =
    let held = Each-here IsHeld pre u rest f.held in
    let k = computed hart answered u (Each-here (IsUse answered) pre u rest f.uses) held n c in
    uses-readied hart answered es (pre ++ u ∷ rest) (pre ++ with_ready cycle result u ∷ rest) (readied-append pre pre (u ∷ rest) (with_ready cycle result u ∷ rest) (all-itself pre) (readied-here hart answered cycle result u k, all-itself rest))
    (Each-append IsHeld pre (with_ready cycle result u ∷ rest) (Each-front IsHeld pre (u ∷ rest) f.held) (record { lanes = held.lanes; ended = λ h. refl }, (Each-back IsHeld pre (u ∷ rest) f.held).1)) f

ready-passed : (hart cycle result : ℕ) (u : Use) → is_next hart (with_ready cycle result u) ≡ false
ready-passed hart cycle result u = go (u.key.hart == hart) (is_accepted u) (not (is_killed u.decision))
  where
    go : (a b c : Bool) → (a && (b && (c && false))) ≡ false
    go true true true = refl
    go true true false = refl
    go true false c = refl
    go false b c = refl

-- where a hart has got to, and its uses are in the whole list
pub record Ready (x : Extension) (start : State) (hart : ℕ) (answered : ℕ → Bool) (left : Left) (es : List Entry) (us : List Use) (at : ℕ) (w : World) : Type 0 where
  pub shows : Shows x start hart left es us at w
  pub uses : Uses hart answered es us

pub computes : (x : Extension) (start : State) (hart : ℕ) (left : Left) (at : ℕ) (w : World) (cycle : ℕ) (answered : ℕ → Bool) (es : List Entry) (pre us : List Use) (state : List (List ℕ))
    → IsInRange x.params → Pairs Before es → Each IsEntry es → Each (λ v. is_next hart v ≡ false) pre → Ready x start hart answered (with_units left state) es (pre ++ us) at w
    → Becomes x (Ready x start hart answered (with_units left (units_behind x.set is_complete hart state us)) es (pre ++ ready_uses x.set cycle hart state us) at) w
computes x start hart left at w cycle answered es pre [] state range b ok passed m = stays x (Ready x start hart answered (with_units left state) es (pre ++ []) at) w m
computes x start hart left at w cycle answered es pre (u ∷ us) state range b ok passed m =
    go (is_next hart u) (is_complete u) refl refl (λ v p l s k h. computes x start hart left at v cycle answered es (pre ++ p ∷ []) us s range b ok k (subst (λ z. Ready x start hart answered (with_units left s) es z at v) (sym (append_assoc pre (p ∷ []) us)) h))
  where
    out : Outcome
    out = outcome_of x.set state u

    pushed : (p : Use) → is_next hart p ≡ false → Each (λ v. is_next hart v ≡ false) (pre ++ p ∷ [])
    pushed p h = Each-append (λ v. is_next hart v ≡ false) pre (p ∷ []) passed (h, tt)

    Done : (s : List (List ℕ)) → List Use → World → Type 0
    Done s vs v = Ready x start hart answered (with_units left s) es vs at v

    go : (a c : Bool) → is_next hart u ≡ a → is_complete u ≡ c
        → ((v : World) (p : Use) → ⊤ → (s : List (List ℕ)) → Each (λ v. is_next hart v ≡ false) (pre ++ p ∷ []) → Done s (pre ++ p ∷ us) v → Becomes x (Done (units_behind x.set is_complete hart s us) ((pre ++ p ∷ []) ++ ready_uses x.set cycle hart s us)) v)
        → Becomes x (Done (cond (not a) (units_behind x.set is_complete hart state us) (cond c (units_behind x.set is_complete hart out.state us) state))
        (pre ++ cond (not a) (u ∷ ready_uses x.set cycle hart state us) (cond c (with_ready cycle out.result u ∷ ready_uses x.set cycle hart out.state us) (u ∷ us)))) w
    go false c e f ih =
        subst (λ z. Becomes x (Done (units_behind x.set is_complete hart state us) z) w) (append_assoc pre (u ∷ []) (ready_uses x.set cycle hart state us)) (ih w u tt state (pushed u e) m)
    go true false e f ih = stays x (Done state (pre ++ u ∷ us)) w m
    go true true e f ih =
        let p = with_ready cycle out.result u in
        let first = applies x start hart (with_units left state) at w cycle answered es pre u us range b ok m.uses passed e f m.shows in
        let ready = next x (Shows x start hart (with_units left out.state) es (pre ++ p ∷ us) at) (Done out.state (pre ++ p ∷ us)) w first
        (λ v s. stays x (Done out.state (pre ++ p ∷ us)) v (record { shows = s; uses = uses-computed hart answered es cycle out.result pre u us m.uses e f })) in
        subst (λ z. Becomes x (Done (units_behind x.set is_complete hart out.state us) z) w) (append_assoc pre (p ∷ []) (ready_uses x.set cycle hart out.state us))
        (next x (Done out.state (pre ++ p ∷ us)) (Done (units_behind x.set is_complete hart out.state us) ((pre ++ p ∷ []) ++ ready_uses x.set cycle hart out.state us)) w ready
        (λ v h. ih v p tt out.state (pushed p (ready-passed hart cycle out.result u)) h))
