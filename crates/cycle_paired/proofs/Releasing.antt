-- A release, on both sides.
use Rattle.std.proofs.Common.{◌≡◌, ◌≢◌, ◌<◌, ◌≤◌, ◌==◌, ◌&&◌, ◌||◌, ◌++◌, ℕ, Bool, true, false, cond, not, List, ◌∷◌, map, Option, Some, refl, sym, ap, ◌∙◌, subst, arith}
use Rattle.std.specs.Prelude.{nat_le, is_some}
use Rattle.std.proofs.lemmas.Bool.{eq-eqb}
use Rattle.std.proofs.lemmas.List.{map-append}
use Rattle.xif_session.specs.declared.fact.Decision.{Decision}
use Rattle.xif_session.specs.declared.fact.Decision.TheVariants.{Undecided, Released, Killed}
use Rattle.xif_session.specs.Facts.{is_accepted as is_response_accepted, is_released, is_killed, is_undecided as is_decision_open, verdict_of, decision_after}
use Rattle.cycle_spec.specs.declared.entry.Entry.{Entry}
use Rattle.cycle_spec.specs.declared.entry.EntryKind.{EntryKind}
use Rattle.cycle_spec.specs.declared.entry.EntryKind.TheVariants.{Local, Unknown, Nowhere}
use Rattle.cycle_spec.specs.declared.use_of.Use.{Use}
use Rattle.cycle_spec.specs.Flight.{is_stopping, is_safe, is_safe_kind, is_undecided, with_release}
use Rattle.cycle_spec.specs.Engine.{latest, with_decision, decided_by}
use Rattle.cycle_lists.specs.Lists.{Each, Pairs}
use Rattle.cycle_lists.specs.Order.{Before}
use Rattle.cycle_lists.proofs.Tests.{and-left, and-right, and-false, or-left, or-true, or-cases, not-both, false-or, not-in, le-in, le-out, le-above}
use Rattle.cycle_lists.proofs.Every.{each, Each-front, Each-append, Each-from, Each-both, Each-map, Each-filter, Each-passed, Pairs-map1, Pairs-both, Pairs-older, Pairs-younger}
use Rattle.cycle_lists.proofs.Filters.{filter-at, filter-map}
use Rattle.cycle_lists.proofs.Order.{mapped, leaves-release}
use Rattle.cycle_paired.specs.Paired.{is_live, live_entries, is_live_use, live_uses, decision_of, Alike, Match, IsEntry, Behind, IsUse, Older}
use Rattle.cycle_paired.proofs.Facts.{Joint, accepted-some, live-unknown, safe-accepted}
use Rattle.cycle_paired.proofs.Matching.{Match-append, Match-map, Found, found}
use Rattle.cycle_paired.proofs.Carrying.{older-map, below-map, leaves-decision}
use Rattle.cycle_paired.proofs.Growing.{AllGrown, grown-at, Each-grown, OnlyOpen, safe-grown}

-- ---- decisions

pub released-stays : (t kill : Bool) (d : Decision) → is_released d ≡ true → is_released (decision_after t kill d) ≡ true
released-stays t kill Undecided h = cc
released-stays t kill Released h = ap (λ b. is_released (cond b (verdict_of kill) Released)) (and-false t)
released-stays t kill Killed h = cc

pub release-kills-none : (t : Bool) (d : Decision) → is_killed (decision_after t false d) ≡ is_killed d
release-kills-none true Undecided = refl
release-kills-none true Released = refl
release-kills-none true Killed = refl
release-kills-none false d = refl

pub use-decided : (kill : Bool) (named : Use) (answered : ℕ → Bool) (u : Use) → IsUse answered u → IsUse answered (with_decision kill named u)
use-decided kill named answered u ok = record {
  unanswered = λ h. let f = ok.unanswered h in record { refused = f.refused; not_given = f.not_given; unfinished = f.unfinished };
  ready = λ h. let r = ok.ready h in record { accepted = r.accepted; released = released-stays _ kill u.decision r.released; operands = r.operands };
}

-- ---- an entry

release-safe : (s : ℕ) (k : EntryKind) (e : Entry) → is_safe_kind k (with_release s e) ≡ is_safe_kind k e
release-safe s (Local i) e = refl
release-safe s Unknown e = refl
release-safe s Nowhere e = refl

entry-released : (s : ℕ) (e : Entry) → IsEntry e → IsEntry (with_release s e)
entry-released s e ok = record {
  answered = ok.answered;
  released = λ h. or-cases e.released (nat_le e.seq s && is_response_accepted e.response) (is_response_accepted e.response ≡ true) h ok.released (λ k. and-right (nat_le e.seq s) (is_response_accepted e.response) k);
  done_released = λ u d. or-left e.released (nat_le e.seq s && is_response_accepted e.response) (ok.done_released u d);
  done_given = ok.done_given;
  unsent = ok.unsent;
  stores = ok.stores;
  stops = ok.stops;
  refused = ok.refused;
}

-- what is older than the released one is safe
abbrev SafeBefore : ℕ → Entry → Type 0
SafeBefore s x = x.seq < s → is_safe x ≡ true

abbrev Joined : Entry → Entry → Type 0
Joined x y = Before x y × Behind x y

behind-released : (s : ℕ) (x y : Entry) → SafeBefore s x → Joined x y → Behind (with_release s x) (with_release s y)
behind-released s x y p b = record {
  safe = λ h. ap (λ t. not (is_stopping x) && t) (release-safe s x.kind x)
      ∙ or-cases y.released (nat_le y.seq s && is_response_accepted y.response) (is_safe x ≡ true) h b.1.safe
      (λ k. let l : y.seq ≤ s = le-in y.seq s (and-left (nat_le y.seq s) (is_response_accepted y.response) k) in let r = b.0.rises in p (omega arith));
  answered = b.1.answered;
}

-- ---- a pair

decision-released : (r : Bool) → decision_after true false (decision_of r) ≡ Released
decision-released true = refl
decision-released false = refl

-- both are up to the named ones
alike-below : (hart s : ℕ) (named : Use) (e : Entry) (u : Use) → named.key.hart ≡ hart → is_response_accepted e.response ≡ true → e.seq ≤ s → u.start ≤ named.start → Alike hart e u → Alike hart (with_release s e) (with_decision false named u)
alike-below hart s named e u h acc p q a = record {
  unknown = a.unknown;
  hart_is = a.hart_is;
  id = a.id;
  word = a.word;
  response = a.response;
  given = a.given;
  decision = ap (λ x. decision_after (x && nat_le u.start named.start) false u.decision) (eq-eqb u.key.hart named.key.hart (a.hart_is ∙ sym h))
      ∙ ap (λ x. decision_after x false u.decision) (le-out u.start named.start q) ∙ ap (decision_after true false) a.decision ∙ decision-released e.released
      ∙ sym (ap (λ x. decision_of (e.released || (x && is_response_accepted e.response))) (le-out e.seq s p) ∙ ap (λ x. decision_of (e.released || x)) acc ∙ ap decision_of (or-true e.released));
}

-- or neither is
alike-above : (hart s : ℕ) (named : Use) (e : Entry) (u : Use) → s < e.seq → named.start < u.start → Alike hart e u → Alike hart (with_release s e) (with_decision false named u)
alike-above hart s named e u p q a = record {
  unknown = a.unknown;
  hart_is = a.hart_is;
  id = a.id;
  word = a.word;
  response = a.response;
  given = a.given;
  decision = ap (λ x. decision_after ((u.key.hart == named.key.hart) && x) false u.decision) (le-above u.start named.start q) ∙ ap (λ x. decision_after x false u.decision) (and-false (u.key.hart == named.key.hart)) ∙ a.decision
      ∙ sym (ap (λ x. decision_of (e.released || (x && is_response_accepted e.response))) (le-above e.seq s p) ∙ ap decision_of (or-none e.released));
}
  where
    or-none : (b : Bool) → (b || false) ≡ b
    or-none true = refl
    or-none false = refl

-- ---- the step

abbrev EntryBelow : ℕ → Entry → Type 0
EntryBelow s e = (is_response_accepted e.response ≡ true) × (e.seq < s)

abbrev IsSafeEntry : Entry → Type 0
IsSafeEntry e = (is_safe e ≡ true) × IsEntry e

live-accepted : (e : Entry) → IsSafeEntry e → is_live e ≡ true → is_response_accepted e.response ≡ true
live-accepted e k l = safe-accepted e (live-unknown e k.1 l) k.0

released_joint : (hart n id c : ℕ) (answered : ℕ → Bool) (es older : List Entry) (p : Entry) (younger : List Entry) (us : List Use) (f : Found hart answered older p younger us)
    → es ≡ older ++ p ∷ younger → is_live p ≡ true → is_response_accepted p.response ≡ true → Each (λ x. is_safe x ≡ true) older → Joint hart n id c answered es us
    → Joint hart n id c answered (map (with_release p.seq) es) (map (with_decision false f.partner) us)
released_joint hart n id c answered es older p younger us f he l acc safe j =
    let u = f.partner in
    let s = p.seq in
    let t = u.start in
    let rel = with_release s in
    let rul = with_decision false u in
    let before : Pairs Before (older ++ p ∷ younger) = subst (Pairs Before) he j.kept.pairs in
    let oks : Each IsEntry (older ++ p ∷ younger) = subst (Each IsEntry) he j.entries in
    let pairs : Pairs Older (f.front ++ u ∷ f.back) = subst (Pairs Older) f.here j.older in
    let safe_all : Each (SafeBefore s) es = subst (Each (SafeBefore s)) (sym he)
    (Each-append (SafeBefore s) older (p ∷ younger) (Each-from (λ x. is_safe x ≡ true) (SafeBefore s) older (λ x k q. k) safe)
    ((λ q. absurd (omega arith)), Each-from (Before p) (SafeBefore s) younger (λ x k q. let r = k.rises in absurd (omega arith)) (Pairs-younger Before older p younger before))) in
    let le : live_entries (map rel es) ≡ map rel (live_entries es) = filter-map is_live rel es (each (λ x. is_live (rel x) ≡ is_live x) es (λ x. refl)) in
    let lu : live_uses answered (map rul us) ≡ map rul (live_uses answered us) =
    filter-map (is_live_use answered) rul us (each (λ v. is_live_use answered (rul v) ≡ is_live_use answered v) us (λ v. ap (λ k. answered v.start && (not k && not v.finished)) (release-kills-none _ v.decision))) in
    let live_is : live_entries es ≡ live_entries older ++ p ∷ live_entries younger = ap live_entries he ∙ filter-at is_live older p younger l in
    let uses_is : live_uses answered us ≡ live_uses answered f.front ++ u ∷ live_uses answered f.back = ap (live_uses answered) f.here ∙ filter-at (is_live_use answered) f.front u f.back f.live_is in
    let fronts = Each-filter (λ x. x.start < t) (is_live_use answered) f.front (Each-from (λ x. Older x u) (λ x. x.start < t) f.front (λ x k. k.rises) (Pairs-older Older f.front u f.back pairs)) in
    let backs = Each-filter (λ x. t < x.start) (is_live_use answered) f.back (Each-from (Older u) (λ x. t < x.start) f.back (λ x k. k.rises) (Pairs-younger Older f.front u f.back pairs)) in
    let safes = Each-filter IsSafeEntry is_live older (Each-both (λ x. is_safe x ≡ true) IsEntry IsSafeEntry older (λ x a b. (a, b)) safe (Each-front IsEntry older (p ∷ younger) oks)) in
    let accs = Each-both IsSafeEntry (λ x. is_live x ≡ true) (λ x. is_response_accepted x.response ≡ true) (live_entries older) (λ x a b. live-accepted x a b) safes (Each-passed is_live older) in
    let lows = Each-filter (λ e. e.seq < s) is_live older (Each-from (λ x. Before x p) (λ e. e.seq < s) older (λ x k. k.rises) (Pairs-older Before older p younger before)) in
    let olders = Each-both (λ x. is_response_accepted x.response ≡ true) (λ e. e.seq < s) (EntryBelow s) (live_entries older) (λ x a b. (a, b)) accs lows in
    let youngers = Each-filter (λ e. s < e.seq) is_live younger (Each-from (Before p) (λ e. s < e.seq) younger (λ x k. k.rises) (Pairs-younger Before older p younger before)) in
    let m1 = Match-map hart (EntryBelow s) (λ x. x.start < t) rel rul (live_entries older) (live_uses answered f.front)
    (λ e v a b k. alike-below hart s u e v f.alike.hart_is a.0 (let r = a.1 in omega arith) (omega arith) k) olders fronts f.lefts in
    let m2 = Match-map hart (λ e. s < e.seq) (λ x. t < x.start) rel rul (live_entries younger) (live_uses answered f.back)
    (λ e v a b k. alike-above hart s u e v a b k) youngers backs f.rights in
    let a = alike-below hart s u p u f.alike.hart_is acc (omega arith) (omega arith) f.alike in
    let m : Match hart (map rel (live_entries es)) (map rul (live_uses answered us)) =
    rw (live_is, uses_is, map-append rel (live_entries older) (p ∷ live_entries younger), map-append rul (live_uses answered f.front) (u ∷ live_uses answered f.back))
    (Match-append hart (map rel (live_entries older)) (rel p ∷ map rel (live_entries younger)) (map rul (live_uses answered f.front)) (rul u ∷ map rul (live_uses answered f.back)) m1 (a, m2)) in
    record {
      kept = mapped n id rel es (leaves-release s) j.kept;
      entries = Each-map IsEntry IsEntry rel es (λ x ok. entry-released s x ok) j.entries;
      behind = Pairs-map1 Joined Behind (SafeBefore s) rel es (λ x y p q b. behind-released s x y p b) safe_all (Pairs-both Before Behind Joined es (λ x y a b. (a, b)) j.kept.pairs j.behind);
      below = below-map rul c us (leaves-decision false u) j.below;
      uses = Each-map (IsUse answered) (IsUse answered) rul us (λ v ok. use-decided false u answered v ok) j.uses;
      older = older-map rul us (leaves-decision false u) j.older;
      match = subst (λ x. Match hart x (live_uses answered (map rul us))) (sym le) (subst (Match hart (map rel (live_entries es))) (sym lu) m);
    }

pub undecided-accepted : (e : Entry) → is_undecided e ≡ true → is_response_accepted e.response ≡ true
undecided-accepted e h = and-left (is_response_accepted e.response) (not e.released) h

pub undecided-unreleased : (e : Entry) → is_undecided e ≡ true → e.released ≡ false
undecided-unreleased e h = not-in e.released (and-right (is_response_accepted e.response) (not e.released) h)

pub undecided-live : (e : Entry) → IsEntry e → is_undecided e ≡ true → is_live e ≡ true
undecided-live e ok h =
    let s = accepted-some e.response (undecided-accepted e h) in
    let d : e.done ≡ false = false-or e.done (λ d. not-both e.released (undecided-unreleased e h) (ok.done_released (ok.answered s) d)) in
    rw (s, d) refl

-- the named use is decided where it is undecided
pub decided-named : (kill : Bool) (o : Option Use) (u : Use) (us : List Use) → o ≡ Some u → u.decision ≡ Undecided → decided_by kill o us ≡ map (with_decision kill u) us
decided-named kill o u us h d = ap (λ x. decided_by kill x us) h ∙ ap (λ x. cond (is_decision_open x) (map (with_decision kill u) us) us) d

-- a release on both sides, of an entry and its use
pub record ReleaseDone (hart n id c : ℕ) (answered : ℕ → Bool) (p : Entry) (es : List Entry) (us : List Use) : Type 0 where
  pub joint : Joint hart n id c answered (map (with_release p.seq) es) (decided_by false (latest (record { hart = hart; id = p.id }) us) us)
  pub named : Use
  pub named_answered : answered named.start ≡ true
  pub front : List Use
  pub back : List Use
  pub here : us ≡ front ++ named ∷ back
  pub uses_is : decided_by false (latest (record { hart = hart; id = p.id }) us) us ≡ map (with_decision false named) us

-- a release that was chosen at the start of the cycle
pub releasing : (s hart n id c : ℕ) (answered : ℕ → Bool) (start es older : List Entry) (p : Entry) (younger : List Entry) (us : List Use)
    → start ≡ older ++ p ∷ younger → Each (λ x. is_safe x ≡ true) older → is_undecided p ≡ true → IsEntry p → p.seq ≢ s
    → Each (OnlyOpen s) start → AllGrown s start es → Joint hart n id c answered es us → ReleaseDone hart n id c answered p es us
releasing s hart n id c answered start es older p younger us h safe un ok ne o g j =
    let g' : AllGrown s (older ++ p ∷ younger) es = subst (λ l. AllGrown s l es) h g in
    let o' : Each (OnlyOpen s) (older ++ p ∷ younger) = subst (Each (OnlyOpen s)) h o in
    let a = grown-at s older p younger es g' in
    let q = a.entry in
    let l : is_live q ≡ true = ap (λ x. is_some x && not q.done) (a.grown.response ne) ∙ ap (λ x. is_some p.response && not x) a.grown.done ∙ undecided-live p ok un in
    let acc : is_response_accepted q.response ≡ true = ap is_response_accepted (a.grown.response ne) ∙ undecided-accepted p un in
    let r : q.released ≡ false = a.grown.released ∙ undecided-unreleased p un in
    let safe' = Each-grown s (λ x. (is_safe x ≡ true) × OnlyOpen s x) (λ x. is_safe x ≡ true) older a.older (λ x y g k. safe-grown s x y g k.1 k.0) a.olders
    (Each-both (λ x. is_safe x ≡ true) (OnlyOpen s) (λ x. (is_safe x ≡ true) × OnlyOpen s x) older (λ x a b. (a, b)) safe (Each-front (OnlyOpen s) older (p ∷ younger) o')) in
    let f = found hart answered a.older q a.younger us l j.older (subst (λ x. Match hart (live_entries x) (live_uses answered us)) a.here j.match) in
    let u = f.partner in
    let d : u.decision ≡ Undecided = f.alike.decision ∙ ap decision_of r in
    let it : latest (record { hart = hart; id = p.id }) us ≡ Some u = ap (λ i. latest (record { hart = hart; id = i }) us) (sym a.grown.id) ∙ f.is_it in
    let named = decided-named false (latest (record { hart = hart; id = p.id }) us) u us it d in
    let done = released_joint hart n id c answered es a.older q a.younger us f a.here l acc safe' j in
    record {
      joint = subst (Joint hart n id c answered (map (with_release p.seq) es)) (sym named) (subst (λ x. Joint hart n id c answered (map (with_release x) es) (map (with_decision false u) us)) a.grown.seq done);
      named = u;
      named_answered = and-left (answered u.start) (not (is_killed u.decision) && not u.finished) f.live_is;
      front = f.front;
      back = f.back;
      here = f.here;
      uses_is = named;
    }
