-- A cut and its kill, on both sides.
use Rattle.std.proofs.Common.{◌≡◌, ◌≢◌, ◌<◌, ◌≤◌, ◌==◌, ◌&&◌, ◌++◌, ℕ, zero, suc, Bool, true, false, cond, not, List, [], ◌∷◌, map, take, drop, Some, None, refl, sym, ap, ◌∙◌, subst, arith, append-nil, append_assoc}
use Rattle.std.specs.Prelude.{nat_le, is_some, find}
use Rattle.std.proofs.lemmas.Bool.{eqb-true, eq-eqb}
use Rattle.std.proofs.lemmas.List.{map-append, take-append-drop, same_from_push}
use Rattle.xif_session.specs.declared.fact.Decision.{Decision}
use Rattle.xif_session.specs.declared.fact.Decision.TheVariants.{Undecided, Released, Killed}
use Rattle.xif_session.specs.Facts.{is_released, is_killed, decision_after}
use Rattle.cycle_spec.specs.declared.entry.Entry.{Entry}
use Rattle.cycle_spec.specs.declared.use_of.Use.{Use}
use Rattle.cycle_spec.specs.Flight.{is_open, is_pending, has_seq}
use Rattle.cycle_spec.specs.Engine.{latest, with_decision, decided_by}
use Rattle.cycle_lists.specs.Lists.{Each, Pairs}
use Rattle.cycle_lists.specs.Order.{Before}
use Rattle.cycle_lists.proofs.Tests.{and-left, and-right, and-false, not-both, false-or, not-in}
use Rattle.cycle_lists.proofs.Every.{Each-front, Each-back, Each-from, Each-both, Each-map, Each-filter, Each-unfilter, Each-take, Each-here, Each-at, Pairs-take, Pairs-older, Pairs-younger}
use Rattle.cycle_lists.proofs.Filters.{filter-append, filter-at, filter-past, filter-none}
use Rattle.cycle_lists.proofs.Places.{first-at, first-none, map-none}
use Rattle.cycle_lists.proofs.Order.{taken}
use Rattle.cycle_lists.proofs.Tests.{le-out, le-above}
use Rattle.cycle_paired.specs.Paired.{is_live, live_entries, is_live_use, live_uses, decision_of, Match, IsEntry, Behind, IsUse, Older, open_word, Offers}
use Rattle.cycle_paired.proofs.Facts.{Joint, none-dead, some-closed, only}
use Rattle.cycle_paired.proofs.Matching.{split, Match-uses, found, latest-at}
use Rattle.cycle_paired.proofs.Carrying.{older-map, below-map, leaves-decision}
use Rattle.cycle_paired.proofs.Answering.{Offered}
use Rattle.cycle_paired.proofs.Growing.{Grown, AllGrown, grown-at, grown-drop, Each-grown, OnlyOpen}
use Rattle.cycle_paired.proofs.Releasing.{use-decided, decided-named}

-- ---- decisions

-- who isn't killed after a commit wasn't before it
not-killed : (t kill : Bool) (d : Decision) → is_killed (decision_after t kill d) ≡ false → is_killed d ≡ false
not-killed t kill Undecided h = refl
not-killed t kill Released h = refl
not-killed true kill Killed h = h
not-killed false kill Killed h = h

kill-releases-none : (t : Bool) (d : Decision) → is_released (decision_after t true d) ≡ is_released d
kill-releases-none true Undecided = refl
kill-releases-none true Released = refl
kill-releases-none true Killed = refl
kill-releases-none false d = refl

covered-killed : (t : Bool) (d : Decision) → t ≡ true → is_released d ≡ false → is_killed (decision_after t true d) ≡ true
covered-killed true Undecided h k = refl
covered-killed true Released h k = cc
covered-killed true Killed h k = refl
covered-killed false d h k = cc

-- ---- the uses that a kill leaves

-- it covers the uses of its hart from the named one on
covers : (u v : Use) → v.key.hart ≡ u.key.hart → u.start ≤ v.start → ((v.key.hart == u.key.hart) && nat_le u.start v.start) ≡ true
covers u v h l = ap (λ x. x && nat_le u.start v.start) (eq-eqb v.key.hart u.key.hart h) ∙ le-out u.start v.start l

-- and none that started earlier
spares : (u v : Use) → v.start < u.start → with_decision true u v ≡ v
spares u v l =
    ap (λ x. record v { decision = decision_after ((v.key.hart == u.key.hart) && x) true v.decision }) (le-above u.start v.start l)
    ∙ ap (λ x. record v { decision = decision_after x true v.decision }) (and-false (v.key.hart == u.key.hart))

was-live : (answered : ℕ → Bool) (u v : Use) → is_live_use answered (with_decision true u v) ≡ true → is_live_use answered v ≡ true
was-live answered u v h =
    let d = decision_after ((v.key.hart == u.key.hart) && nat_le u.start v.start) true v.decision in
    let a = and-left (answered v.start) (not (is_killed d) && not v.finished) h in
    let r = and-right (answered v.start) (not (is_killed d) && not v.finished) h in
    let k : is_killed v.decision ≡ false = not-killed _ true v.decision (not-in (is_killed d) (and-left (not (is_killed d)) (not v.finished) r)) in
    let f = and-right (not (is_killed d)) (not v.finished) r in
    rw (a, k) f

-- a live use from the named one on
abbrev pub IsCovered : Use → Use → Type 0
IsCovered u v = (v.decision ≡ Undecided) × (v.key.hart ≡ u.key.hart) × (u.start ≤ v.start)

goes : (answered : ℕ → Bool) (u v : Use) → (is_live_use answered v ≡ true → IsCovered u v) → is_live_use answered (with_decision true u v) ≡ false
goes answered u v k = false-or (is_live_use answered (with_decision true u v)) (λ h.
    let c = k (was-live answered u v h) in
    let d = decision_after ((v.key.hart == u.key.hart) && nat_le u.start v.start) true v.decision in
    let r = and-right (answered v.start) (not (is_killed d) && not v.finished) h in
    let n : is_killed d ≡ false = not-in (is_killed d) (and-left (not (is_killed d)) (not v.finished) r) in
    not-both (is_killed d) n (covered-killed _ v.decision (covers u v c.1 c.2) (ap is_released c.0)))

killed : (answered : ℕ → Bool) (us front : List Use) (u : Use) (back : List Use) → us ≡ front ++ u ∷ back → Pairs Older us → Each (λ v. is_live_use answered v ≡ true → IsCovered u v) (u ∷ back)
    → live_uses answered (map (with_decision true u) us) ≡ live_uses answered front
killed answered us front u back h pairs k =
    let f = with_decision true u in
    let pairs' : Pairs Older (front ++ u ∷ back) = subst (Pairs Older) h pairs in
    let stay : map f front ≡ front = map-none f front (Each-from (λ v. Older v u) (λ v. f v ≡ v) front (λ v o. spares u v o.rises) (Pairs-older Older front u back pairs')) in
    let none : live_uses answered (map f (u ∷ back)) ≡ [] =
    filter-none (is_live_use answered) (map f (u ∷ back)) (Each-map (λ v. is_live_use answered v ≡ true → IsCovered u v) (λ v. is_live_use answered v ≡ false) f (u ∷ back) (λ v c. goes answered u v c) k) in
    ap (λ l. live_uses answered (map f l)) h ∙ ap (live_uses answered) (map-append f front (u ∷ back)) ∙ ap (λ l. live_uses answered (l ++ map f (u ∷ back))) stay
    ∙ filter-append (is_live_use answered) front (map f (u ∷ back)) ∙ ap (λ l. live_uses answered front ++ l) none ∙ append-nil (live_uses answered front)

-- ---- what is left of both lists

pub record CutDone (hart n id c k : ℕ) (answered : ℕ → Bool) (es : List Entry) (us vs : List Use) : Type 0 where
  pub joint : Joint hart n id c answered (take k es) vs
  -- the live uses that are left are the first ones
  pub rest : List Use
  pub front : live_uses answered us ≡ live_uses answered vs ++ rest
  pub offers : (s : ℕ) → Each (Offers answered hart es s) us → Each (Offers answered hart (take k es) s) vs

-- the entries that stay, with these uses
joint-take : (hart n id c k : ℕ) (answered : ℕ → Bool) (es : List Entry) (us vs : List Use) → Joint hart n id c answered es us → Each (λ u. u.start < c) vs → Each (IsUse answered) vs → Pairs Older vs
    → Match hart (live_entries (take k es)) (live_uses answered vs) → Joint hart n id c answered (take k es) vs
joint-take hart n id c k answered es us vs j b u o m = record {
  kept = taken n id k es j.kept;
  entries = Each-take IsEntry k es j.entries;
  behind = Pairs-take Behind k es j.behind;
  below = b;
  uses = u;
  older = o;
  match = m;
}

offers-killed : (answered : ℕ → Bool) (hart s k : ℕ) (es : List Entry) (u v : Use) → u.key.hart ≡ hart → u.start ≤ s → Offers answered hart es s v → Offers answered hart (take k es) s (with_decision true u v)
offers-killed answered hart s k es u v h l o = record {
  latest = o.latest;
  own = λ q.
      let w = o.own q in
      record {
        waits = w.waits;
        not_released = kill-releases-none _ v.decision ∙ w.not_released;
        offered = λ a b. absurd (not-both (is_killed (with_decision true u v).decision) b (covered-killed _ v.decision (covers u v (a ∙ sym h) (omega (arith, l, q))) w.not_released));
      };
}

killed-joint : (hart n id c k : ℕ) (answered : ℕ → Bool) (es : List Entry) (us front : List Use) (u : Use) (back : List Use) → Joint hart n id c answered es us → us ≡ front ++ u ∷ back → u.key.hart ≡ hart
    → Each (λ v. is_live_use answered v ≡ true → IsCovered u v) (u ∷ back) → Match hart (live_entries (take k es)) (live_uses answered front) → CutDone hart n id c k answered es us (map (with_decision true u) us)
killed-joint hart n id c k answered es us front u back j here h cov m =
    let f = with_decision true u in
    let left = killed answered us front u back here j.older cov in
    record {
      joint = joint-take hart n id c k answered es us (map f us) j (below-map f c us (leaves-decision true u) j.below) (Each-map (IsUse answered) (IsUse answered) f us (λ v ok. use-decided true u answered v ok) j.uses)
          (older-map f us (leaves-decision true u) j.older) (subst (Match hart (live_entries (take k es))) (sym left) m);
      rest = live_uses answered (u ∷ back);
      front = ap (live_uses answered) here ∙ filter-append (is_live_use answered) front (u ∷ back) ∙ ap (λ l. l ++ live_uses answered (u ∷ back)) (sym left);
      offers = λ s o. Each-map (Offers answered hart es s) (Offers answered hart (take k es) s) f us (λ v w. offers-killed answered hart s k es u v h (Each-at (Offers answered hart es s) us front u back here o).latest w) o;
    }

-- ---- what goes

pub record Going (r : ℕ) (gone : List Entry) : Type 0 where
  pub ok : Each IsEntry gone
  pub before : Pairs Before gone
  pub behind : Pairs Behind gone
  pub only : Each (OnlyOpen r) gone
  pub unreleased : Each (λ e. e.released ≡ false) gone

pending-some : (e : Entry) → is_pending e ≡ true → is_some e.response ≡ true
pending-some e h = and-left (is_some e.response) (not e.released) h

pending-live : (e : Entry) → IsEntry e → e.released ≡ false → is_pending e ≡ true → is_live e ≡ true
pending-live e ok r h =
    let s = pending-some e h in
    let d : e.done ≡ false = false-or e.done (λ d. not-both e.released r (ok.done_released (ok.answered s) d)) in
    rw (s, d) refl

-- without a response
not-pending : (e : Entry) → is_pending e ≡ false → e.released ≡ false → is_some e.response ≡ false
not-pending e h r = false-or (is_some e.response) (λ s. not-both (is_pending e) h (rw (s, r) refl))

-- who had no response, and isn't the offered one, has none later
abbrev StaysDead : ℕ → Entry → Type 0
StaysDead r x = (is_some x.response ≡ false) × (x.seq ≢ r)

still-dead : (r : ℕ) (x y : Entry) → Grown r x y → StaysDead r x → is_live y ≡ false
still-dead r x y g k = none-dead y (ap is_some (g.response k.1) ∙ k.0)

covered-by : (hart : ℕ) (answered : ℕ → Bool) (u : Use) (es : List Entry) (us : List Use) → u.key.hart ≡ hart → Each (λ e. e.released ≡ false) (live_entries es) → Match hart (live_entries es) (live_uses answered us) → Each (λ v. u.start ≤ v.start) us
    → Each (λ v. is_live_use answered v ≡ true → IsCovered u v) us
covered-by hart answered u es us h rs m l =
    let open' = Match-uses hart (λ e. e.released ≡ false) (λ v. (v.decision ≡ Undecided) × (v.key.hart ≡ u.key.hart)) (live_entries es) (live_uses answered us) (λ e v a k. (a.decision ∙ ap decision_of k, a.hart_is ∙ sym h)) m rs in
    Each-both (λ v. is_live_use answered v ≡ true → (v.decision ≡ Undecided) × (v.key.hart ≡ u.key.hart)) (λ v. u.start ≤ v.start) (λ v. is_live_use answered v ≡ true → IsCovered u v) us (λ v a b q. let x = a q in (x.0, x.1, b))
    (Each-unfilter (λ v. (v.decision ≡ Undecided) × (v.key.hart ≡ u.key.hart)) (is_live_use answered) us open') l

-- the kill names the oldest that had its handshake and is undecided
pub cut-pending : (r hart n id c k : ℕ) (answered : ℕ → Bool) (fl es : List Entry) (us : List Use) (p : Entry) → Going r (drop k fl) → AllGrown r fl es → find is_pending (drop k fl) ≡ Some p → Joint hart n id c answered es us
    → CutDone hart n id c k answered es us (decided_by true (latest (record { hart = hart; id = p.id }) us) us)
cut-pending r hart n id c k answered fl es us p g w h j =
    let f = first-at is_pending (drop k fl) p h in
    let w' : AllGrown r (f.older ++ p ∷ f.younger) (drop k es) = subst (λ l. AllGrown r l (drop k es)) f.here (grown-drop r k fl es w) in
    let a = grown-at r f.older p f.younger (drop k es) w' in
    let q = a.entry in
    let ok : Each IsEntry (f.older ++ p ∷ f.younger) = subst (Each IsEntry) f.here g.ok in
    let behind : Pairs Behind (f.older ++ p ∷ f.younger) = subst (Pairs Behind) f.here g.behind in
    let only' : Each (OnlyOpen r) (f.older ++ p ∷ f.younger) = subst (Each (OnlyOpen r)) f.here g.only in
    let un : Each (λ e. e.released ≡ false) (f.older ++ p ∷ f.younger) = subst (Each (λ e. e.released ≡ false)) f.here g.unreleased in
    let okp = Each-here IsEntry f.older p f.younger ok in
    let unp = Each-here (λ e. e.released ≡ false) f.older p f.younger un in
    let some = pending-some p f.passes in
    let ne : p.seq ≢ r = λ e. not-both (is_open p) (some-closed p some) (Each-here (OnlyOpen r) f.older p f.younger only' e) in
    let l : is_live q ≡ true = ap (λ x. is_some x && not q.done) (a.grown.response ne) ∙ ap (λ x. is_some p.response && not x) a.grown.done ∙ pending-live p okp unp f.passes in
    let rel : q.released ≡ false = a.grown.released ∙ unp in
    let deads = Each-both (λ x. is_pending x ≡ false) (λ x. x.released ≡ false) (λ x. is_some x.response ≡ false) f.older (λ x a b. not-pending x a b) f.others (Each-front (λ e. e.released ≡ false) f.older (p ∷ f.younger) un) in
    let others = Each-both (OnlyOpen r) (λ x. Behind x p) (λ x. x.seq ≢ r) f.older (λ x a b e. not-both (is_open x) (b.answered some) (a e)) (Each-front (OnlyOpen r) f.older (p ∷ f.younger) only') (Pairs-older Behind f.older p f.younger behind) in
    let olders = Each-both (λ x. is_some x.response ≡ false) (λ x. x.seq ≢ r) (StaysDead r) f.older (λ x a b. (a, b)) deads others in
    let none = filter-none is_live a.older (Each-grown r (StaysDead r) (λ y. is_live y ≡ false) f.older a.older (λ x y g k. still-dead r x y g k) a.olders olders) in
    let es_is : es ≡ (take k es ++ a.older) ++ q ∷ a.younger = sym (take-append-drop k es) ∙ ap (λ l. take k es ++ l) a.here ∙ sym (append_assoc (take k es) a.older (q ∷ a.younger)) in
    let d = found hart answered (take k es ++ a.older) q a.younger us l j.older (subst (λ x. Match hart (live_entries x) (live_uses answered us)) es_is j.match) in
    let u = d.partner in
    let undecided : u.decision ≡ Undecided = d.alike.decision ∙ ap decision_of rel in
    let named = decided-named true (latest (record { hart = hart; id = p.id }) us) u us (ap (λ i. latest (record { hart = hart; id = i }) us) (sym a.grown.id) ∙ d.is_it) undecided in
    let youngers = Each-grown r (λ x. x.released ≡ false) (λ y. y.released ≡ false) f.younger a.younger (λ x y g k. g.released ∙ k) a.youngers (Each-back (λ e. e.released ≡ false) f.older (p ∷ f.younger) un).1 in
    let pairs : Pairs Older (d.front ++ u ∷ d.back) = subst (Pairs Older) d.here j.older in
    let lates = Each-from (Older u) (λ v. u.start ≤ v.start) d.back (λ v o. let r = o.rises in omega arith) (Pairs-younger Older d.front u d.back pairs) in
    let cov = covered-by hart answered u a.younger d.back d.alike.hart_is (Each-filter (λ e. e.released ≡ false) is_live a.younger youngers) d.rights lates in
    let left : live_entries (take k es ++ a.older) ≡ live_entries (take k es) = filter-append is_live (take k es) a.older ∙ ap (λ l. live_entries (take k es) ++ l) none ∙ append-nil (live_entries (take k es)) in
    let m : Match hart (live_entries (take k es)) (live_uses answered d.front) = subst (λ l. Match hart l (live_uses answered d.front)) left d.lefts in
    subst (CutDone hart n id c k answered es us) (sym named) (killed-joint hart n id c k answered es us d.front u d.back j d.here d.alike.hart_is ((λ q. (undecided, refl, omega arith)), cov) m)

-- the last pair goes
match-init : (hart : ℕ) (es : List Entry) (q : Entry) (us : List Use) (v : Use) → Match hart (es ++ q ∷ []) (us ++ v ∷ []) → Match hart es us
match-init hart es q us v m =
    let s = split hart es q [] (us ++ v ∷ []) m in
    let nil = go s.right s.rights in
    let same = same_from_push us s.left v s.partner (s.here ∙ ap (λ l. s.left ++ s.partner ∷ l) nil) in
    subst (Match hart es) (sym same.0) s.lefts
  where
    go : (r : List Use) → Match hart [] r → r ≡ []
    go [] h = refl
    go (x ∷ xs) h = absurd h

-- the kill names the word that is offered
pub cut-offered : (s : ℕ) (t : Bool) (hart n id c k : ℕ) (answered : ℕ → Bool) (fl es : List Entry) (us : List Use) (p p' : Entry) → Going p.seq (drop k fl) → AllGrown p.seq fl es → p'.id ≡ p.id
    → find is_pending (drop k fl) ≡ None → find (has_seq p.seq) (drop k fl) ≡ Some p' → Offered hart p s t answered es us → Joint hart n id c answered es us
    → CutDone hart n id c k answered es us (decided_by true (latest (record { hart = hart; id = p'.id }) us) us)
cut-offered s t hart n id c k answered fl es us p p' g w pid none_pending at o j =
    let r = p.seq in
    let f = first-at (has_seq r) (drop k fl) p' at in
    let sq : p'.seq ≡ r = eqb-true p'.seq r f.passes in
    let w' : AllGrown r (f.older ++ p' ∷ f.younger) (drop k es) = subst (λ l. AllGrown r l (drop k es)) f.here (grown-drop r k fl es w) in
    let a = grown-at r f.older p' f.younger (drop k es) w' in
    let before : Pairs Before (f.older ++ p' ∷ f.younger) = subst (Pairs Before) f.here g.before in
    let plain = Each-both (λ x. is_pending x ≡ false) (λ x. x.released ≡ false) (λ x. is_some x.response ≡ false) (drop k fl) (λ x a b. not-pending x a b) (first-none is_pending (drop k fl) none_pending) g.unreleased in
    let plain' : Each (λ x. is_some x.response ≡ false) (f.older ++ p' ∷ f.younger) = subst (Each (λ x. is_some x.response ≡ false)) f.here plain in
    let olders = Each-both (λ x. is_some x.response ≡ false) (λ x. Before x p') (StaysDead r) f.older (λ x a b. (a, λ e. let l = b.rises in absurd (omega (arith, l, sq, e)))) (Each-front (λ x. is_some x.response ≡ false) f.older (p' ∷ f.younger) plain') (Pairs-older Before f.older p' f.younger before) in
    let youngers = Each-both (λ x. is_some x.response ≡ false) (Before p') (StaysDead r) f.younger (λ x a b. (a, λ e. let l = b.rises in absurd (omega (arith, l, sq, e)))) (Each-back (λ x. is_some x.response ≡ false) f.older (p' ∷ f.younger) plain').1 (Pairs-younger Before f.older p' f.younger before) in
    let none1 = filter-none is_live a.older (Each-grown r (StaysDead r) (λ y. is_live y ≡ false) f.older a.older (λ x y g k. still-dead r x y g k) a.olders olders) in
    let none2 = filter-none is_live a.younger (Each-grown r (StaysDead r) (λ y. is_live y ≡ false) f.younger a.younger (λ x y g k. still-dead r x y g k) a.youngers youngers) in
    let es_is : es ≡ (take k es ++ a.older) ++ a.entry ∷ a.younger = sym (take-append-drop k es) ∙ ap (λ l. take k es ++ l) a.here ∙ sym (append_assoc (take k es) a.older (a.entry ∷ a.younger)) in
    let lonely : Each (λ x. x.seq ≡ o.entry.seq → x ≡ o.entry) es = subst (Each (λ x. x.seq ≡ o.entry.seq → x ≡ o.entry)) (sym o.here) (only o.older o.entry o.younger (subst (Pairs Before) o.here j.kept.pairs)) in
    let same : a.entry ≡ o.entry = Each-at (λ x. x.seq ≡ o.entry.seq → x ≡ o.entry) es (take k es ++ a.older) a.entry a.younger es_is lonely (a.grown.seq ∙ sq ∙ sym o.seq) in
    let v = o.new in
    let front_is : live_entries (take k es ++ a.older) ≡ live_entries (take k es) = filter-append is_live (take k es) a.older ∙ ap (λ l. live_entries (take k es) ++ l) none1 ∙ append-nil (live_entries (take k es)) in
    let m0 : Match hart (live_entries ((take k es ++ a.older) ++ a.entry ∷ a.younger)) (live_uses answered (o.front ++ v ∷ [])) =
    subst (λ x. Match hart (live_entries ((take k es ++ a.older) ++ a.entry ∷ a.younger)) (live_uses answered x)) o.there (subst (λ x. Match hart (live_entries x) (live_uses answered us)) es_is j.match) in
    let m = go t (take k es ++ a.older) (live_entries (take k es)) a.entry a.younger front_is none2 (ap is_live same ∙ o.live) o.use_live m0 in
    let it : latest (record { hart = hart; id = p'.id }) us ≡ Some v = ap (λ i. latest (record { hart = hart; id = i }) us) pid ∙ ap (latest (record { hart = hart; id = p.id })) o.there ∙ latest-at o.front v [] hart p.id o.hart_is o.id_is tt in
    let named = decided-named true (latest (record { hart = hart; id = p'.id }) us) v us it o.undecided in
    subst (CutDone hart n id c k answered es us) (sym named) (killed-joint hart n id c k answered es us o.front v [] j o.there o.hart_is ((λ q. (o.undecided, refl, omega arith)), tt) m)
  where
    go : (t : Bool) (xs zs : List Entry) (q : Entry) (ys : List Entry) → live_entries xs ≡ zs → live_entries ys ≡ [] → is_live q ≡ t → is_live_use answered o.new ≡ t → Match hart (live_entries (xs ++ q ∷ ys)) (live_uses answered (o.front ++ o.new ∷ [])) → Match hart zs (live_uses answered o.front)
    go true xs zs q ys h n l u m =
        let left : live_entries (xs ++ q ∷ ys) ≡ zs ++ q ∷ [] = filter-at is_live xs q ys l ∙ ap (λ l. l ++ q ∷ live_entries ys) h ∙ ap (λ l. zs ++ q ∷ l) n in
        let right : live_uses answered (o.front ++ o.new ∷ []) ≡ live_uses answered o.front ++ o.new ∷ [] = filter-at (is_live_use answered) o.front o.new [] u in
        match-init hart zs q (live_uses answered o.front) o.new (subst (Match hart (zs ++ q ∷ [])) right (subst (λ l. Match hart l (live_uses answered (o.front ++ o.new ∷ []))) left m))
    go false xs zs q ys h n l u m =
        let left : live_entries (xs ++ q ∷ ys) ≡ zs = filter-past is_live xs q ys l ∙ ap (λ l. l ++ live_entries ys) h ∙ ap (λ l. zs ++ l) n ∙ append-nil zs in
        let right : live_uses answered (o.front ++ o.new ∷ []) ≡ live_uses answered o.front = filter-past (is_live_use answered) o.front o.new [] u ∙ append-nil (live_uses answered o.front) in
        subst (Match hart zs) right (subst (λ l. Match hart l (live_uses answered (o.front ++ o.new ∷ []))) left m)

-- nothing is killed: what goes had no response, and isn't offered
pub cut-quiet : (r hart n id c k : ℕ) (answered : ℕ → Bool) (fl es : List Entry) (us : List Use) → Going r (drop k fl) → AllGrown r fl es → find is_pending (drop k fl) ≡ None → Each (λ x. x.seq ≢ r) (drop k fl) → Joint hart n id c answered es us
    → Joint hart n id c answered (take k es) us
cut-quiet r hart n id c k answered fl es us g w none_pending ne j =
    let plain = Each-both (λ x. is_pending x ≡ false) (λ x. x.released ≡ false) (λ x. is_some x.response ≡ false) (drop k fl) (λ x a b. not-pending x a b) (first-none is_pending (drop k fl) none_pending) g.unreleased in
    let both = Each-both (λ x. is_some x.response ≡ false) (λ x. x.seq ≢ r) (StaysDead r) (drop k fl) (λ x a b. (a, b)) plain ne in
    let none = filter-none is_live (drop k es) (Each-grown r (StaysDead r) (λ y. is_live y ≡ false) (drop k fl) (drop k es) (λ x y g k. still-dead r x y g k) (grown-drop r k fl es w) both) in
    let same : live_entries es ≡ live_entries (take k es) = ap live_entries (sym (take-append-drop k es)) ∙ filter-append is_live (take k es) (drop k es) ∙ ap (λ l. live_entries (take k es) ++ l) none ∙ append-nil (live_entries (take k es)) in
    joint-take hart n id c k answered es us us j j.below j.uses j.older (subst (λ l. Match hart l (live_uses answered us)) same j.match)

-- the first open entry stays where it doesn't go
pub take-open : (k : ℕ) (older : List Entry) (q : Entry) (younger : List Entry) → Each (λ x. is_open x ≡ false) older → is_open q ≡ true → Each (λ x. x.seq ≢ q.seq) (drop k (older ++ q ∷ younger)) → open_word (take k (older ++ q ∷ younger)) ≡ Some (q.id, q.word)
take-open zero older q younger h o n = absurd (Each-here (λ x. x.seq ≢ q.seq) older q younger n refl)
take-open (suc k) [] q younger h o n = ap (λ t. cond t (Some (q.id, q.word)) (open_word (take k younger))) o
take-open (suc k) (x ∷ older) q younger h o n =
    ap (λ t. cond t (Some (x.id, x.word)) (open_word (take k (older ++ q ∷ younger)))) h.0 ∙ take-open k older q younger h.1 o n
