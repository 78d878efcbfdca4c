-- The commit of a cycle and its cut, on both sides.
use Rattle.std.proofs.Common.{◌≡◌, ◌≢◌, ◌<◌, ◌==◌, ◌&&◌, ◌||◌, ◌++◌, ℕ, zero, suc, Bool, true, false, cond, List, [], ◌∷◌, map, take, drop, Option, Some, None, refl, sym, ap, ◌∙◌, subst, arith}
use Rattle.std.specs.Prelude.{find, is_some}
use Rattle.std.specs.Option.{option_or}
use Rattle.std.proofs.lemmas.Bool.{eqb-true, eqb-false}
use Rattle.inorder_machine.specs.declared.line.Stepped.{Stepped}
use Rattle.xif_session.specs.Facts.{is_released, is_undecided as is_decision_open, decision_after}
use Rattle.cycle_spec.specs.declared.choices.Choices.{Choices}
use Rattle.cycle_spec.specs.declared.entry.Entry.{Entry}
use Rattle.cycle_spec.specs.declared.use_of.Use.{Use}
use Rattle.cycle_spec.specs.Flight.{is_open, is_pending, has_seq, with_release}
use Rattle.cycle_spec.specs.Choices.{kill_among, among}
use Rattle.cycle_spec.specs.Core.{id_in, release_step, cut_step, drain_step}
use Rattle.cycle_spec.specs.Engine.{latest, with_decision, decided_by}
use Rattle.cycle_spec.specs.Cycle.{hart_if}
use Rattle.cycle_lists.specs.Lists.{Each, Pairs, FirstAt}
use Rattle.cycle_lists.specs.Order.{Before}
use Rattle.cycle_lists.proofs.Tests.{and-false, not-both, le-above}
use Rattle.cycle_lists.proofs.Every.{each, Each-append, Each-from, Each-map, Each-take, Each-drop, Each-at, Pairs-drop, Pairs-older}
use Rattle.cycle_lists.proofs.Places.{first-at, first-none}
use Rattle.cycle_paired.specs.Paired.{IsEntry, Behind, Older, open_word, Offers}
use Rattle.cycle_paired.proofs.Facts.{Joint, accepted-some, some-closed, open_word-at, open_word-map, only}
use Rattle.cycle_paired.proofs.Carrying.{Carries, carries-map, leaves-decision}
use Rattle.cycle_paired.proofs.Answering.{Offered}
use Rattle.cycle_paired.proofs.Growing.{Grown, AllGrown, Each-grown, grown-drop, OnlyOpen}
use Rattle.cycle_paired.proofs.Releasing.{undecided-accepted, release-kills-none, releasing}
use Rattle.cycle_paired.proofs.Cutting.{Going, CutDone, cut-pending, cut-offered, cut-quiet, take-open}
use Rattle.cycle_paired.proofs.Executing.{Execs}
use Rattle.cycle_paired.proofs.Ending.{HeadDone}
use Rattle.cycle_paired.proofs.Choosing.{Unreleased, Facts, CertainAt, Way, Quiet, Releases, Cuts}
use Rattle.cycle_paired.proofs.Staging.{Stage, OfferedStage}

-- Where a cycle has got to after its commit: v tells whether a word is offered, s is the start of its
-- use, and t tells whether it had its handshake.
pub record Decided (v : Bool) (s : ℕ) (t : Bool) (hart n id c : ℕ) (answered : ℕ → Bool) (fl es : List Entry) (us0 us : List Use) : Type 0 where
  pub joint : Joint hart n id c answered es us
  pub carries : (u : Use) → Carries u us0 → Carries u us
  pub execs : (k : ℕ) (o : Stepped) → Each (Execs k o) fl → Each (Execs k o) es
  pub head : HeadDone fl → HeadDone es
  pub offers : v ≡ true → t ≡ false → Each (Offers answered hart es s) us

-- the uses after a commit
abbrev pub decided_for : (hart : ℕ) → (kill release : Option Entry) → List Use → List Use
decided_for hart kill release us =
    cond (is_some kill || is_some release) (decided_by (is_some kill) (latest (record { hart = hart_if (is_some kill || is_some release) hart; id = id_in (option_or kill release) }) us) us) us

carries-decided : (kill : Bool) (o : Option Use) (u : Use) (us : List Use) → Carries u us → Carries u (decided_by kill o us)
carries-decided kill None u us c = c
carries-decided kill (Some v) u us c = go (is_decision_open v.decision)
  where
    go : (b : Bool) → Carries u (cond b (map (with_decision kill v) us) us)
    go true = carries-map u (with_decision kill v) us (leaves-decision kill v) c refl
    go false = c

-- ---- what the entries leave

-- who executes is no unknown word, and so not the offered one
exec-grown : (r k : ℕ) (o : Stepped) (x y : Entry) → Grown r x y → Execs k o x → Execs k o y
exec-grown r k o x y g h q =
    let e = h (sym g.seq ∙ q) in
    record { instr = e.instr; kind_is = g.kind ∙ e.kind_is; not_done = g.done ∙ e.not_done; memory = e.memory; at_word = e.at_word; a = e.a; b = e.b; is_it = e.is_it }

execs-grown : (r k : ℕ) (o : Stepped) (fl es : List Entry) → AllGrown r fl es → Each (Execs k o) fl → Each (Execs k o) es
execs-grown r k o fl es g h = Each-grown r (Execs k o) (Execs k o) fl es (λ x y g e. exec-grown r k o x y g e) g h

exec-released : (s k : ℕ) (o : Stepped) (x : Entry) → Execs k o x → Execs k o (with_release s x)
exec-released s k o x h q =
    let e = h q in
    record { instr = e.instr; kind_is = e.kind_is; not_done = e.not_done; memory = e.memory; at_word = e.at_word; a = e.a; b = e.b; is_it = e.is_it }

head-grown : (r : ℕ) (xs ys : List Entry) → AllGrown r xs ys → HeadDone xs → HeadDone ys
head-grown r [] [] g h = tt
head-grown r [] (y ∷ ys) g h = absurd g
head-grown r (x ∷ xs) [] g h = absurd g
head-grown r (x ∷ xs) (y ∷ ys) g h = g.0.done ∙ h

head-take : (k : ℕ) (es : List Entry) → HeadDone es → HeadDone (take k es)
head-take zero es h = tt
head-take (suc k) [] h = tt
head-take (suc k) (e ∷ es) h = h

head-released : (s : ℕ) (es : List Entry) → HeadDone es → HeadDone (map (with_release s) es)
head-released s [] h = tt
head-released s (e ∷ es) h = h

released-word : (s : ℕ) (es : List Entry) → open_word (map (with_release s) es) ≡ open_word es
released-word s es = open_word-map (with_release s) es (each _ es (λ x. record { test = refl; id = refl; word = refl }))

-- ---- the offer

-- the offered use is the latest, and has these entries' open word
offers-from : (hart : ℕ) (p : Entry) (s : ℕ) (answered : ℕ → Bool) (es fs : List Entry) (us : List Use) → Offered hart p s false answered es us → Pairs Older us → open_word fs ≡ Some (p.id, p.word) → Each (Offers answered hart fs s) us
offers-from hart p s answered es fs us o pairs key =
    let pairs' : Pairs Older (o.front ++ o.new ∷ []) = subst (Pairs Older) o.there pairs in
    let front = Each-from (λ x. Older x o.new) (Offers answered hart fs s) o.front
    (λ x k. record { latest = (let r = k.rises in let q = o.start in omega arith); own = λ e. absurd (let r = k.rises in let q = o.start in omega arith) }) (Pairs-older Older o.front o.new [] pairs') in
    let last : Offers answered hart fs s o.new = record {
      latest = (let q = o.start in omega arith);
      own = λ e. record {
        waits = ap answered o.start ∙ o.marked;
        not_released = ap is_released o.undecided;
        offered = λ a b. key ∙ ap (λ i. Some (i, p.word)) (sym o.id_is) ∙ ap (λ d. Some (o.new.key.id, d)) (sym o.word_is);
      };
    } in
    subst (Each (Offers answered hart fs s)) (sym o.there) (Each-append (Offers answered hart fs s) o.front (o.new ∷ []) front (last, tt))

offered-word : (hart : ℕ) (p : Entry) (s : ℕ) (answered : ℕ → Bool) (es : List Entry) (us : List Use) → Offered hart p s false answered es us → open_word es ≡ Some (p.id, p.word)
offered-word hart p s answered es us o =
    ap open_word o.here ∙ open_word-at o.older o.entry o.younger o.others (o.opened refl) ∙ ap (λ i. Some (i, o.entry.word)) o.entry_id ∙ ap (λ d. Some (p.id, d)) o.entry_word

offers-now : (hart : ℕ) (p : Entry) (s : ℕ) (t : Bool) (answered : ℕ → Bool) (es : List Entry) (us : List Use) → Offered hart p s t answered es us → Pairs Older us → t ≡ false → Each (Offers answered hart es s) us
offers-now hart p s true answered es us o pairs h = cc
offers-now hart p s false answered es us o pairs h = offers-from hart p s answered es es us o pairs (offered-word hart p s answered es us o)

-- a release leaves the offered use, since the named one had its handshake
offer-released : (hart s seq : ℕ) (answered : ℕ → Bool) (es : List Entry) (named u : Use) → named.start < s → Offers answered hart es s u → Offers answered hart (map (with_release seq) es) s (with_decision false named u)
offer-released hart s seq answered es named u l o = record {
  latest = o.latest;
  own = λ q.
      let w = o.own q in
      record {
        waits = w.waits;
        not_released = ap (λ x. is_released (decision_after ((u.key.hart == named.key.hart) && x) false u.decision)) (le-above u.start named.start (omega (arith, l, q)))
            ∙ ap (λ x. is_released (decision_after x false u.decision)) (and-false (u.key.hart == named.key.hart)) ∙ w.not_released;
        offered = λ a b. released-word seq es ∙ w.offered a (sym (release-kills-none _ u.decision) ∙ b);
      };
}

-- ---- each way

decided-quiet : (v : Bool) (s : ℕ) (t : Bool) (r hart n id c : ℕ) (answered : ℕ → Bool) (fl es : List Entry) (us0 us : List Use) → Stage r hart n id c answered fl es us0 us → (v ≡ true → t ≡ false → Each (Offers answered hart es s) us) → Decided v s t hart n id c answered fl es us0 us
decided-quiet v s t r hart n id c answered fl es us0 us st o = record {
  joint = st.joint;
  carries = st.carries;
  execs = λ k x h. execs-grown r k x fl es st.grown h;
  head = head-grown r fl es st.grown;
  offers = o;
}

named-earlier : (s : ℕ) (answered : ℕ → Bool) (hart : ℕ) (es : List Entry) (us front : List Use) (named : Use) (back : List Use) → us ≡ front ++ named ∷ back → answered named.start ≡ true → Each (Offers answered hart es s) us → named.start < s
named-earlier s answered hart es us front named back here a o =
    let k = Each-at (Offers answered hart es s) us front named back here o in
    let l = k.latest in
    let n : named.start ≢ s = λ q. not-both (answered named.start) (k.own q).waits a in
    omega (arith, l, n)

decided-released : (v : Bool) (s : ℕ) (t : Bool) (r hart n id c : ℕ) (answered : ℕ → Bool) (fl es : List Entry) (us0 us : List Use) (p : Entry) → CertainAt fl p → Each IsEntry fl → Stage r hart n id c answered fl es us0 us
    → (v ≡ true → t ≡ false → Each (Offers answered hart es s) us) → Decided v s t hart n id c answered fl (map (with_release p.seq) es) us0 (decided_by false (latest (record { hart = hart; id = p.id }) us) us)
decided-released v s t r hart n id c answered fl es us0 us p a ok st o =
    let okp = Each-at IsEntry fl a.older p a.younger a.here ok in
    let some = accepted-some p.response (undecided-accepted p a.undecided) in
    let ne : p.seq ≢ r = λ e. not-both (is_open p) (some-closed p some) (Each-at (OnlyOpen r) fl a.older p a.younger a.here st.only e) in
    let d = releasing r hart n id c answered fl es a.older p a.younger us a.here a.safe a.undecided okp ne st.only st.grown st.joint in
    record {
      joint = d.joint;
      carries = λ u k. carries-decided false (latest (record { hart = hart; id = p.id }) us) u us (st.carries u k);
      execs = λ k x h. Each-map (Execs k x) (Execs k x) (with_release p.seq) es (λ y e. exec-released p.seq k x y e) (execs-grown r k x fl es st.grown h);
      head = λ h. head-released p.seq es (head-grown r fl es st.grown h);
      offers = λ a b.
          let all = o a b in
          let l = named-earlier s answered hart es us d.front d.named d.back d.here d.named_answered all in
          subst (Each (Offers answered hart (map (with_release p.seq) es) s)) (sym d.uses_is)
          (Each-map (Offers answered hart es s) (Offers answered hart (map (with_release p.seq) es) s) (with_decision false d.named) us (λ u k. offer-released hart s p.seq answered es d.named u l k) all);
    }

decided-cut : (v : Bool) (s : ℕ) (t : Bool) (r hart n id c k : ℕ) (answered : ℕ → Bool) (fl es : List Entry) (us0 us vs : List Use) → Stage r hart n id c answered fl es us0 us → Joint hart n id c answered (take k es) vs → ((u : Use) → Carries u us → Carries u vs)
    → (v ≡ true → t ≡ false → Each (Offers answered hart (take k es) s) vs) → Decided v s t hart n id c answered fl (take k es) us0 vs
decided-cut v s t r hart n id c k answered fl es us0 us vs st j q o = record {
  joint = j;
  carries = λ u x. q u (st.carries u x);
  execs = λ b x h. Each-take (Execs b x) k es (execs-grown r b x fl es st.grown h);
  head = λ h. head-take k es (head-grown r fl es st.grown h);
  offers = o;
}

going-at : (r k : ℕ) (fl : List Entry) → Facts fl → Each (OnlyOpen r) fl → Each Unreleased (drop k fl) → Going r (drop k fl)
going-at r k fl f o u = record { ok = Each-drop IsEntry k fl f.ok; before = Pairs-drop Before k fl f.before; behind = Pairs-drop Behind k fl f.behind; only = Each-drop (OnlyOpen r) k fl o; unreleased = u }

-- a cut while a word is offered
cut-with-offer : (p : Entry) (s : ℕ) (t : Bool) (hart n id c k : ℕ) (answered : ℕ → Bool) (fl es : List Entry) (us0 us : List Use) → FirstAt is_open fl p → Facts fl → Each Unreleased (drop k fl) → OfferedStage p s t hart n id c answered fl es us0 us
    → (kill : Option Entry) → kill ≡ kill_among (drop k fl) (Some p) → Decided true s t hart n id c answered fl (take k es) us0 (decided_for hart kill None us)
cut-with-offer p s t hart n id c k answered fl es us0 us f facts un st kill e = go1 (find is_pending (drop k fl)) refl
  where
    going : Going p.seq (drop k fl)
    going = going-at p.seq k fl facts st.stage.only un

    before : t ≡ false → Each (Offers answered hart es s) us
    before = offers-now hart p s t answered es us st.offered st.stage.joint.older

    by : (q : Entry) → CutDone hart n id c k answered es us (decided_by true (latest (record { hart = hart; id = q.id }) us) us) → Decided true s t hart n id c answered fl (take k es) us0 (decided_for hart (Some q) None us)
    by q x = decided-cut true s t p.seq hart n id c k answered fl es us0 us (decided_by true (latest (record { hart = hart; id = q.id }) us) us) st.stage x.joint
        (λ u y. carries-decided true (latest (record { hart = hart; id = q.id }) us) u us y)
        (λ _ h. x.offers s (before h))

    quiet : find is_pending (drop k fl) ≡ None → find (has_seq p.seq) (drop k fl) ≡ None → Decided true s t hart n id c answered fl (take k es) us0 us
    quiet a b =
        let ne = Each-from (λ y. has_seq p.seq y ≡ false) (λ x. x.seq ≢ p.seq) (drop k fl) (λ x q. eqb-false x.seq p.seq q) (first-none (has_seq p.seq) (drop k fl) b) in
        let j = cut-quiet p.seq hart n id c k answered fl es us going st.stage.grown a ne st.stage.joint in
        decided-cut true s t p.seq hart n id c k answered fl es us0 us us st.stage j (λ u y. y) (λ _ h. after t st.offered h ne)
      where
        after : (t : Bool) → Offered hart p s t answered es us → t ≡ false → Each (λ x. x.seq ≢ p.seq) (drop k fl) → Each (Offers answered hart (take k es) s) us
        after true o h ne = cc
        after false o h ne =
            let ne' = Each-grown p.seq (λ x. x.seq ≢ p.seq) (λ x. x.seq ≢ o.entry.seq) (drop k fl) (drop k es) (λ x y g q z. q (sym g.seq ∙ z ∙ o.seq)) (grown-drop p.seq k fl es st.stage.grown) ne in
            let ne'' : Each (λ x. x.seq ≢ o.entry.seq) (drop k (o.older ++ o.entry ∷ o.younger)) = subst (λ l. Each (λ x. x.seq ≢ o.entry.seq) (drop k l)) o.here ne' in
            let key : open_word (take k es) ≡ Some (p.id, p.word) = ap (λ l. open_word (take k l)) o.here ∙ take-open k o.older o.entry o.younger o.others (o.opened refl) ne'' ∙ ap (λ i. Some (i, o.entry.word)) o.entry_id ∙ ap (λ d. Some (p.id, d)) o.entry_word in
            offers-from hart p s answered es (take k es) us o st.stage.joint.older key

    go2 : (o : Option Entry) → find is_pending (drop k fl) ≡ None → find (has_seq p.seq) (drop k fl) ≡ o → kill ≡ o → Decided true s t hart n id c answered fl (take k es) us0 (decided_for hart kill None us)
    go2 None a b q = subst (λ x. Decided true s t hart n id c answered fl (take k es) us0 (decided_for hart x None us)) (sym q) (quiet a b)
    go2 (Some p') a b q =
        let at = first-at (has_seq p.seq) (drop k fl) p' b in
        let sq : p'.seq ≡ p.seq = eqb-true p'.seq p.seq at.passes in
        let all : Each (λ x. x.seq ≡ p.seq → x ≡ p) fl = subst (Each (λ x. x.seq ≡ p.seq → x ≡ p)) (sym f.here) (only f.older p f.younger (subst (Pairs Before) f.here facts.before)) in
        let same : p' ≡ p = Each-at (λ x. x.seq ≡ p.seq → x ≡ p) (drop k fl) at.older p' at.younger at.here (Each-drop (λ x. x.seq ≡ p.seq → x ≡ p) k fl all) sq in
        let x = cut-offered s t hart n id c k answered fl es us p p' going st.stage.grown (ap (λ y. y.id) same) a b st.offered st.stage.joint in
        subst (λ x. Decided true s t hart n id c answered fl (take k es) us0 (decided_for hart x None us)) (sym q) (by p' x)

    go1 : (o : Option Entry) → find is_pending (drop k fl) ≡ o → Decided true s t hart n id c answered fl (take k es) us0 (decided_for hart kill None us)
    go1 None a = go2 (find (has_seq p.seq) (drop k fl)) a refl (e ∙ ap (λ o. option_or o (among (drop k fl) p)) a)
    go1 (Some q) a =
        let x = cut-pending p.seq hart n id c k answered fl es us q going st.stage.grown a st.stage.joint in
        subst (λ x. Decided true s t hart n id c answered fl (take k es) us0 (decided_for hart x None us)) (sym (e ∙ ap (λ o. option_or o (among (drop k fl) p)) a)) (by q x)

-- a cut while none is
cut-without : (s : ℕ) (t : Bool) (hart n id c k : ℕ) (answered : ℕ → Bool) (fl es : List Entry) (us0 us : List Use) → Facts fl → Each (λ e. e.seq < n) fl → Each Unreleased (drop k fl) → Stage n hart n id c answered fl es us0 us
    → (kill : Option Entry) → kill ≡ kill_among (drop k fl) None → Decided false s t hart n id c answered fl (take k es) us0 (decided_for hart kill None us)
cut-without s t hart n id c k answered fl es us0 us facts below un st kill e = go (find is_pending (drop k fl)) refl
  where
    going : Going n (drop k fl)
    going = going-at n k fl facts st.only un

    go : (o : Option Entry) → find is_pending (drop k fl) ≡ o → Decided false s t hart n id c answered fl (take k es) us0 (decided_for hart kill None us)
    go None a =
        let ne = Each-from (λ e. e.seq < n) (λ x. x.seq ≢ n) (drop k fl) (λ x l q. absurd (omega arith)) (Each-drop (λ e. e.seq < n) k fl below) in
        let j = cut-quiet n hart n id c k answered fl es us going st.grown a ne st.joint in
        let x = decided-cut false s t n hart n id c k answered fl es us0 us us st j (λ u y. y) (λ q. cc) in
        subst (λ x. Decided false s t hart n id c answered fl (take k es) us0 (decided_for hart x None us)) (sym (e ∙ ap (λ o. option_or o None) a)) x
    go (Some q) a =
        let x = cut-pending n hart n id c k answered fl es us q going st.grown a st.joint in
        let y = decided-cut false s t n hart n id c k answered fl es us0 us (decided_by true (latest (record { hart = hart; id = q.id }) us) us) st x.joint (λ u y. carries-decided true (latest (record { hart = hart; id = q.id }) us) u us y) (λ q. cc) in
        subst (λ x. Decided false s t hart n id c answered fl (take k es) us0 (decided_for hart x None us)) (sym (e ∙ ap (λ o. option_or o None) a)) y

-- ---- the commit of a cycle

pub deciding-offered : (ch : Choices) (p : Entry) (s : ℕ) (t : Bool) (hart n id c : ℕ) (answered : ℕ → Bool) (fl es : List Entry) (us0 us : List Use) → Facts fl → FirstAt is_open fl p → ch.offer ≡ Some p → Way fl ch → OfferedStage p s t hart n id c answered fl es us0 us
    → Decided true s t hart n id c answered fl (drain_step ch.drain (cut_step ch.cut (release_step ch.release es))) us0 (decided_for hart ch.kill ch.release us)
deciding-offered ch p s t hart n id c answered fl es us0 us f a o (Quiet k r u d) st =
    rw (k, r, u, d) (decided-quiet true s t p.seq hart n id c answered fl es us0 us st.stage (λ _. offers-now hart p s t answered es us st.offered st.stage.joint.older))
deciding-offered ch p s t hart n id c answered fl es us0 us f a o (Releases q k r u d x) st =
    rw (k, r, u, d) (decided-released true s t p.seq hart n id c answered fl es us0 us q x f.ok st.stage (λ _. offers-now hart p s t answered es us st.offered st.stage.joint.older))
deciding-offered ch p s t hart n id c answered fl es us0 us f a o (Cuts k r x kill un) st =
    rw (r, x es) (cut-with-offer p s t hart n id c k answered fl es us0 us a f un st ch.kill (kill ∙ ap (kill_among (drop k fl)) o))

pub deciding-quiet : (ch : Choices) (s : ℕ) (t : Bool) (hart n id c : ℕ) (answered : ℕ → Bool) (fl es : List Entry) (us0 us : List Use) → Facts fl → Each (λ e. e.seq < n) fl → ch.offer ≡ None → Way fl ch → Stage n hart n id c answered fl es us0 us
    → Decided false s t hart n id c answered fl (drain_step ch.drain (cut_step ch.cut (release_step ch.release es))) us0 (decided_for hart ch.kill ch.release us)
deciding-quiet ch s t hart n id c answered fl es us0 us f below o (Quiet k r u d) st = rw (k, r, u, d) (decided-quiet false s t n hart n id c answered fl es us0 us st (λ q. cc))
deciding-quiet ch s t hart n id c answered fl es us0 us f below o (Releases q k r u d x) st = rw (k, r, u, d) (decided-released false s t n hart n id c answered fl es us0 us q x f.ok st (λ q. cc))
deciding-quiet ch s t hart n id c answered fl es us0 us f below o (Cuts k r x kill un) st = rw (r, x es) (cut-without s t hart n id c k answered fl es us0 us f below un st ch.kill (kill ∙ ap (kill_among (drop k fl)) o))
