-- What the units leave of uses: those that are ready now have a result, and nothing else changes.
use Rattle.std.proofs.Common.{◌≡◌, ◌<◌, ◌==◌, ◌&&◌, ◌+◌, ℕ, Bool, true, false, cond, not, List, [], ◌∷◌, refl, sym, ap, ◌∙◌, subst}
use Rattle.std.specs.Prelude.{is_none, IsSome, ⊤}
use Rattle.coproc_config.specs.Set.{UnitTable}
use Rattle.xif_session.specs.Facts.{is_released, is_killed}
use Rattle.cycle_spec.specs.declared.entry.Entry.{Entry}
use Rattle.cycle_spec.specs.declared.use_of.Use.{Use}
use Rattle.cycle_spec.specs.Engine.{is_accepted, has_operands, is_complete, is_next, outcome_of, with_ready, ready_uses, ready_in_harts}
use Rattle.cycle_lists.specs.Lists.{Each, Pairs}
use Rattle.cycle_lists.proofs.Tests.{and-left, and-right}
use Rattle.cycle_paired.specs.Paired.{is_live_use, live_uses, Alike, Match, IsReady, IsUse, Older, Offers, HasResult}

-- a use before and after: it may have become ready
pub record Readied (u v : Use) : Type 0 where
  pub same : v ≡ record u { ready = v.ready; result = v.result }
  pub kept : IsSome u.ready → IsSome v.ready
  pub ready : (IsSome u.ready → IsReady u) → IsSome v.ready → IsReady u

abbrev pub AllReadied : List Use → List Use → Type 0
AllReadied [] [] = ⊤
AllReadied [] (v ∷ vs) = ⊥
AllReadied (u ∷ us) [] = ⊥
AllReadied (u ∷ us) (v ∷ vs) = Readied u v × AllReadied us vs

readied-itself : (u : Use) → Readied u u
readied-itself u = record { same = refl; kept = λ h. h; ready = λ k h. k h }

pub all-itself : (us : List Use) → AllReadied us us
all-itself [] = tt
all-itself (u ∷ us) = (readied-itself u, all-itself us)

-- from a later state of a use to the first one
was-ready : (u v : Use) → v ≡ record u { ready = v.ready; result = v.result } → IsReady v → IsReady u
was-ready u v h r = record {
  accepted = ap is_accepted (sym h) ∙ r.accepted;
  released = ap (λ x. is_released x.decision) (sym h) ∙ r.released;
  operands = ap has_operands (sym h) ∙ r.operands;
}

is-ready : (u v : Use) → v ≡ record u { ready = v.ready; result = v.result } → IsReady u → IsReady v
is-ready u v h r = record {
  accepted = ap is_accepted h ∙ r.accepted;
  released = ap (λ x. is_released x.decision) h ∙ r.released;
  operands = ap has_operands h ∙ r.operands;
}

readied-then : (u v w : Use) → Readied u v → Readied v w → Readied u w
readied-then u v w a b = record {
  same = b.same ∙ ap {A = Use} (λ x. record x { ready = w.ready; result = w.result }) a.same;
  kept = λ h. b.kept (a.kept h);
  ready = λ k h. was-ready u v a.same (b.ready (λ r. is-ready u v a.same (a.ready k r)) h);
}

all-then : (us vs ws : List Use) → AllReadied us vs → AllReadied vs ws → AllReadied us ws
all-then [] [] [] a b = tt
all-then [] [] (w ∷ ws) a b = absurd b
all-then [] (v ∷ vs) ws a b = absurd a
all-then (u ∷ us) [] ws a b = absurd a
all-then (u ∷ us) (v ∷ vs) [] a b = absurd b
all-then (u ∷ us) (v ∷ vs) (w ∷ ws) a b = (readied-then u v w a.0 b.0, all-then us vs ws a.1 b.1)

-- ---- the units

readied-now : (cycle hart result : ℕ) (u : Use) → is_next hart u ≡ true → is_complete u ≡ true → Readied u (with_ready cycle result u)
readied-now cycle hart result u n c = record {
  same = refl;
  kept = λ h. refl;
  ready = λ k h. record {
    accepted = and-left (is_accepted u) (not (is_killed u.decision) && is_none u.ready) (and-right (u.key.hart == hart) (is_accepted u && (not (is_killed u.decision) && is_none u.ready)) n);
    released = and-left (is_released u.decision) (has_operands u) c;
    operands = and-right (is_released u.decision) (has_operands u) c;
  };
}

all-ready : (set : List UnitTable) (cycle hart : ℕ) (state : List (List ℕ)) (us : List Use) → AllReadied us (ready_uses set cycle hart state us)
all-ready set cycle hart state [] = tt
all-ready set cycle hart state (u ∷ us) = go (is_next hart u) (is_complete u) refl refl (all-ready set cycle hart state us) (all-ready set cycle hart (outcome_of set state u).state us)
  where
    go : (a b : Bool) → is_next hart u ≡ a → is_complete u ≡ b → AllReadied us (ready_uses set cycle hart state us) → AllReadied us (ready_uses set cycle hart (outcome_of set state u).state us)
        → AllReadied (u ∷ us) (cond (not a) (u ∷ ready_uses set cycle hart state us) (cond b (with_ready cycle (outcome_of set state u).result u ∷ ready_uses set cycle hart (outcome_of set state u).state us) (u ∷ us)))
    go false b p q x y = (readied-itself u, x)
    go true true p q x y = (readied-now cycle hart (outcome_of set state u).result u p q, y)
    go true false p q x y = all-itself (u ∷ us)

pub all-harts : (set : List UnitTable) (cycle hart : ℕ) (states : List (List (List ℕ))) (us : List Use) → AllReadied us (ready_in_harts set cycle hart states us)
all-harts set cycle hart [] us = all-itself us
all-harts set cycle hart (state ∷ states) us =
    all-then us (ready_uses set cycle hart state us) (ready_in_harts set cycle (hart + 1) states (ready_uses set cycle hart state us)) (all-ready set cycle hart state us) (all-harts set cycle (hart + 1) states (ready_uses set cycle hart state us))

-- ---- what stays

pub Each-readied : (P Q : Use → Type 0) (us vs : List Use) → ((u v : Use) → Readied u v → P u → Q v) → AllReadied us vs → Each P us → Each Q vs
Each-readied P Q [] [] k a h = tt
Each-readied P Q [] (v ∷ vs) k a h = absurd a
Each-readied P Q (u ∷ us) [] k a h = absurd a
Each-readied P Q (u ∷ us) (v ∷ vs) k a h = (k u v a.0 h.0, Each-readied P Q us vs k a.1 h.1)

below-readied : (c : ℕ) (u v : Use) → Readied u v → u.start < c → v.start < c
below-readied c u v r h = subst (λ x. x.start < c) (sym r.same) h

pub all-below : (c : ℕ) (us vs : List Use) → AllReadied us vs → Each (λ u. u.start < c) us → Each (λ u. u.start < c) vs
all-below c us vs a h = Each-readied (λ u. u.start < c) (λ u. u.start < c) us vs (λ u v r k. below-readied c u v r k) a h

use-readied : (answered : ℕ → Bool) (u v : Use) → Readied u v → IsUse answered u → IsUse answered v
use-readied answered u v r ok = record {
  unanswered = λ h.
      let f = ok.unanswered (ap (λ x. answered x.start) (sym r.same) ∙ h) in
      record { refused = ap is_accepted r.same ∙ f.refused; not_given = ap (λ x. x.given) r.same ∙ f.not_given; unfinished = ap (λ x. x.finished) r.same ∙ f.unfinished };
  ready = λ h. is-ready u v r.same (r.ready ok.ready h);
}

pub all-uses : (answered : ℕ → Bool) (us vs : List Use) → AllReadied us vs → Each (IsUse answered) us → Each (IsUse answered) vs
all-uses answered us vs a h = Each-readied (IsUse answered) (IsUse answered) us vs (λ u v r k. use-readied answered u v r k) a h

older-readied : (u v x y : Use) → Readied u v → Readied x y → Older u x → Older v y
older-readied u v x y a b o = record {
  rises = subst (λ z. z.start < y.start) (sym a.same) (subst (λ z. u.start < z.start) (sym b.same) o.rises);
  apart = λ h i. o.apart (ap (λ z. z.key.hart) (sym a.same) ∙ h ∙ ap (λ z. z.key.hart) b.same) (ap (λ z. z.key.id) (sym a.same) ∙ i ∙ ap (λ z. z.key.id) b.same);
}

pub all-older : (us vs : List Use) → AllReadied us vs → Pairs Older us → Pairs Older vs
all-older [] [] a h = tt
all-older [] (v ∷ vs) a h = absurd a
all-older (u ∷ us) [] a h = absurd a
all-older (u ∷ us) (v ∷ vs) a h = (Each-readied (Older u) (Older v) us vs (λ x y r o. older-readied u v x y a.0 r o) a.1 h.0, all-older us vs a.1 h.1)

alike-readied : (hart : ℕ) (e : Entry) (u v : Use) → Readied u v → Alike hart e u → Alike hart e v
alike-readied hart e u v r a = subst (Alike hart e) (sym r.same)
    (record { unknown = a.unknown; hart_is = a.hart_is; id = a.id; word = a.word; response = a.response; given = a.given; decision = a.decision })

pub all-match : (hart : ℕ) (answered : ℕ → Bool) (es : List Entry) (us vs : List Use) → AllReadied us vs → Match hart es (live_uses answered us) → Match hart es (live_uses answered vs)
all-match hart answered es [] [] a m = m
all-match hart answered es [] (v ∷ vs) a m = absurd a
all-match hart answered es (u ∷ us) [] a m = absurd a
all-match hart answered es (u ∷ us) (v ∷ vs) a m =
    subst (λ t. Match hart es (cond t (v ∷ live_uses answered vs) (live_uses answered vs))) (sym (ap (is_live_use answered) a.0.same)) (go (is_live_use answered u) es m (λ fs k. all-match hart answered fs us vs a.1 k))
  where
    go : (t : Bool) (fs : List Entry) → Match hart fs (cond t (u ∷ live_uses answered us) (live_uses answered us)) → ((gs : List Entry) → Match hart gs (live_uses answered us) → Match hart gs (live_uses answered vs)) → Match hart fs (cond t (v ∷ live_uses answered vs) (live_uses answered vs))
    go true [] m k = absurd m
    go true (f ∷ fs) m k = (alike-readied hart f u v a.0 m.0, k fs m.1)
    go false fs m k = k fs m

offers-readied : (answered : ℕ → Bool) (hart : ℕ) (es : List Entry) (s : ℕ) (u v : Use) → Readied u v → Offers answered hart es s u → Offers answered hart es s v
offers-readied answered hart es s u v r o = subst (Offers answered hart es s) (sym r.same)
    (record { latest = o.latest; own = λ q. let w = o.own q in record { waits = w.waits; not_released = w.not_released; offered = w.offered } })

pub all-offers : (answered : ℕ → Bool) (hart : ℕ) (es : List Entry) (s : ℕ) (us vs : List Use) → AllReadied us vs → Each (Offers answered hart es s) us → Each (Offers answered hart es s) vs
all-offers answered hart es s us vs a h = Each-readied (Offers answered hart es s) (Offers answered hart es s) us vs (λ u v r k. offers-readied answered hart es s u v r k) a h

result-readied : (s : ℕ) (u v : Use) → Readied u v → HasResult s u → HasResult s v
result-readied s u v r h = record {
  ready = λ q. r.kept (h.ready (ap (λ x. x.start) (sym r.same) ∙ q));
  unfinished = λ q. ap (λ x. x.finished) r.same ∙ h.unfinished (ap (λ x. x.start) (sym r.same) ∙ q);
}

pub all-results : (s : ℕ) (us vs : List Use) → AllReadied us vs → Each (HasResult s) us → Each (HasResult s) vs
all-results s us vs a h = Each-readied (HasResult s) (HasResult s) us vs (λ u v r k. result-readied s u v r k) a h
