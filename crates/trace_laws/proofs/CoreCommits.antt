-- The commits of the core in a cycle: each names a use that is undecided, and a kill the oldest one
-- that was answered.
use Rattle.std.proofs.Common.{◌≡◌, ◌<◌, ◌≤◌, ◌++◌, ◌&&◌, ◌||◌, not, ℕ, Bool, true, false, if◌then◌else◌, Option, Some, None, List, ◌∷◌, refl, sym, ap, ◌∙◌, subst, arith, append_assoc}
use Rattle.std.specs.Prelude.{find, is_some, IsSomeAnd, IfSome}
use Rattle.std.specs.Option.{option_or, option_and_then}
use Rattle.std.proofs.lemmas.Bool.{eqb-true}
use Rattle.xif_base.specs.declared.params.Key.{Key}
use Rattle.xif_signals.specs.declared.bus.Bus.{Bus}
use Rattle.xif_session.specs.declared.fact.Decision.TheVariants.{Undecided}
use Rattle.xif_session.specs.declared.fact.Fact.{Fact}
use Rattle.xif_session.specs.declared.fact.Response.{Response}
use Rattle.xif_session.specs.Facts.{Past, is_killed, is_released, is_undecided, is_pending, is_accepted as is_response_accepted, issue_key, commit_key, is_start, starts_key, new_fact, named, undecided_start, effective_start}
use Rattle.xif_session.specs.Rules.{HoldsC1, HoldsC2, HoldsC3, NoneBefore}
use Rattle.xif_session.proofs.Options.{same_some, both-true, no_true, key_is}
use Rattle.cycle_spec.specs.declared.choices.Choices.{Choices}
use Rattle.cycle_spec.specs.declared.entry.Entry.{Entry}
use Rattle.cycle_spec.specs.declared.use_of.Use.{Use}
use Rattle.cycle_spec.specs.Flight.{is_open, is_unknown, has_seq}
use Rattle.cycle_spec.specs.Flight as flight
use Rattle.cycle_spec.specs.Choices.{choices, kill_among, among}
use Rattle.cycle_spec.specs.Core.{id_in}
use Rattle.cycle_spec.specs.Cycle.{Machines, hart_if, bus_at}
use Rattle.cycle_lists.specs.Lists.{Each, Pairs, FirstAt}
use Rattle.cycle_lists.specs.Order.{Before}
use Rattle.cycle_lists.proofs.Tests.{and-left, and-right, not-both, not-in, false-or}
use Rattle.cycle_lists.proofs.Every.{Each-from, Each-at, Each-append, Each-filter, Each-unfilter, Each-both, Pairs-younger, Each-passed}
use Rattle.cycle_lists.proofs.Places.{first-at, first-none}
use Rattle.cycle_paired.specs.Paired.{is_live, live_entries, is_live_use, live_uses, Alike, Match, IsEntry, Older, Paired, decision_of}
use Rattle.cycle_paired.proofs.Facts.{only}
use Rattle.cycle_paired.proofs.Matching.{Match-uses, Found, found}
use Rattle.trace_laws.proofs.EngineTold.{fact_of, EngineTold}
use Rattle.trace_laws.proofs.EngineSteps.{named_other, named_new}
use Rattle.trace_laws.proofs.CoreChosen.{IsCalm, Commits, Nothing, ARelease, AKill, Chosen}
use Rattle.trace_laws.proofs.CoreRules as rules
use Rattle.trace_laws.proofs.CoreRules.{Linked, LiveUse, live_use, undecided_unkilled, undecided_unreleased, offered_apart}

-- ---- what a kill names

pub data Killed_by (gone : List Entry) (offer : Option Entry) (v : Entry) : Type 0 where
  OfUse : FirstAt flight.is_pending gone v → Killed_by gone offer v
  OfWord : Each IsCalm gone → (e : Entry) → offer ≡ Some e → FirstAt (has_seq e.seq) gone v → Killed_by gone offer v

pub killed_by : (gone : List Entry) (offer : Option Entry) (v : Entry) → kill_among gone offer ≡ Some v → Killed_by gone offer v
killed_by gone offer v h = go (find flight.is_pending gone) refl offer refl h
  where
    go : (o : Option Entry) → find flight.is_pending gone ≡ o → (f : Option Entry) → offer ≡ f → option_or o (option_and_then (among gone) f) ≡ Some v → Killed_by gone offer v
    go (Some x) q f r k = OfUse (first-at flight.is_pending gone v (q ∙ k))
    go None q None r k = cc
    go None q (Some e) r k = OfWord (first-none flight.is_pending gone q) e r (first-at (has_seq e.seq) gone v k)

-- what is pending is live
pub pending_live : (e : Entry) → IsEntry e → flight.is_pending e ≡ true → is_live e ≡ true
pending_live e ok h =
    let s = and-left (is_some e.response) (not e.released) h in
    let d : e.done ≡ false = false-or e.done (λ d. not-both e.released (not-in e.released (and-right (is_some e.response) (not e.released) h)) (ok.done_released (ok.answered s) d)) in
    rw (s, d) refl

calm_released : (e : Entry) → is_live e ≡ true → IsCalm e → e.released ≡ true
calm_released e l c = go (is_some e.response) e.released (and-left (is_some e.response) (not e.done) l) c
  where
    go : (a r : Bool) → a ≡ true → (a && not r) ≡ false → r ≡ true
    go a true h k = refl
    go true false h k = cc
    go false false h k = cc

-- the use of a live entry that is calm is decided
decided : (hart : ℕ) (e : Entry) (u : Use) → Alike hart e u → e.released ≡ true → is_undecided u.decision ≡ false
decided hart e u a r = ap is_undecided (a.decision ∙ ap decision_of r)

calm_decided : (hart : ℕ) (answered : ℕ → Bool) (es : List Entry) (us : List Use) → Match hart (live_entries es) (live_uses answered us) → Each IsCalm es → Each (λ u. is_live_use answered u ≡ true → is_undecided u.decision ≡ false) us
calm_decided hart answered es us m h =
    Each-unfilter (λ u. is_undecided u.decision ≡ false) (is_live_use answered) us
    (Match-uses hart (λ e. e.released ≡ true) (λ u. is_undecided u.decision ≡ false) (live_entries es) (live_uses answered us) (decided hart) m
    (Each-both (λ e. is_live e ≡ true) IsCalm (λ e. e.released ≡ true) (live_entries es) calm_released (Each-passed is_live es) (Each-filter IsCalm is_live es h)))

and_some : (o : Option Fact) (P : Fact → Type 0) → IsSomeAnd o P → is_some o ≡ true
and_some None P h = absurd h
and_some (Some f) P h = refl

and_if : (o : Option Fact) (P Q : Fact → Type 0) → ((f : Fact) → P f → Q f) → IsSomeAnd o P → IfSome o Q
and_if None P Q k h = absurd h
and_if (Some f) P Q k h = k f h

and_and : (o : Option Fact) (P Q : Fact → Type 0) → ((f : Fact) → P f → Q f) → IsSomeAnd o P → IsSomeAnd o Q
and_and None P Q k h = absurd h
and_and (Some f) P Q k h = k f h

module _ (hart : ℕ) (m : Machines) (p : Past) (k : Paired hart m) (t : EngineTold m.engine m.engine.params.num_harts p) (l : Linked k.answered p.facts) (below : hart < m.engine.params.num_harts) (c : Chosen m.core.params.split m.core.flight (choices m.core)) where
  abbrev bus : Bus
  bus = bus_at m hart

  abbrev ch : Choices
  ch = choices m.core

  abbrev key_of : Entry → Key
  key_of e = record { hart = hart; id = e.id }

  kill_key : (v : Entry) → ch.kill ≡ Some v → commit_key bus ≡ key_of v
  kill_key v h = ap (λ o. record { hart = hart_if (is_some o || is_some ch.release) hart; id = id_in (option_or o ch.release) }) h

  release_key : (v : Entry) → ch.kill ≡ None → ch.release ≡ Some v → commit_key bus ≡ key_of v
  release_key v n h =
      ap (λ o. record { hart = hart_if (is_some o || is_some ch.release) hart; id = id_in (option_or o ch.release) }) n
      ∙ ap (λ o. record { hart = hart_if (is_some o) hart; id = id_in o }) h

  pending_undecided : (older : List Entry) (v : Entry) (younger : List Entry) → m.core.flight ≡ older ++ v ∷ younger → flight.is_pending v ≡ true → IsSomeAnd (named p bus (key_of v)) (λ f. f.decision ≡ Undecided)
  pending_undecided older v younger here h =
      let ok = Each-at IsEntry m.core.flight older v younger here k.entries in
      let u = rules.partner hart m p k t l below c older v younger here (pending_live v ok h) in
      rules.named_and hart m p k t l below c (key_of v) (λ f. f.decision ≡ Undecided) (fact_of u.one u.told.response u.told.flags) u.there
      (u.alike.decision ∙ ap decision_of (not-in v.released (and-right (is_some v.response) (not v.released) h))) refl

  offered_undecided : (v : Entry) → ch.offer ≡ Some v → IsSomeAnd (named p bus (key_of v)) (λ f. f.decision ≡ Undecided)
  offered_undecided v h = and_and (named p bus (key_of v)) (λ f. (f.response ≡ None) × (f.decision ≡ Undecided)) (λ f. f.decision ≡ Undecided) (λ f x. x.1) (rules.offered hart m p k t l below c v h)

  -- the word that is offered, in its place
  offered_is : (e : Entry) → ch.offer ≡ Some e → (older : List Entry) (v : Entry) (younger : List Entry) → m.core.flight ≡ older ++ v ∷ younger → v.seq ≡ e.seq → v ≡ e
  offered_is e h older v younger here s =
      let f = rules.if_at (FirstAt is_open m.core.flight) ch.offer e h c.offer in
      let all : Each (λ x. x.seq ≡ e.seq → x ≡ e) m.core.flight = subst (Each (λ x. x.seq ≡ e.seq → x ≡ e)) (sym f.here) (only f.older e f.younger (subst (Pairs Before) f.here k.order.pairs)) in
      Each-at (λ x. x.seq ≡ e.seq → x ≡ e) m.core.flight older v younger here all s

  in_flight : (kept gone older : List Entry) (v : Entry) (younger : List Entry) → m.core.flight ≡ kept ++ gone → gone ≡ older ++ v ∷ younger → m.core.flight ≡ (kept ++ older) ++ v ∷ younger
  in_flight kept gone older v younger q r = q ∙ ap (λ xs. kept ++ xs) r ∙ sym (append_assoc kept older (v ∷ younger))

  kill_undecided : (kept gone : List Entry) (v : Entry) → m.core.flight ≡ kept ++ gone → Killed_by gone ch.offer v → IsSomeAnd (named p bus (key_of v)) (λ f. f.decision ≡ Undecided)
  kill_undecided kept gone v q (OfUse f) = pending_undecided (kept ++ f.older) v f.younger (in_flight kept gone f.older v f.younger q f.here) f.passes
  kill_undecided kept gone v q (OfWord n e h f) =
      let same : v ≡ e = offered_is e h (kept ++ f.older) v f.younger (in_flight kept gone f.older v f.younger q f.here) (eqb-true v.seq e.seq f.passes) in
      subst (λ x. IsSomeAnd (named p bus (key_of x)) (λ f. f.decision ≡ Undecided)) (sym same) (offered_undecided e h)

  undecided_use : (e : Entry) → flight.is_undecided e ≡ true → flight.is_pending e ≡ true
  undecided_use e h = go e.response h
    where
      go : (o : Option Response) → (is_response_accepted o && not e.released) ≡ true → (is_some o && not e.released) ≡ true
      go None h = cc
      go (Some r) h = and-right r.accept (not e.released) h

  -- a commit names an undecided use
  commit_undecided : bus.commit_valid ≡ true → IsSomeAnd (named p bus (commit_key bus)) (λ f. f.decision ≡ Undecided)
  commit_undecided v = go c.commit
    where
      go : Commits m.core.flight ch → IsSomeAnd (named p bus (commit_key bus)) (λ f. f.decision ≡ Undecided)
      go (Nothing n r) = no_true (is_some ch.kill || is_some ch.release) v (ap (λ o. is_some o || is_some ch.release) n ∙ ap is_some r)
      go (ARelease x n r at) =
          subst (λ key. IsSomeAnd (named p bus key) (λ f. f.decision ≡ Undecided)) (sym (release_key x n r)) (pending_undecided at.older x at.younger at.here (undecided_use x at.undecided))
      go (AKill kept gone q x h a calm) =
          subst (λ key. IsSomeAnd (named p bus key) (λ f. f.decision ≡ Undecided)) (sym (kill_key x h)) (kill_undecided kept gone x q (killed_by gone ch.offer x a))

  pub keeps_c1 : HoldsC1 p bus
  keeps_c1 v = and_some (named p bus (commit_key bus)) (λ f. f.decision ≡ Undecided) (commit_undecided v)

  pub keeps_c2 : HoldsC2 p bus
  keeps_c2 v n = and_if (named p bus (commit_key bus)) (λ f. f.decision ≡ Undecided) (λ f. is_killed f.decision ≡ false) (λ f q. ap is_killed q) (commit_undecided v)

  -- ---- the order of kills

  -- an answered, undecided use before the cycle
  waiting_use : (id : ℕ) (f : Fact) → named p bus (record { hart = hart; id = id }) ≡ Some f → is_pending (Some f) ≡ true → LiveUse m p k.answered (record { hart = hart; id = id }) f
  waiting_use id f q h = go (starts_key p bus (record { hart = hart; id = id })) refl
    where
      go : (s : Bool) → starts_key p bus (record { hart = hart; id = id }) ≡ s → LiveUse m p k.answered (record { hart = hart; id = id }) f
      go true s =
          let new : f ≡ new_fact p.cycle bus.issue_instr = same_some (named p bus (record { hart = hart; id = id })) _ _ q (named_new p bus (record { hart = hart; id = id }) s) in
          no_true (is_pending (Some f)) h (ap (λ x. is_pending (Some x)) new)
      go false s =
          let old : p.facts (record { hart = hart; id = id }) ≡ Some f = sym (named_other p bus (record { hart = hart; id = id }) s) ∙ q in
          let both = both-true (is_some f.response) _ h in
          rules.undecided_live m p k.answered (record { hart = hart; id = id }) f t l old both.0 both.1

  -- the use that the kill names, by the facts
  named_start : (older : List Entry) (v : Entry) (younger : List Entry) (fd : Found hart k.answered older v younger m.engine.uses) → ch.kill ≡ Some v → (start : ℕ) → effective_start p bus ≡ Some start → start ≡ fd.partner.start
  named_start older v younger fd h start e =
      let u = rules.partner_is hart m p k t l below c older v younger fd in
      let there : named p bus (commit_key bus) ≡ Some (fact_of fd.partner u.told.response u.told.flags) = ap (named p bus) (kill_key v h) ∙ named_other p bus (key_of v) unstarted ∙ u.there in
      go bus.commit_valid (is_undecided fd.partner.decision) (sym (ap (λ o. if bus.commit_valid then undecided_start o else None) there) ∙ e)
    where
      go : (x y : Bool) {n : ℕ} → (if x then if y then Some n else None else None) ≡ Some start → start ≡ n
      go true true z = sym (same_some _ _ _ refl z)
      go true false z = cc
      go false y z = cc

      unstarted : starts_key p bus (key_of v) ≡ false
      unstarted = false-or (starts_key p bus (key_of v)) (λ s.
          let both = both-true (is_start p bus) _ s in
          rules.some_case ch.offer ⊥ (both-true bus.issue_valid _ both.0).0 (λ x o.
          let f = rules.if_at (FirstAt is_open m.core.flight) ch.offer x o c.offer in
          let id : x.id ≡ v.id = ap id_in (sym o) ∙ ap (λ y. y.id) (key_is (issue_key bus) (key_of v) both.1) in
          Each-at (λ u. is_live_use k.answered u ≡ true → u.key.id ≡ x.id → ⊥) m.engine.uses fd.front fd.partner fd.back fd.here (offered_apart hart m k x f) fd.live_is (fd.alike.id ∙ sym id)))

  -- of a kill of a use: each that waits is it or a younger one
  none_before : (kept gone : List Entry) (v : Entry) → m.core.flight ≡ kept ++ gone → Each IsCalm kept → ch.kill ≡ Some v → Killed_by gone ch.offer v → (start : ℕ) → effective_start p bus ≡ Some start
      → Each (λ u. is_live_use k.answered u ≡ true → is_undecided u.decision ≡ true → start ≤ u.start) m.engine.uses
  none_before kept gone v q calm h (OfWord n e o f) start s =
      Each-from (λ u. is_live_use k.answered u ≡ true → is_undecided u.decision ≡ false) (λ u. is_live_use k.answered u ≡ true → is_undecided u.decision ≡ true → start ≤ u.start) m.engine.uses
      (λ u d live und. no_true (is_undecided u.decision) und (d live))
      (calm_decided hart k.answered m.core.flight m.engine.uses k.match (subst (Each IsCalm) (sym q) (Each-append IsCalm kept gone calm n)))
  none_before kept gone v q calm h (OfUse f) start s =
      let here = in_flight kept gone f.older v f.younger q f.here in
      let live = pending_live v (Each-at IsEntry m.core.flight (kept ++ f.older) v f.younger here k.entries) f.passes in
      let fd = found hart k.answered (kept ++ f.older) v f.younger m.engine.uses live k.older (subst (λ es. Match hart (live_entries es) (live_uses k.answered m.engine.uses)) here k.match) in
      let same : start ≡ fd.partner.start = named_start (kept ++ f.older) v f.younger fd h start s in
      let order : Pairs Older (fd.front ++ fd.partner ∷ fd.back) = subst (Pairs Older) fd.here k.older in
      let P = λ (u : Use). is_live_use k.answered u ≡ true → is_undecided u.decision ≡ true → start ≤ u.start in
      subst (Each P) (sym fd.here)
      (Each-append P fd.front (fd.partner ∷ fd.back)
      (Each-from (λ u. is_live_use k.answered u ≡ true → is_undecided u.decision ≡ false) P fd.front (λ u d live und. no_true (is_undecided u.decision) und (d live))
      (calm_decided hart k.answered (kept ++ f.older) fd.front fd.lefts (Each-append IsCalm kept f.older calm f.others)))
      (λ live und. omega (arith, same), Each-from (Older fd.partner) P fd.back (λ u o live und. let r = o.rises in omega (arith, same, r)) (Pairs-younger Older fd.front fd.partner fd.back order)))

  in_order : (v : Entry) → ch.kill ≡ Some v → (start : ℕ) → effective_start p bus ≡ Some start → NoneBefore m.engine.params (named p bus) hart start
  in_order v h start s id f _ q pending = go c.commit
    where
      at : Each (λ u. is_live_use k.answered u ≡ true → is_undecided u.decision ≡ true → start ≤ u.start) m.engine.uses → start ≤ f.start
      at all =
          let u = waiting_use id f q pending in
          let und : is_undecided u.one.decision ≡ true = ap (λ x. is_undecided x.decision) u.same ∙ (both-true (is_some f.response) _ pending).1 in
          subst (λ n. start ≤ n) (ap (λ x. x.start) u.same) (Each-at (λ u. is_live_use k.answered u ≡ true → is_undecided u.decision ≡ true → start ≤ u.start) m.engine.uses u.front u.one u.back u.here all u.live und)

      go : Commits m.core.flight ch → start ≤ f.start
      go (Nothing n r) = let bad : None ≡ Some v = sym n ∙ h in cc
      go (ARelease x n r a) = let bad : None ≡ Some v = sym n ∙ h in cc
      go (AKill kept gone e x z a calm) = at (none_before kept gone x e calm z (killed_by gone ch.offer x a) start s)

  pub keeps_c3 : HoldsC3 m.engine.params p bus
  keeps_c3 = record {
    unreleased = λ v n. and_if (named p bus (commit_key bus)) (λ f. f.decision ≡ Undecided) (λ f. is_released f.decision ≡ false) (λ f q. ap is_released q) (commit_undecided v);
    in_order = λ two kill start s. rules.some_case ch.kill (NoneBefore m.engine.params (named p bus) bus.commit_hartid start) kill
        (λ v h. subst (λ n. NoneBefore m.engine.params (named p bus) n start) (sym (ap (λ o. hart_if (is_some o || is_some ch.release) hart) h)) (in_order v h start s));
  }
