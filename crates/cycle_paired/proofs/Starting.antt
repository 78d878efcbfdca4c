-- The use of the word that is offered: its transaction goes on, or it starts.
use Rattle.std.proofs.Common.{◌≡◌, ◌≢◌, ◌<◌, ◌≤◌, ◌==◌, ◌&&◌, ◌+◌, ◌++◌, ℕ, Bool, true, false, not, List, [], ◌∷◌, filter, Option, Some, None, refl, sym, ap, ◌∙◌, subst, arith, append-nil}
use Rattle.std.specs.Prelude.{IsSome, IfSome}
use Rattle.std.proofs.lemmas.Bool.{eqb-true}
use Rattle.xif_signals.specs.declared.bus.CpuOut.{CpuOut}
use Rattle.xif_session.specs.declared.fact.Decision.{Decision}
use Rattle.xif_session.specs.declared.fact.Decision.TheVariants.{Undecided, Released, Killed}
use Rattle.xif_session.specs.Facts.{is_released, is_killed}
use Rattle.cycle_spec.specs.declared.entry.Entry.{Entry}
use Rattle.cycle_spec.specs.declared.turn.Transaction.{Transaction}
use Rattle.cycle_spec.specs.declared.use_of.Use.{Use}
use Rattle.cycle_spec.specs.Flight.{is_open}
use Rattle.cycle_spec.specs.Engine.{has_key, has_start, is_accepted, issue_key, is_offered_on, goes_on_in, new_use, start_step}
use Rattle.cycle_lists.specs.Lists.{Each, Pairs, FirstAt}
use Rattle.cycle_lists.specs.Order.{Before}
use Rattle.cycle_lists.proofs.Tests.{and-left, and-right, not-both, not-in, not-out}
use Rattle.cycle_lists.proofs.Every.{Each-front, Each-back, Each-append, Each-from, Each-both, Each-filter, Each-passed, Each-at, Each-here, Each-unfilter, Pairs-filter, Pairs-front, Pairs-older, Pairs-younger}
use Rattle.cycle_lists.proofs.Filters.{filter-all, filter-past, filter-swap}
use Rattle.cycle_lists.proofs.Places.{any-at}
use Rattle.cycle_paired.specs.Paired.{live_entries, is_live_use, live_uses, Match, IsEntry, IsUnanswered, IsUse, Older, Offers}
use Rattle.cycle_paired.proofs.Facts.{Joint, open-unknown, open-dead, open_word-first, other-ids, ready-live, unanswered-dead}
use Rattle.cycle_paired.proofs.Matching.{Match-uses, key-here, key-other}
use Rattle.cycle_paired.proofs.Carrying.{Carries, carries-filter, carries-push}

-- the uses with the one that is offered
abbrev pub started_in : Option Transaction → CpuOut → (cycle : ℕ) → List Use → List Use
started_in waiting cpu c us = start_step (cpu.issue_valid && not (goes_on_in waiting (issue_key cpu) us)) cpu c us

-- it is the last of them, and what is said of the others stays
pub record Started (hart n id c : ℕ) (answered : ℕ → Bool) (waiting : Option Transaction) (cpu : CpuOut) (es : List Entry) (p : Entry) (us : List Use) : Type 0 where
  pub front : List Use
  pub new : Use
  pub here : started_in waiting cpu c us ≡ front ++ new ∷ []
  pub joint : Joint hart n id (c + 1) answered es front
  pub before : Each (λ x. Older x new) front
  pub recent : new.start < c + 1
  pub unanswered : IsUnanswered new
  pub unready : IsSome new.ready → ⊥
  pub undecided : new.decision ≡ Undecided
  pub hart_is : new.key.hart ≡ hart
  pub id_is : new.key.id ≡ p.id
  pub word_is : new.word ≡ p.word
  pub carries : (u : Use) → Carries u us → Carries u (started_in waiting cpu c us)
  pub apart : (u : Use) → Carries u us → u.start ≢ new.start

-- the signals of the issue channel
pub record OffersWord (hart : ℕ) (cpu : CpuOut) (p : Entry) : Type 0 where
  pub valid : cpu.issue_valid ≡ true
  pub hart_is : cpu.issue_hartid ≡ hart
  pub id_is : cpu.issue_id ≡ p.id
  pub word_is : cpu.issue_instr ≡ p.word

more : (c : ℕ) (us : List Use) → Each (λ u. u.start < c) us → Each (λ u. u.start < c + 1) us
more c us h = Each-from (λ u. u.start < c) (λ u. u.start < c + 1) us (λ u k. omega arith) h

undecided-by : (d : Decision) → is_killed d ≡ false → is_released d ≡ false → d ≡ Undecided
undecided-by Undecided h k = refl
undecided-by Released h k = cc
undecided-by Killed h k = cc

-- behind the latest use there is none
none-behind : (u : Use) (us : List Use) (s : ℕ) → u.start ≡ s → Each (Older u) us → Each (λ v. v.start ≤ s) us → us ≡ []
none-behind u [] s h o k = refl
none-behind u (v ∷ us) s h o k = let r = o.0.rises in let l = k.0 in absurd (omega arith)

abbrev second : Option (ℕ × ℕ) → ℕ
second None = 0
second (Some k) = k.1

-- a use with its result isn't the new one
other-ready : (front : List Use) (new : Use) (us : List Use) → us ≡ front ++ new ∷ [] → Each (λ x. Older x new) front → (IsSome new.ready → ⊥) → (v : Use) → Carries v us → v.start ≡ new.start → ⊥
other-ready front new us here before unready v k q =
    let P = λ (x : Use). x.start ≡ new.start → IsSome x.ready → ⊥ in
    let all : Each P us = subst (Each P) (sym here) (Each-append P front (new ∷ []) (Each-from (λ x. Older x new) P front (λ x o e r. let l = o.rises in absurd (omega (arith, l, e))) before) ((λ e r. unready r), tt)) in
    Each-at P us k.front k.carried k.back k.here all (k.start ∙ q) k.ready

-- ---- the transaction goes on

continued : (hart n id c : ℕ) (answered : ℕ → Bool) (t : Transaction) (cpu : CpuOut) (es : List Entry) (p : Entry) (us : List Use)
    → OffersWord hart cpu p → FirstAt is_open es p → Each (Offers answered hart es t.owner) us → Joint hart n id c answered es us
    → goes_on_in (Some t) (issue_key cpu) us ≡ true → Started hart n id c answered (Some t) cpu es p us
continued hart n id c answered t cpu es p us w f o j e =
    let key = issue_key cpu in
    let a = any-at (is_offered_on key t.owner) us e in
    let u = a.one in
    let has = and-left (has_key key u) (has_start t.owner u && not (is_killed u.decision)) a.passes in
    let rest = and-right (has_key key u) (has_start t.owner u && not (is_killed u.decision)) a.passes in
    let at_start : u.start ≡ t.owner = eqb-true u.start t.owner (and-left (has_start t.owner u) (not (is_killed u.decision)) rest) in
    let alive : is_killed u.decision ≡ false = not-in (is_killed u.decision) (and-right (has_start t.owner u) (not (is_killed u.decision)) rest) in
    let hart_is : u.key.hart ≡ hart = eqb-true u.key.hart cpu.issue_hartid (and-left (u.key.hart == cpu.issue_hartid) (u.key.id == cpu.issue_id) has) ∙ w.hart_is in
    let id_is : u.key.id ≡ p.id = eqb-true u.key.id cpu.issue_id (and-right (u.key.hart == cpu.issue_hartid) (u.key.id == cpu.issue_id) has) ∙ w.id_is in
    let all : Each (Offers answered hart es t.owner) (a.front ++ u ∷ a.back) = subst (Each (Offers answered hart es t.owner)) a.here o in
    let own = (Each-here (Offers answered hart es t.owner) a.front u a.back all).own at_start in
    let pairs : Pairs Older (a.front ++ u ∷ a.back) = subst (Pairs Older) a.here j.older in
    let lates = Each-from (Offers answered hart es t.owner) (λ v. v.start ≤ t.owner) a.back (λ v k. k.latest) (Each-back (Offers answered hart es t.owner) a.front (u ∷ a.back) all).1 in
    let nil = none-behind u a.back t.owner at_start (Pairs-younger Older a.front u a.back pairs) lates in
    let here : us ≡ a.front ++ u ∷ [] = a.here ∙ ap (λ l. a.front ++ u ∷ l) nil in
    let ok = Each-at (IsUse answered) us a.front u [] here j.uses in
    let fresh = ok.unanswered own.waits in
    let dead : live_uses answered (a.front ++ u ∷ []) ≡ live_uses answered a.front = filter-past (is_live_use answered) a.front u [] (unanswered-dead answered u own.waits) ∙ append-nil (live_uses answered a.front) in
    let same : started_in (Some t) cpu c us ≡ us = ap (λ b. start_step (cpu.issue_valid && not b) cpu c us) e ∙ ap (λ b. start_step (b && false) cpu c us) w.valid in
    let below : Each (λ v. v.start < c) (a.front ++ u ∷ []) = subst (Each (λ v. v.start < c)) here j.below in
    let recent : u.start < c = Each-here (λ v. v.start < c) a.front u [] below in
    record {
      front = a.front;
      new = u;
      here = same ∙ here;
      joint = record {
        kept = j.kept;
        entries = j.entries;
        behind = j.behind;
        below = more c a.front (Each-front (λ v. v.start < c) a.front (u ∷ []) below);
        uses = Each-front (IsUse answered) a.front (u ∷ []) (subst (Each (IsUse answered)) here j.uses);
        older = Pairs-front Older a.front (u ∷ []) (subst (Pairs Older) here j.older);
        match = subst (Match hart (live_entries es)) dead (subst (λ l. Match hart (live_entries es) (live_uses answered l)) here j.match);
      };
      before = Pairs-older Older a.front u a.back pairs;
      recent = omega arith;
      unanswered = fresh;
      unready = λ r. not-both (is_accepted u) fresh.refused (ok.ready r).accepted;
      undecided = undecided-by u.decision alive own.not_released;
      hart_is = hart_is;
      id_is = id_is;
      word_is = ap second (sym (own.offered hart_is alive) ∙ open_word-first es p f);
      carries = λ v k. subst (Carries v) (sym same) k;
      apart = λ v k q. other-ready a.front u us here (Pairs-older Older a.front u a.back pairs) (λ r. not-both (is_accepted u) fresh.refused (ok.ready r).accepted) v k q;
    }

-- ---- a use starts

other-key : (hart id : ℕ) (u : Use) → not (has_key (record { hart = hart; id = id }) u) ≡ true → u.key.hart ≡ hart → u.key.id ≡ id → ⊥
other-key hart id u h a b = not-both (has_key (record { hart = hart; id = id }) u) (not-in (has_key (record { hart = hart; id = id }) u) h) (key-here hart id u a b)

begun : (hart n id c : ℕ) (answered : ℕ → Bool) (waiting : Option Transaction) (cpu : CpuOut) (es : List Entry) (p : Entry) (us : List Use)
    → OffersWord hart cpu p → Joint hart n id c answered es us → Each (λ u. u.key.id ≡ p.id → ⊥) (live_uses answered us)
    → goes_on_in waiting (issue_key cpu) us ≡ false → Started hart n id c answered waiting cpu es p us
begun hart n id c answered waiting cpu es p us w j other e =
    let key = issue_key cpu in
    let q = λ (u : Use). not (has_key key u) in
    let vs = filter q us in
    let new = new_use key c cpu.issue_instr in
    let below = Each-filter (λ u. u.start < c) q us j.below in
    let before = Each-both (λ u. u.start < c) (λ u. q u ≡ true) (λ u. Older u new) vs
    (λ u l k. record { rises = l; apart = λ a b. other-key cpu.issue_hartid cpu.issue_id u k a b }) below (Each-passed q us) in
    let stay : filter q (live_uses answered us) ≡ live_uses answered us = filter-all q (live_uses answered us)
    (Each-from (λ u. u.key.id ≡ p.id → ⊥) (λ u. q u ≡ true) (live_uses answered us) (λ u h. not-out (has_key key u) (key-other cpu.issue_hartid cpu.issue_id u (λ a b. h (b ∙ w.id_is)))) other) in
    let same : live_uses answered vs ≡ live_uses answered us = filter-swap (is_live_use answered) q us ∙ stay in
    let here : started_in waiting cpu c us ≡ vs ++ new ∷ [] = ap (λ b. start_step (cpu.issue_valid && not b) cpu c us) e ∙ ap (λ b. start_step (b && true) cpu c us) w.valid in
    record {
      front = vs;
      new = new;
      here = here;
      joint = record {
        kept = j.kept;
        entries = j.entries;
        behind = j.behind;
        below = more c vs below;
        uses = Each-filter (IsUse answered) q us j.uses;
        older = Pairs-filter Older q us j.older;
        match = subst (Match hart (live_entries es)) (sym same) j.match;
      };
      before = before;
      recent = omega arith;
      unanswered = record { refused = refl; not_given = refl; unfinished = refl };
      unready = λ r. cc;
      undecided = refl;
      hart_is = w.hart_is;
      id_is = w.id_is;
      word_is = w.word_is;
      carries = λ v k. subst (Carries v) (sym here) (carries-push v vs (new ∷ []) (carries-filter v q us k (kept v k)));
      apart = λ v k z. let l = Each-at (λ u. u.start < c) us k.front k.carried k.back k.here j.below in let s = k.start in absurd (omega (arith, l, s, z));
    }
  where
    kept : (v : Use) (k : Carries v us) → not (has_key (issue_key cpu) k.carried) ≡ true
    kept v k =
        let ok = Each-at (IsUse answered) us k.front k.carried k.back k.here j.uses in
        let live = ready-live answered k.carried ok k.ready k.unfinished in
        let no = Each-at (λ u. is_live_use answered u ≡ true → u.key.id ≡ p.id → ⊥) us k.front k.carried k.back k.here (Each-unfilter (λ u. u.key.id ≡ p.id → ⊥) (is_live_use answered) us other) in
        not-out (has_key (issue_key cpu) k.carried) (key-other cpu.issue_hartid cpu.issue_id k.carried (λ a b. no live (b ∙ w.id_is)))

pub starting : (hart n id c : ℕ) (answered : ℕ → Bool) (waiting : Option Transaction) (cpu : CpuOut) (es : List Entry) (p : Entry) (us : List Use)
    → OffersWord hart cpu p → FirstAt is_open es p → IfSome waiting (λ t. Each (Offers answered hart es t.owner) us) → Joint hart n id c answered es us
    → Started hart n id c answered waiting cpu es p us
starting hart n id c answered waiting cpu es p us w f o j = go waiting o (goes_on_in waiting (issue_key cpu) us) refl
  where
    before : Pairs Before (f.older ++ p ∷ f.younger)
    before = subst (Pairs Before) f.here j.kept.pairs

    oks : Each IsEntry (f.older ++ p ∷ f.younger)
    oks = subst (Each IsEntry) f.here j.entries

    ids : Each (λ e. e.id ≡ p.id → ⊥) (live_entries es)
    ids = subst (λ l. Each (λ e. e.id ≡ p.id → ⊥) (live_entries l)) (sym f.here) (other-ids f.older p f.younger before oks (open-unknown p f.passes) (open-dead p f.passes))

    other : Each (λ u. u.key.id ≡ p.id → ⊥) (live_uses answered us)
    other = Match-uses hart (λ e. e.id ≡ p.id → ⊥) (λ u. u.key.id ≡ p.id → ⊥) (live_entries es) (live_uses answered us) (λ e u a h k. h (sym a.id ∙ k)) j.match ids

    go : (o : Option Transaction) → IfSome o (λ t. Each (Offers answered hart es t.owner) us) → (b : Bool) → goes_on_in o (issue_key cpu) us ≡ b → Started hart n id c answered o cpu es p us
    go None k true e = cc
    go (Some t) k true e = continued hart n id c answered t cpu es p us w f k j e
    go o k false e = begun hart n id c answered o cpu es p us w j other e
