-- The core keeps its rules in a cycle, beside the engine that it is paired with: its live entries
-- are the engine's live uses, and those are what the buses say.
use Rattle.std.proofs.Common.{◌≡◌, ◌<◌, ◌++◌, ◌==◌, ◌&&◌, ◌||◌, not, ℕ, Bool, true, false, Option, Some, None, List, ◌∷◌, refl, sym, ap, ◌∙◌, subst, arith}
use Rattle.std.specs.Prelude.{is_some, IsSomeAnd, IfSome}
use Rattle.xif_base.specs.declared.params.Key.{Key}
use Rattle.xif_base.specs.declared.flags.ReadFlags.{ReadFlags}
use Rattle.xif_signals.specs.declared.bus.Bus.{Bus}
use Rattle.xif_session.specs.declared.fact.Response.{Response}
use Rattle.xif_session.specs.declared.fact.Decision.{Decision}
use Rattle.xif_session.specs.declared.fact.Decision.TheVariants.{Undecided, Released, Killed}
use Rattle.xif_session.specs.declared.fact.Fact.{Fact}
use Rattle.xif_session.specs.Facts.{Facts, Past, same_key, has_killed, is_killed, is_released, is_undecided, is_in_flight, issue_key, register_key, issue_waits, issue_continues, is_start, starts_key, new_fact, named}
use Rattle.xif_session.specs.Rules.{HoldsI1, HoldsI2, HoldsG1Core, HoldsG2}
use Rattle.xif_session.proofs.Options.{same_some, both-true, and-true, no_true, not_in, key_is, key_same}
use Rattle.cycle_spec.specs.declared.choices.Choices.{Choices}
use Rattle.cycle_spec.specs.declared.choices.Presented.{Presented}
use Rattle.cycle_spec.specs.declared.entry.Entry.{Entry}
use Rattle.cycle_spec.specs.declared.turn.Transaction.{Transaction}
use Rattle.cycle_spec.specs.declared.use_of.Use.{Use}
use Rattle.cycle_spec.specs.Flight.{is_open, is_unknown, is_waiting}
use Rattle.cycle_spec.specs.Flight as flight
use Rattle.cycle_spec.specs.Choices.{choices}
use Rattle.cycle_spec.specs.Core.{id_in, word_in, presented_id}
use Rattle.cycle_spec.specs.Engine.{has_key}
use Rattle.cycle_spec.specs.Cycle.{Machines, hart_if, bus_at}
use Rattle.cycle_lists.specs.Lists.{Each, Pairs, FirstAt}
use Rattle.cycle_lists.specs.Order.{Before}
use Rattle.cycle_lists.proofs.Tests.{and-left, and-right, not-both, not-in, false-or, or-cases}
use Rattle.cycle_lists.proofs.Every.{Each-at, Each-unfilter}
use Rattle.cycle_lists.proofs.Places.{any-at}
use Rattle.cycle_paired.specs.Paired.{is_live, live_entries, is_live_use, live_uses, Alike, Match, IsEntry, open_word, Offers, Paired}
use Rattle.cycle_paired.proofs.Facts.{open-unknown, open-dead, open_word-first, other-ids, waiting-live}
use Rattle.cycle_paired.proofs.Matching.{Match-uses, Found, found}
use Rattle.cycle_paired.proofs.Choosing.{Presents}
use Rattle.trace_laws.proofs.EngineTold.{fact_of, Told, Orderly, EngineTold, IssueTold}
use Rattle.trace_laws.proofs.EngineSteps.{named_other, named_new}
use Rattle.trace_laws.proofs.CoreChosen.{Chosen}

-- which starts had their issue handshake
abbrev pub Linked : (ℕ → Bool) → Facts → Type 0
Linked answered facts = (key : Key) (f : Fact) → facts key ≡ Some f → answered f.start ≡ is_some f.response

-- ---- of decisions

pub undecided_unkilled : (d : Decision) → is_undecided d ≡ true → is_killed d ≡ false
undecided_unkilled Undecided h = refl
undecided_unkilled Released h = cc
undecided_unkilled Killed h = cc

pub undecided_unreleased : (d : Decision) → is_undecided d ≡ true → is_released d ≡ false
undecided_unreleased Undecided h = refl
undecided_unreleased Released h = cc
undecided_unreleased Killed h = cc

-- ---- a live use of the engine, by the facts of its key

pub record LiveUse (m : Machines) (p : Past) (answered : ℕ → Bool) (key : Key) (f : Fact) : Type 0 where
  pub front : List Use
  pub one : Use
  pub back : List Use
  pub here : m.engine.uses ≡ front ++ one ∷ back
  pub key_is : one.key ≡ key
  pub told : Told p.facts m.engine.params.num_harts one
  pub same : fact_of one told.response told.flags ≡ f
  pub live : is_live_use answered one ≡ true

live_test : (a k f : Bool) → a ≡ true → k ≡ false → f ≡ false → (a && (not k && not f)) ≡ true
live_test true false false h i j = refl
live_test true false true h i j = cc
live_test true true f h i j = cc
live_test false k f h i j = cc

pub live_use : (m : Machines) (p : Past) (answered : ℕ → Bool) (key : Key) (f : Fact) → EngineTold m.engine m.engine.params.num_harts p → Linked answered p.facts
    → p.facts key ≡ Some f → is_some f.response ≡ true → is_killed f.decision ≡ false → f.finished ≡ false → LiveUse m p answered key f
live_use m p answered key f t l q r k e =
    let a = any-at (has_key key) m.engine.uses (t.covers key (ap is_some q)) in
    let told = Each-at (Told p.facts m.engine.params.num_harts) m.engine.uses a.front a.one a.back a.here t.each in
    let key_is : a.one.key ≡ key = key_is a.one.key key a.passes in
    let same : fact_of a.one told.response told.flags ≡ f = same_some (p.facts key) _ f (ap p.facts (sym key_is) ∙ told.is_fact) q in
    record {
      front = a.front;
      one = a.one;
      back = a.back;
      here = a.here;
      key_is = key_is;
      told = told;
      same = same;
      live = live_test (answered a.one.start) (is_killed a.one.decision) a.one.finished (ap answered (ap (λ x. x.start) same) ∙ l key f q ∙ r) (ap (λ x. is_killed x.decision) same ∙ k) (ap (λ x. x.finished) same ∙ e);
    }

-- of one that waits for a decision
pub undecided_live : (m : Machines) (p : Past) (answered : ℕ → Bool) (key : Key) (f : Fact) → EngineTold m.engine m.engine.params.num_harts p → Linked answered p.facts
    → p.facts key ≡ Some f → is_some f.response ≡ true → is_undecided f.decision ≡ true → LiveUse m p answered key f
undecided_live m p answered key f t l q r u =
    let a = any-at (has_key key) m.engine.uses (t.covers key (ap is_some q)) in
    let told = Each-at (Told p.facts m.engine.params.num_harts) m.engine.uses a.front a.one a.back a.here t.each in
    let same : fact_of a.one told.response told.flags ≡ f = same_some (p.facts key) _ f (ap p.facts (sym (key_is a.one.key key a.passes)) ∙ told.is_fact) q in
    live_use m p answered key f t l q r (undecided_unkilled f.decision u)
    (false-or f.finished (λ e. not-both (is_released f.decision) (undecided_unreleased f.decision u) (ap (λ x. is_released x.decision) (sym same) ∙ told.ended (ap (λ x. x.finished) same ∙ e))))

-- what an entry is, its use is
pub each_live : (hart : ℕ) (m : Machines) (k : Paired hart m) (P : Entry → Type 0) (Q : Use → Type 0) → ((e : Entry) (u : Use) → Alike hart e u → P e → Q u) → Each P (live_entries m.core.flight)
    → Each (λ u. is_live_use k.answered u ≡ true → Q u) m.engine.uses
each_live hart m k P Q f h = Each-unfilter Q (is_live_use k.answered) m.engine.uses (Match-uses hart P Q (live_entries m.core.flight) (live_uses k.answered m.engine.uses) f k.match h)

-- the ids of live uses differ from that of the word that is offered
pub offered_apart : (hart : ℕ) (m : Machines) (k : Paired hart m) (e : Entry) → FirstAt is_open m.core.flight e → Each (λ u. is_live_use k.answered u ≡ true → u.key.id ≡ e.id → ⊥) m.engine.uses
offered_apart hart m k e f =
    let order : Pairs Before (f.older ++ e ∷ f.younger) = subst (Pairs Before) f.here k.order.pairs in
    let entries : Each IsEntry (f.older ++ e ∷ f.younger) = subst (Each IsEntry) f.here k.entries in
    let others = other-ids f.older e f.younger order entries (open-unknown e f.passes) (open-dead e f.passes) in
    each_live hart m k (λ x. x.id ≡ e.id → ⊥) (λ u. u.key.id ≡ e.id → ⊥) (λ x u a n i. n (sym a.id ∙ i)) (subst (λ es. Each (λ x. x.id ≡ e.id → ⊥) (live_entries es)) (sym f.here) others)

-- what is in flight by the facts is live
flying : (profile : ℕ) (f : Fact) → is_in_flight profile (Some f) ≡ true → (f.finished ≡ true → is_released f.decision ≡ true) → (is_some f.response ≡ true) × ((is_killed f.decision ≡ false) × (f.finished ≡ false))
flying profile f h e = go f.response h
  where
    held : (d : Decision) (fin : Bool) → is_undecided d ≡ true → (fin ≡ true → is_released d ≡ true) → fin ≡ false
    held d true u g = no_true (is_released d) (g refl) (undecided_unreleased d u)
    held d false u g = refl

    running : (a k fin : Bool) → (a && not (k || fin)) ≡ true → (k ≡ false) × (fin ≡ false)
    running true false false h = (refl, refl)
    running true false true h = cc
    running true true fin h = cc
    running false k fin h = cc

    refused : (a u : Bool) → (a && u) ≡ true → u ≡ true
    refused true u h = h
    refused false u h = cc

    go : (r : Option Response) → is_in_flight profile (Some (record f { response = r })) ≡ true → (is_some r ≡ true) × ((is_killed f.decision ≡ false) × (f.finished ≡ false))
    go None h = cc
    go (Some r) h = (
      refl,
      or-cases (r.accept && not (is_killed f.decision || f.finished)) ((not r.accept && is_undecided f.decision) && (profile == 2)) ((is_killed f.decision ≡ false) × (f.finished ≡ false)) h
          (λ x. running r.accept (is_killed f.decision) f.finished x)
          (λ x. let u = refused (not r.accept) (is_undecided f.decision) (and-left (not r.accept && is_undecided f.decision) (profile == 2) x) in (undecided_unkilled f.decision u, held f.decision f.finished u e)),
    )

some_none : {A : Type 0} (o : Option A) → is_some o ≡ false → o ≡ None
some_none None h = refl
some_none (Some x) h = cc

pub some_case : {A : Type 0} (o : Option A) (P : Type 0) → is_some o ≡ true → ((x : A) → o ≡ Some x → P) → P
some_case None P h k = cc
some_case (Some x) P h k = k x refl

pub if_at : {A : Type 0} (P : A → Type 0) (o : Option A) (x : A) → o ≡ Some x → IfSome o P → P x
if_at P o x q h = subst (λ y. IfSome y P) q h

pub and_at : {A : Type 0} (P : A → Type 0) (o : Option A) (x : A) → o ≡ Some x → P x → IsSomeAnd o P
and_at P o x q h = subst (λ y. IsSomeAnd y P) (sym q) h

module _ (hart : ℕ) (m : Machines) (p : Past) (k : Paired hart m) (t : EngineTold m.engine m.engine.params.num_harts p) (l : Linked k.answered p.facts) (below : hart < m.engine.params.num_harts) (c : Chosen m.core.params.split m.core.flight (choices m.core)) where
  abbrev bus : Bus
  bus = bus_at m hart

  abbrev ch : Choices
  ch = choices m.core

  abbrev harts : ℕ
  harts = m.engine.params.num_harts

  hart_on : (valid : Bool) → hart_if valid hart < harts
  hart_on true = below
  hart_on false = omega arith

  -- the key of the word that is offered
  offer_key : (e : Entry) → ch.offer ≡ Some e → issue_key bus ≡ record { hart = hart; id = e.id }
  offer_key e h = ap (λ o. record { hart = hart_if (is_some o) hart; id = id_in o }) h

  -- the transaction that waits is the word's, if it wasn't killed
  continued : (e : Entry) → ch.offer ≡ Some e → issue_continues p bus ≡ true → (w : Option Transaction) → m.engine.issue_turns.waiting ≡ w → IssueTold w p
      → (e.word ≡ p.last.issue_instr) × IsSomeAnd (p.facts (issue_key bus)) (λ f. (f.response ≡ None) × (f.decision ≡ Undecided))
  continued e h i None q w = no_true (issue_waits p.last) (both-true (issue_waits p.last) _ i).0 w
  continued e h i (Some x) q w =
      let i1 = (both-true bus.issue_valid _ (both-true (issue_waits p.last) _ i).1).1 in
      let i2 = both-true (same_key (issue_key p.last) (issue_key bus)) _ i1 in
      let there : p.facts (issue_key bus) ≡ Some w.fact = ap p.facts (sym (key_is (issue_key p.last) (issue_key bus) i2.0)) ∙ w.there in
      let a = any-at (has_key (issue_key bus)) m.engine.uses (t.covers (issue_key bus) (ap is_some there)) in
      let told = Each-at (Told p.facts harts) m.engine.uses a.front a.one a.back a.here t.each in
      let key : a.one.key ≡ issue_key bus = key_is a.one.key (issue_key bus) a.passes in
      let same : fact_of a.one told.response told.flags ≡ w.fact = same_some (p.facts (issue_key bus)) _ w.fact (ap p.facts (sym key) ∙ told.is_fact) there in
      let alive : is_killed w.fact.decision ≡ false = ap has_killed (sym there) ∙ not_in (has_killed (p.facts (issue_key bus))) i2.1 in
      let offers : Each (Offers k.answered hart m.core.flight x.owner) m.engine.uses = if_at (λ t. Each (Offers k.answered hart m.core.flight t.owner) m.engine.uses) m.engine.issue_turns.waiting x q k.offers in
      let own = (Each-at (Offers k.answered hart m.core.flight x.owner) m.engine.uses a.front a.one a.back a.here offers).own (ap (λ f. f.start) same ∙ w.start) in
      let word : open_word m.core.flight ≡ Some (a.one.key.id, a.one.word) = own.offered (ap (λ y. y.hart) (key ∙ offer_key e h)) (ap (λ f. is_killed f.decision) same ∙ alive) in
      let first = if_at (FirstAt is_open m.core.flight) ch.offer e h c.offer in
      let both : (e.id, e.word) ≡ (a.one.key.id, a.one.word) = same_some (open_word m.core.flight) _ _ (open_word-first m.core.flight e first) word in (
        ap (λ y. y.1) both ∙ ap (λ f. f.instr) same ∙ w.word,
        and_at (λ f. (f.response ≡ None) × (f.decision ≡ Undecided)) (p.facts (issue_key bus)) w.fact there (w.response, undecided w.fact.decision alive (ap (λ f. is_released f.decision) (sym same) ∙ own.not_released)),
      )
    where
      undecided : (d : Decision) → is_killed d ≡ false → is_released d ≡ false → d ≡ Undecided
      undecided Undecided h i = refl
      undecided Released h i = cc
      undecided Killed h i = cc

  keeps_i1 : HoldsI1 p bus
  keeps_i1 i =
      let v = (both-true bus.issue_valid _ (both-true (issue_waits p.last) _ i).1).0 in
      some_case ch.offer (bus.issue_instr ≡ p.last.issue_instr) v (λ e h. ap word_in h ∙ (continued e h i m.engine.issue_turns.waiting refl t.issue).0)

  keeps_i2 : HoldsI2 m.engine.params p bus
  keeps_i2 s = false-or _ (λ busy.
      let v = (both-true bus.issue_valid _ s).0 in
      some_case ch.offer ⊥ v (λ e h. go e h (p.facts (issue_key bus)) refl busy))
    where
      go : (e : Entry) → ch.offer ≡ Some e → (o : Option Fact) → p.facts (issue_key bus) ≡ o → is_in_flight m.engine.params.profile o ≡ true → ⊥
      go e h None q b = cc
      go e h (Some f) q b =
          let a = any-at (has_key (issue_key bus)) m.engine.uses (t.covers (issue_key bus) (ap is_some q)) in
          let told = Each-at (Told p.facts harts) m.engine.uses a.front a.one a.back a.here t.each in
          let same : fact_of a.one told.response told.flags ≡ f = same_some (p.facts (issue_key bus)) _ f (ap p.facts (sym (key_is a.one.key (issue_key bus) a.passes)) ∙ told.is_fact) q in
          let x = flying m.engine.params.profile f b (λ e. ap (λ y. is_released y.decision) (sym same) ∙ told.ended (ap (λ y. y.finished) same ∙ e)) in
          let u = live_use m p k.answered (issue_key bus) f t l q x.0 x.1.0 x.1.1 in
          let first = if_at (FirstAt is_open m.core.flight) ch.offer e h c.offer in
          Each-at (λ u. is_live_use k.answered u ≡ true → u.key.id ≡ e.id → ⊥) m.engine.uses u.front u.one u.back u.here (offered_apart hart m k e first) u.live (ap (λ y. y.id) (u.key_is ∙ offer_key e h))

  keeps_g1 : HoldsG1Core m.engine.params bus
  keeps_g1 = record {
    valid = λ s. (by_offer ch.offer ch.present (presents s)).0;
    key = λ s v. (by_offer ch.offer ch.present (presents s)).1 v;
  }
    where
      presents : m.engine.params.split ≡ false → Presents false m.core.flight ch.offer ch.present
      presents s = subst (λ x. Presents x m.core.flight ch.offer ch.present) (ap (λ x. x.split) k.params ∙ s) c.present

      by_offer : (o : Option Entry) (x : Option Presented) → Presents false m.core.flight o x
          → (is_some x ≡ is_some o) × (is_some o ≡ true → ◌≡◌ {A = Key} (record { hart = hart_if (is_some x) hart; id = presented_id x }) (record { hart = hart_if (is_some o) hart; id = id_in o }))
      by_offer None None h = (refl, λ v. cc)
      by_offer None (Some x) h = absurd h
      by_offer (Some e) None h = absurd h
      by_offer (Some e) (Some x) h = (refl, λ v. ap (λ y. record { hart = hart; id = y.id }) h)

  pub orderly : Orderly m.engine.params p bus
  orderly = record { hart = λ v. hart_on bus.issue_valid; i1 = keeps_i1; i2 = keeps_i2; g1 = keeps_g1 }

  -- ---- what is said of the word that is offered, with its start

  pub offered : (e : Entry) → ch.offer ≡ Some e → IsSomeAnd (named p bus (record { hart = hart; id = e.id })) (λ f. (f.response ≡ None) × (f.decision ≡ Undecided))
  offered e h = subst (λ key. IsSomeAnd (named p bus key) (λ f. (f.response ≡ None) × (f.decision ≡ Undecided))) (offer_key e h) (go (issue_continues p bus) refl)
    where
      go : (x : Bool) → issue_continues p bus ≡ x → IsSomeAnd (named p bus (issue_key bus)) (λ f. (f.response ≡ None) × (f.decision ≡ Undecided))
      go true i =
          let start : starts_key p bus (issue_key bus) ≡ false = ap (λ x. (bus.issue_valid && not x) && same_key (issue_key bus) (issue_key bus)) i ∙ none bus.issue_valid in
          subst (λ o. IsSomeAnd o (λ f. (f.response ≡ None) × (f.decision ≡ Undecided))) (sym (named_other p bus (issue_key bus) start)) (continued e h i m.engine.issue_turns.waiting refl t.issue).1
        where
          none : (x : Bool) → ((x && false) && same_key (issue_key bus) (issue_key bus)) ≡ false
          none true = refl
          none false = refl
      go false i =
          let start : starts_key p bus (issue_key bus) ≡ true = and-true (is_start p bus) _ (and-true bus.issue_valid _ (ap is_some h) (ap not i)) (key_same (issue_key bus) (issue_key bus) refl) in
          and_at (λ f. (f.response ≡ None) × (f.decision ≡ Undecided)) (named p bus (issue_key bus)) (new_fact p.cycle bus.issue_instr) (named_new p bus (issue_key bus) start) (refl, refl)

  -- of a fact before the cycle, or of the use that starts
  pub named_and : (key : Key) (P : Fact → Type 0) (f : Fact) → p.facts key ≡ Some f → P f → P (new_fact p.cycle bus.issue_instr) → IsSomeAnd (named p bus key) P
  named_and key P f q x y = go (starts_key p bus key) refl
    where
      go : (s : Bool) → starts_key p bus key ≡ s → IsSomeAnd (named p bus key) P
      go true s = and_at P (named p bus key) (new_fact p.cycle bus.issue_instr) (named_new p bus key s) y
      go false s = and_at P (named p bus key) f (named_other p bus key s ∙ q) x

  -- the use of a live entry
  pub record Partner (e : Entry) : Type 0 where
    pub one : Use
    pub alike : Alike hart e one
    pub told : Told p.facts harts one
    pub there : p.facts (record { hart = hart; id = e.id }) ≡ Some (fact_of one told.response told.flags)

  -- by the facts
  pub record IsPartner (e : Entry) (u : Use) : Type 0 where
    pub told : Told p.facts harts u
    pub there : p.facts (record { hart = hart; id = e.id }) ≡ Some (fact_of u told.response told.flags)

  pub partner_is : (older : List Entry) (e : Entry) (younger : List Entry) (f : Found hart k.answered older e younger m.engine.uses) → IsPartner e f.partner
  partner_is older e younger f =
      let told = Each-at (Told p.facts harts) m.engine.uses f.front f.partner f.back f.here t.each in
      record { told = told; there = ap p.facts (key f.partner.key f.alike.hart_is f.alike.id) ∙ told.is_fact }
    where
      key : (x : Key) → x.hart ≡ hart → x.id ≡ e.id → ◌≡◌ {A = Key} (record { hart = hart; id = e.id }) x
      key x q r i = record { hart = sym q i; id = sym r i }

  pub partner : (older : List Entry) (e : Entry) (younger : List Entry) → m.core.flight ≡ older ++ e ∷ younger → is_live e ≡ true → Partner e
  partner older e younger here live =
      let f = found hart k.answered older e younger m.engine.uses live k.older (subst (λ es. Match hart (live_entries es) (live_uses k.answered m.engine.uses)) here k.match) in
      let told = Each-at (Told p.facts harts) m.engine.uses f.front f.partner f.back f.here t.each in
      record { one = f.partner; alike = f.alike; told = told; there = ap p.facts (key f.partner.key f.alike.hart_is f.alike.id) ∙ told.is_fact }
    where
      key : (x : Key) → x.hart ≡ hart → x.id ≡ e.id → ◌≡◌ {A = Key} (record { hart = hart; id = e.id }) x
      key x q r i = record { hart = sym q i; id = sym r i }

  pub keeps_g2 : HoldsG2 p bus
  keeps_g2 v = some_case ch.present (IsSomeAnd (named p bus (register_key bus)) (λ f. f.operands ≡ None)) v (λ x h.
      subst (λ key. IsSomeAnd (named p bus key) (λ f. f.operands ≡ None)) (sym (ap (λ o. record { hart = hart_if (is_some o) hart; id = presented_id o }) h))
      (by_split x m.core.params.split refl (subst (Presents m.core.params.split m.core.flight ch.offer) h c.present)))
    where
      none : (o : Option ReadFlags) → is_some o ≡ false → o ≡ None
      none o h = some_none o h

      waiting : (x : Presented) → FirstAt is_waiting m.core.flight x.entry → IsSomeAnd (named p bus (record { hart = hart; id = x.entry.id })) (λ f. f.operands ≡ None)
      waiting x f =
          let ok = Each-at IsEntry m.core.flight f.older x.entry f.younger f.here k.entries in
          let u = partner f.older x.entry f.younger f.here (waiting-live x.entry ok f.passes) in
          named_and (record { hart = hart; id = x.entry.id }) (λ f. f.operands ≡ None) (fact_of u.one u.told.response u.told.flags) u.there
          (none u.told.flags (u.told.given ∙ u.alike.given ∙ not-in x.entry.operands_sent (and-right (flight.reads_registers x.entry.response) (not x.entry.operands_sent) f.passes))) refl

      ungiven : (key : Key) (f : Fact) → named p bus key ≡ Some f → f.response ≡ None → f.operands ≡ None
      ungiven key f q r = go (starts_key p bus key) refl
        where
          go : (s : Bool) → starts_key p bus key ≡ s → f.operands ≡ None
          go true s = ap (λ x. x.operands) (same_some (named p bus key) f _ q (named_new p bus key s))
          go false s =
              let old : p.facts key ≡ Some f = sym (named_other p bus key s) ∙ q in
              let a = any-at (has_key key) m.engine.uses (t.covers key (ap is_some old)) in
              let told = Each-at (Told p.facts harts) m.engine.uses a.front a.one a.back a.here t.each in
              let same : fact_of a.one told.response told.flags ≡ f = same_some (p.facts key) _ f (ap p.facts (sym (key_is a.one.key key a.passes)) ∙ told.is_fact) old in
              sym (ap (λ x. x.operands) same) ∙ none told.flags (false-or (is_some told.flags) (λ g. not-both (is_some told.response) (ap is_some (ap (λ x. x.response) same ∙ r)) (told.given_after g)))

      joint : (e : Entry) → ch.offer ≡ Some e → IsSomeAnd (named p bus (record { hart = hart; id = e.id })) (λ f. f.operands ≡ None)
      joint e h = go (named p bus (record { hart = hart; id = e.id })) refl (offered e h)
        where
          go : (o : Option Fact) → named p bus (record { hart = hart; id = e.id }) ≡ o → IsSomeAnd o (λ f. (f.response ≡ None) × (f.decision ≡ Undecided)) → IsSomeAnd o (λ f. f.operands ≡ None)
          go None q x = absurd x
          go (Some f) q x = ungiven (record { hart = hart; id = e.id }) f q x.0

      by_split : (x : Presented) (s : Bool) → m.core.params.split ≡ s → Presents m.core.params.split m.core.flight ch.offer (Some x) → IsSomeAnd (named p bus (record { hart = hart; id = x.entry.id })) (λ f. f.operands ≡ None)
      by_split x true s ps = waiting x (subst (λ y. Presents y m.core.flight ch.offer (Some x)) s ps)
      by_split x false s ps = by_offer ch.offer refl (subst (λ y. Presents y m.core.flight ch.offer (Some x)) s ps)
        where
          by_offer : (o : Option Entry) → ch.offer ≡ o → Presents false m.core.flight o (Some x) → IsSomeAnd (named p bus (record { hart = hart; id = x.entry.id })) (λ f. f.operands ≡ None)
          by_offer None h q = absurd q
          by_offer (Some e) h q = subst (λ y. IsSomeAnd (named p bus (record { hart = hart; id = y.id })) (λ f. f.operands ≡ None)) (sym q) (joint e h)
