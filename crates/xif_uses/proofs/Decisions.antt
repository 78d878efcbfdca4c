-- What the orders say of decisions, of starts and of what is pending.
use Rattle.std.proofs.Common.{◌≡◌, ◌<◌, ◌≤◌, ◌-◌, ◌^◌, ◌==◌, ◌&&◌, ◌++◌, ℕ, Bool, true, false, if◌then◌else◌, Option, Some, None, List, [], ◌∷◌, length, refl, sym, ap, ◌∙◌, subst, arith, IsTrue}
use Rattle.std.specs.Prelude.{nat_le, is_some, IfSome}
use Rattle.std.specs.Option.{option_map, option_map_or}
use Rattle.std.proofs.lemmas.Bool.{eqb-true, eq-eqb}
use Rattle.std.proofs.lemmas.Bool.Decides.{nat_tests}
use Rattle.std.proofs.lemmas.List.{length_push}
use Rattle.xif_base.specs.declared.params.Key.{Key}
use Rattle.xif_base.specs.declared.params.Params.{Params}
use Rattle.xif_session.specs.declared.fact.Fact.{Fact}
use Rattle.xif_session.specs.declared.fact.Decision.{Decision}
use Rattle.xif_session.specs.Facts.{same_key, undecided_start, is_undecided, is_covered, is_pending}
use Rattle.xif_session.specs.Tests.{none_before}
use Rattle.xif_session.proofs.Options.{key_is, no_true, and-true, both-true}
use Rattle.xif_session.proofs.RuleTests.{before_in, before_out}
use Rattle.xif_uses.specs.declared.entry.Use.{Use}
use Rattle.xif_uses.specs.declared.undecided.Offer.{Offer}
use Rattle.xif_uses.specs.Order.{InOrder, IsOrder, Removes, Rises, start_of, with_start, offer_at, end_of, decided_as}
use Rattle.xif_uses.specs.Table.{Table, IsKey, Sets, StartsBefore, use_of, fact_of, facts_in, decided_use}
use Rattle.xif_uses.proofs.Slots.{three}
use Rattle.xif_uses.proofs.Ordered.{in_order_same, removed, pushed, fits, with_same}
use Rattle.xif_uses.proofs.Orders.{start_in, start_after}

some_is : (a b : ℕ) → Some a ≡ Some b → a ≡ b
some_is a b h = cc

-- an undecided use
pub record Open (latest : Option Use) (since : ℕ) : Type 0 where
  pub entry : Use
  pub there : latest ≡ Some entry
  pub undecided : is_undecided entry.decision ≡ true
  pub start : entry.start ≡ since

pub open_in : (latest : Option Use) (start : ℕ) → start_in latest ≡ Some start → Open latest start
open_in None start e = absurd (cc)
open_in (Some entry) start e = go (is_undecided entry.decision) refl e
  where
    go : (t : Bool) → is_undecided entry.decision ≡ t → (if t then Some entry.start else None) ≡ Some start → Open (Some entry) start
    go true q e = record { entry = entry; there = refl; undecided = q; start = some_is entry.start start e }
    go false q e = absurd (cc)

pub open_out : (latest : Option Use) (entry : Use) → latest ≡ Some entry → is_undecided entry.decision ≡ true → start_in latest ≡ Some entry.start
open_out latest entry e u = ap start_in e ∙ ap (λ t. if t then Some entry.start else None) u

-- ---- a use that starts

before : (table : Table) (hart id start cycle : ℕ) → StartsBefore table cycle → IsKey table.params (record { hart = hart; id = id }) → start_of table hart id ≡ Some start → start < cycle
before table hart id start cycle s k e =
    let o = open_in (use_of table (record { hart = hart; id = id })) start e in
    subst (λ n. n < cycle) o.start (go (use_of table (record { hart = hart; id = id })) o.entry o.there (s (record { hart = hart; id = id }) k))
  where
    go : (latest : Option Use) (entry : Use) → latest ≡ Some entry → IfSome latest (λ entry. entry.start < cycle) → entry.start < cycle
    go latest entry e h = subst (λ o. IfSome o (λ entry. entry.start < cycle)) e h

pub with_newest : (table : Table) (key : Key) (start : ℕ) (offers : List Offer) → IsKey table.params key → StartsBefore table start
    → InOrder (2 ^ table.params.id_width) (with_start key.id None (start_of table key.hart)) offers
    → InOrder (2 ^ table.params.id_width) (with_start key.id (Some start) (start_of table key.hart)) (offers ++ record { start = start; id = key.id } ∷ [])
with_newest table key start offers k s o =
    in_order_same (2 ^ table.params.id_width) (with_start key.id (Some start) (with_start key.id None (start_of table key.hart))) (with_start key.id (Some start) (start_of table key.hart)) (offers ++ record { start = start; id = key.id } ∷ [])
    (pushed (2 ^ table.params.id_width) (with_start key.id None (start_of table key.hart)) offers (record { start = start; id = key.id }) o k.id (with_same key.id None (start_of table key.hart) key.id refl) (λ i l. later i l))
    (λ id l. over id (key.id == id))
  where
    over : (id : ℕ) (t : Bool) → (if t then Some start else start_of table key.hart id) ≡ (if t then Some start else (if t then None else start_of table key.hart id))
    over id true = refl
    over id false = refl

    later : (i : ℕ) → i < length offers → (offer_at offers i).start < start
    later i l =
        before table key.hart (offer_at offers i).id (offer_at offers i).start start s (record { hart = k.hart; id = o.below i l })
        (go (key.id == (offer_at offers i).id) (o.listed i l))
      where
        go : (t : Bool) → (if t then None else start_of table key.hart (offer_at offers i).id) ≡ Some (offer_at offers i).start → start_of table key.hart (offer_at offers i).id ≡ Some (offer_at offers i).start
        go true e = absurd (cc)
        go false e = e

pub has_room : (table : Table) (key : Key) (start : ℕ) (offers : List Offer) → IsKey table.params key → StartsBefore table start
    → InOrder (2 ^ table.params.id_width) (with_start key.id None (start_of table key.hart)) offers → length offers < 2 ^ table.params.id_width
has_room table key start offers k s o =
    let l = fits (2 ^ table.params.id_width) _ (offers ++ record { start = start; id = key.id } ∷ []) (with_newest table key start offers k s o) in
    let n = length_push offers (record { start = start; id = key.id }) in omega arith

-- where the old use of the key stands
pub stands : (table : Table) (key : Key) (entry : Use) (offers : List Offer) → IsKey table.params key → IsOrder table key.hart offers → use_of table key ≡ Some entry → is_undecided entry.decision ≡ true
    → (k : ℕ) × ((k < length offers) × ((offer_at offers k).start ≡ entry.start) × ((offer_at offers k).id ≡ key.id))
stands table key entry offers k o e u = go (o.complete key.id entry.start k.id here)
  where
    here : start_of table key.hart key.id ≡ Some entry.start
    here = open_out (use_of table key) entry e u

    go : (m : ℕ) × ((m < length offers) × ((offer_at offers m).id ≡ key.id)) → (k : ℕ) × ((k < length offers) × ((offer_at offers k).start ≡ entry.start) × ((offer_at offers k).id ≡ key.id))
    go m = (m.0, (m.1.0, some_is (offer_at offers m.0).start entry.start (sym (o.listed m.0 m.1.0) ∙ ap (start_of table key.hart) m.1.1 ∙ here), m.1.1))

-- and what is left without it
pub withdrawn : (table : Table) (key : Key) (entry : Use) (old new : List Offer) → IsKey table.params key → IsOrder table key.hart old → use_of table key ≡ Some entry → is_undecided entry.decision ≡ true
    → ((k : ℕ) → k < length old → (offer_at old k).start ≡ entry.start → Removes old new k)
    → InOrder (2 ^ table.params.id_width) (with_start key.id None (start_of table key.hart)) new
withdrawn table key entry old new k o e u removes =
    let m = stands table key entry old k o e u in
    subst (λ id. InOrder (2 ^ table.params.id_width) (with_start id None (start_of table key.hart)) new) m.1.2
    (removed (2 ^ table.params.id_width) (start_of table key.hart) old new m.0 o (removes m.0 m.1.0 m.1.1))

-- ---- a decision

as_decided : (named : ℕ) (kill : Bool) (entry : Use) → decided_use named kill (decided_as kill entry) ≡ decided_as kill entry
as_decided named true entry = go (nat_le named entry.start)
  where
    go : (t : Bool) → (if t && false then decided_as true (decided_as true entry) else decided_as true entry) ≡ decided_as true entry
    go true = refl
    go false = refl
as_decided named false entry = go (nat_le entry.start named)
  where
    go : (t : Bool) → (if t && false then decided_as false (decided_as false entry) else decided_as false entry) ≡ decided_as false entry
    go true = refl
    go false = refl

now_decided : (named : ℕ) (kill : Bool) (entry : Use) → is_covered kill named entry.start ≡ true → is_undecided entry.decision ≡ true → decided_use named kill entry ≡ decided_as kill entry
now_decided named kill entry c u = ap (λ t. if t then decided_as kill entry else entry) (and-true (is_covered kill named entry.start) (is_undecided entry.decision) c u)

no_longer : (kill : Bool) (entry : Use) → start_in (Some (decided_as kill entry)) ≡ None
no_longer true entry = refl
no_longer false entry = refl

-- one use is decided, which a decision covers
module _ (old new : Table) (hart named : ℕ) (kill : Bool) (offer : Offer) (h : IsKey old.params (record { hart = hart; id = offer.id }))
    (e : start_of old hart offer.id ≡ Some offer.start) (c : is_covered kill named offer.start ≡ true)
    (s : Sets old new (record { hart = hart; id = offer.id }) (option_map (decided_as kill) (use_of old (record { hart = hart; id = offer.id })))) where
  here : Open (use_of old (record { hart = hart; id = offer.id })) offer.start
  here = open_in (use_of old (record { hart = hart; id = offer.id })) offer.start e

  decided_here : option_map (decided_use named kill) (use_of new (record { hart = hart; id = offer.id })) ≡ option_map (decided_use named kill) (use_of old (record { hart = hart; id = offer.id }))
  decided_here =
      ap (option_map (decided_use named kill)) (s.latest ∙ ap (option_map (decided_as kill)) here.there)
      ∙ ap Some (as_decided named kill here.entry ∙ sym (now_decided named kill here.entry (subst (λ n. is_covered kill named n ≡ true) (sym here.start) c) here.undecided))
      ∙ sym (ap (option_map (decided_use named kill)) here.there)

  pub decides_as_much : (k : Key) → IsKey old.params k
      → (if hart == k.hart then option_map (decided_use named kill) (use_of new k) else use_of new k) ≡ (if hart == k.hart then option_map (decided_use named kill) (use_of old k) else use_of old k)
  decides_as_much k m = go (same_key (record { hart = hart; id = offer.id }) k) refl
    where
      go : (t : Bool) → same_key (record { hart = hart; id = offer.id }) k ≡ t
          → (if hart == k.hart then option_map (decided_use named kill) (use_of new k) else use_of new k) ≡ (if hart == k.hart then option_map (decided_use named kill) (use_of old k) else use_of old k)
      go true q =
          subst (λ (x : Key). (if hart == x.hart then option_map (decided_use named kill) (use_of new x) else use_of new x) ≡ (if hart == x.hart then option_map (decided_use named kill) (use_of old x) else use_of old x)) (key_is (record { hart = hart; id = offer.id }) k q)
          (ap (λ t. if t then option_map (decided_use named kill) (use_of new (record { hart = hart; id = offer.id })) else use_of new (record { hart = hart; id = offer.id })) (eq-eqb hart hart refl)
          ∙ decided_here
          ∙ sym (ap (λ t. if t then option_map (decided_use named kill) (use_of old (record { hart = hart; id = offer.id })) else use_of old (record { hart = hart; id = offer.id })) (eq-eqb hart hart refl)))
      go false q = ap (λ o. if hart == k.hart then option_map (decided_use named kill) o else o) (s.others k m q)

  pub order_after : (before after : List Offer) (k : ℕ) → IsOrder old hart before → offer ≡ offer_at before k → Removes before after k → IsOrder new hart after
  order_after before after k o at r =
      subst (λ (p : Params). InOrder (2 ^ p.id_width) (start_of new hart) after) (sym s.params)
      (in_order_same (2 ^ old.params.id_width) (with_start offer.id None (start_of old hart)) (start_of new hart) after
      (subst (λ (x : Offer). InOrder (2 ^ old.params.id_width) (with_start x.id None (start_of old hart)) after) (sym at) (removed (2 ^ old.params.id_width) (start_of old hart) before after k o r))
      (λ id l.
      start_after old new (record { hart = hart; id = offer.id }) (option_map (decided_as kill) (use_of old (record { hart = hart; id = offer.id }))) h s id l
      ∙ ap (λ start. with_start offer.id start (start_of old hart) id) (ap (λ o. start_in (option_map (decided_as kill) o)) here.there ∙ no_longer kill here.entry)))

-- the next one isn't covered, so none is
uncovered : (kill : Bool) (named : ℕ) (offers : List Offer) → Rises offers → (0 < length offers → is_covered kill named (offer_at offers (end_of kill offers)).start ≡ false)
    → (m : ℕ) → m < length offers → is_covered kill named (offer_at offers m).start ≡ false
uncovered true named offers r f m l =
    three m (length offers - 1) (nat_le named (offer_at offers m).start ≡ false)
    (λ x. let y = r m (length offers - 1) x (omega arith) in let z = f (omega arith) in grind (arith, nat_tests))
    (λ x. ap (λ n. nat_le named (offer_at offers n).start) x ∙ f (omega arith))
    (λ x. absurd (omega arith))
uncovered false named offers r f m l =
    three 0 m (nat_le (offer_at offers m).start named ≡ false)
    (λ x. let y = r 0 m x l in let z = f (omega arith) in grind (arith, nat_tests))
    (λ x. ap (λ n. nat_le (offer_at offers n).start named) (sym x) ∙ f (omega arith))
    (λ x. absurd (omega arith))

-- so nothing is left to decide
pub nothing_left : (table : Table) (hart named : ℕ) (kill : Bool) (offers : List Offer) → hart < table.params.num_harts → IsOrder table hart offers
    → (0 < length offers → is_covered kill named (offer_at offers (end_of kill offers)).start ≡ false)
    → (k : Key) → IsKey table.params k → (if hart == k.hart then option_map (decided_use named kill) (use_of table k) else use_of table k) ≡ use_of table k
nothing_left table hart named kill offers h o f k m = go (hart == k.hart) refl
  where
    open_or : (latest : Option Use) → ((start : ℕ) → start_in latest ≡ Some start → is_covered kill named start ≡ false) → option_map (decided_use named kill) latest ≡ latest
    open_or None g = refl
    open_or (Some entry) g = ap Some (which (is_undecided entry.decision) refl (is_covered kill named entry.start) refl)
      where
        which : (u : Bool) → is_undecided entry.decision ≡ u → (t : Bool) → is_covered kill named entry.start ≡ t → decided_use named kill entry ≡ entry
        which true q true p = no_true (is_covered kill named entry.start) p (g entry.start (open_out (Some entry) entry refl q))
        which true q false p = ap (λ t. if t && is_undecided entry.decision then decided_as kill entry else entry) p
        which false q true p =
            ap (λ t. if t && is_undecided entry.decision then decided_as kill entry else entry) p ∙ ap (λ t. if t then decided_as kill entry else entry) q
        which false q false p = ap (λ t. if t && is_undecided entry.decision then decided_as kill entry else entry) p

    each : (start : ℕ) → hart ≡ k.hart → start_in (use_of table k) ≡ Some start → is_covered kill named start ≡ false
    each start e q =
        let p : start_of table hart k.id ≡ Some start = ap (λ n. start_of table n k.id) e ∙ q in
        there (o.complete k.id start m.id p) p
      where
        there : (i : ℕ) × ((i < length offers) × ((offer_at offers i).id ≡ k.id)) → start_of table hart k.id ≡ Some start → is_covered kill named start ≡ false
        there i p =
            let s : (offer_at offers i.0).start ≡ start = some_is (offer_at offers i.0).start start (sym (o.listed i.0 i.1.0) ∙ ap (start_of table hart) i.1.1 ∙ p) in
            ap (λ n. is_covered kill named n) (sym s) ∙ uncovered kill named offers o.rises f i.0 i.1.0

    go : (t : Bool) → (hart == k.hart) ≡ t → (if t then option_map (decided_use named kill) (use_of table k) else use_of table k) ≡ use_of table k
    go true q = open_or (use_of table k) (λ start e. each start (eqb-true hart k.hart q) e)
    go false q = refl

-- ---- what is pending

pub pending_is : (latest : Option Use) (start : ℕ) → start_in latest ≡ Some start → is_pending (option_map fact_of latest) ≡ option_map_or (λ entry. is_some entry.response) latest false
pending_is None start e = refl
pending_is (Some entry) start e = let o = open_in (Some entry) start e in go entry.decision (is_some entry.response) (ap (λ o. option_map_or (λ (x : Use). is_undecided x.decision) o true) o.there ∙ o.undecided)
  where
    go : (d : Decision) (t : Bool) → is_undecided d ≡ true → (t && is_undecided d) ≡ t
    go d true e = e
    go d false e = refl

pub first_if : (table : Table) (hart start : ℕ) (offers : List Offer) → hart < table.params.num_harts → IsOrder table hart offers
    → ((m : ℕ) → m < length offers → (offer_at offers m).start < start → is_pending (facts_in table (record { hart = hart; id = (offer_at offers m).id })) ≡ false)
    → none_before (facts_in table) hart start (2 ^ table.params.id_width) ≡ true
first_if table hart start offers h o g = before_out (facts_in table) hart start (2 ^ table.params.id_width) (λ id f below e w. late id f below e w)
  where
    late : (id : ℕ) (f : Fact) → id < 2 ^ table.params.id_width → facts_in table (record { hart = hart; id = id }) ≡ Some f → IsTrue (is_pending (Some f)) → start ≤ f.start
    late id f below e w = there (o.complete id f.start below p)
      where
        p : start_of table hart id ≡ Some f.start
        p = ap undecided_start e ∙ ap (λ t. if t then Some f.start else None) (both-true (is_some f.response) (is_undecided f.decision) w).1

        there : (i : ℕ) × ((i < length offers) × ((offer_at offers i).id ≡ id)) → start ≤ f.start
        there i =
            let s : (offer_at offers i.0).start ≡ f.start = some_is (offer_at offers i.0).start f.start (sym (o.listed i.0 i.1.0) ∙ ap (start_of table hart) i.1.1 ∙ p) in
            three f.start start (start ≤ f.start)
            (λ x. no_true (is_pending (Some f)) w (ap is_pending (sym e) ∙ ap (λ n. is_pending (facts_in table (record { hart = hart; id = n }))) (sym i.1.1) ∙ g i.0 i.1.0 (omega arith)))
            (λ x. omega arith)
            (λ x. omega arith)

pub first_unless : (table : Table) (hart start : ℕ) (offers : List Offer) (m : ℕ) → IsOrder table hart offers → m < length offers → (offer_at offers m).start < start
    → is_pending (facts_in table (record { hart = hart; id = (offer_at offers m).id })) ≡ true → none_before (facts_in table) hart start (2 ^ table.params.id_width) ≡ false
first_unless table hart start offers m o l early w = go (none_before (facts_in table) hart start (2 ^ table.params.id_width)) refl
  where
    here : Open (use_of table (record { hart = hart; id = (offer_at offers m).id })) (offer_at offers m).start
    here = open_in (use_of table (record { hart = hart; id = (offer_at offers m).id })) (offer_at offers m).start (o.listed m l)

    found : facts_in table (record { hart = hart; id = (offer_at offers m).id }) ≡ Some (fact_of here.entry)
    found = ap (option_map fact_of) here.there

    go : (t : Bool) → none_before (facts_in table) hart start (2 ^ table.params.id_width) ≡ t → t ≡ false
    go false e = refl
    go true e =
        let late : start ≤ here.entry.start =
        before_in table.params (facts_in table) hart start (2 ^ table.params.id_width) e (offer_at offers m).id (fact_of here.entry) (o.below m l) found (ap is_pending (sym found) ∙ w) in
        let s = here.start in absurd (omega arith)
