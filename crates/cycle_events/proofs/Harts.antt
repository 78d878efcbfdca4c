-- The uses of all harts: those of others leave the machine that runs ahead of this one as it is.
use Rattle.std.proofs.Common.{◌≡◌, ◌≢◌, ◌<◌, ◌==◌, ◌&&◌, ◌+◌, ℕ, zero, suc, Bool, true, false, cond, not, List, [], ◌∷◌, refl, sym, ap, ◌∙◌, subst, arith}
use Rattle.std.specs.Prelude.{is_none, slice_index_or}
use Rattle.std.proofs.lemmas.Bool.{eqb-true, ne_eqb}
use Rattle.xif_base.specs.Params.{IsInRange}
use Rattle.coproc_config.specs.Set.{UnitTable}
use Rattle.coproc_config.specs.Apply.{Outcome}
use Rattle.inorder_machine.specs.Machine.{Extension, State}
use Rattle.xif_session.specs.Facts.{is_killed}
use Rattle.cycle_spec.specs.declared.entry.Entry.{Entry}
use Rattle.cycle_spec.specs.declared.use_of.Use.{Use}
use Rattle.cycle_spec.specs.Engine.{is_accepted, is_complete, is_next, outcome_of, with_ready, ready_uses, units_behind, ready_in_harts, units_in_harts}
use Rattle.cycle_lists.specs.Lists.{Each, Pairs}
use Rattle.cycle_lists.specs.Order.{Before}
use Rattle.cycle_lists.proofs.Tests.{and-left}
use Rattle.cycle_lists.proofs.Every.{Each-from}
use Rattle.cycle_paired.specs.Paired.{IsEntry}
use Rattle.cycle_paired.proofs.Applying.{all-harts}
use Rattle.ahead_spec.specs.Walk.{Item}
use Rattle.ahead_spec.specs.World.{World}
use Rattle.cycle_events.specs.Becomes.{Becomes}
use Rattle.cycle_events.specs.Shown.{Tied, IsHeld, Left}
use Rattle.cycle_events.proofs.Moving.{stays, next}
use Rattle.cycle_events.proofs.Applied.{with_units, uses-readied, Ready, computes}

next-hart : (hart : ℕ) (u : Use) → is_next hart u ≡ true → u.key.hart ≡ hart
next-hart hart u n = eqb-true u.key.hart hart (and-left (u.key.hart == hart) (is_accepted u && (not (is_killed u.decision) && is_none u.ready)) n)

-- a use of another hart isn't next
other-next : (hart other : ℕ) (u : Use) → other ≢ hart → u.key.hart ≡ other → is_next hart u ≡ false
other-next hart other u n h = ap (λ b. b && (is_accepted u && (not (is_killed u.decision) && is_none u.ready))) (ne_eqb u.key.hart hart (λ q. n (sym h ∙ q)))

-- ---- the uses of one other hart

tied-ready : (x : Extension) (hart other : ℕ) (set : List UnitTable) (cycle : ℕ) (y : Item) (us : List Use) (state : List (List ℕ)) → other ≢ hart → Tied x hart us y → Tied x hart (ready_uses set cycle other state us) y
tied-ready x hart other set cycle y [] state n t = tt
tied-ready x hart other set cycle y (u ∷ us) state n t = go (is_next other u) (is_complete u) refl (λ s. tied-ready x hart other set cycle y us s n t.1)
  where
    out : Outcome
    out = outcome_of set state u

    go : (a c : Bool) → is_next other u ≡ a → ((s : List (List ℕ)) → Tied x hart (ready_uses set cycle other s us) y)
        → Tied x hart (cond (not a) (u ∷ ready_uses set cycle other state us) (cond c (with_ready cycle out.result u ∷ ready_uses set cycle other out.state us) (u ∷ us))) y
    go false c e ih = (t.0, ih state)
    go true false e ih = t
    go true true e ih = ((λ l h i. absurd (n (sym (next-hart other u e) ∙ h))), ih out.state)

held-ready : (other : ℕ) (set : List UnitTable) (cycle : ℕ) (us : List Use) (state : List (List ℕ)) → Each IsHeld us → Each IsHeld (ready_uses set cycle other state us)
held-ready other set cycle [] state h = tt
held-ready other set cycle (u ∷ us) state h = go (is_next other u) (is_complete u) (λ s. held-ready other set cycle us s h.1)
  where
    out : Outcome
    out = outcome_of set state u

    go : (a c : Bool) → ((s : List (List ℕ)) → Each IsHeld (ready_uses set cycle other s us)) → Each IsHeld (cond (not a) (u ∷ ready_uses set cycle other state us) (cond c (with_ready cycle out.result u ∷ ready_uses set cycle other out.state us) (u ∷ us)))
    go false c ih = (h.0, ih state)
    go true false ih = h
    go true true ih = (record { lanes = h.0.lanes; ended = λ q. refl }, ih out.state)

units-other : (hart other : ℕ) (set : List UnitTable) (test : Use → Bool) (cycle : ℕ) (us : List Use) (state s : List (List ℕ)) → other ≢ hart → ((u : Use) (r : ℕ) → test (with_ready cycle r u) ≡ test u)
    → units_behind set test hart s (ready_uses set cycle other state us) ≡ units_behind set test hart s us
units-other hart other set test cycle [] state s n k = refl
units-other hart other set test cycle (u ∷ us) state s n k = go (is_next other u) (is_complete u) refl (λ z q. units-other hart other set test cycle us z q n k)
  where
    out : Outcome
    out = outcome_of set state u

    same : (zs : List Use) → units_behind set test hart s zs ≡ units_behind set test hart s us → ((q : List (List ℕ)) → units_behind set test hart q zs ≡ units_behind set test hart q us) → units_behind set test hart s (u ∷ zs) ≡ units_behind set test hart s (u ∷ us)
    same zs e f =
        ap (λ l. cond (not (is_next hart u)) l (cond (test u) (units_behind set test hart (outcome_of set s u).state zs) s)) e
        ∙ ap (λ l. cond (not (is_next hart u)) (units_behind set test hart s us) (cond (test u) l s)) (f (outcome_of set s u).state)

    skip : (v : Use) (zs : List Use) → is_next hart v ≡ false → units_behind set test hart s (v ∷ zs) ≡ units_behind set test hart s zs
    skip v zs e = ap (λ b. cond (not b) (units_behind set test hart s zs) (cond (test v) (units_behind set test hart (outcome_of set s v).state zs) s)) e

    go : (a c : Bool) → is_next other u ≡ a → ((z q : List (List ℕ)) → units_behind set test hart q (ready_uses set cycle other z us) ≡ units_behind set test hart q us)
        → units_behind set test hart s (cond (not a) (u ∷ ready_uses set cycle other state us) (cond c (with_ready cycle out.result u ∷ ready_uses set cycle other out.state us) (u ∷ us))) ≡ units_behind set test hart s (u ∷ us)
    go false c e ih = same (ready_uses set cycle other state us) (ih state s) (λ q. ih state q)
    go true false e ih = refl
    go true true e ih =
        let h = next-hart other u e in
        skip (with_ready cycle out.result u) (ready_uses set cycle other out.state us) (other-next hart other (with_ready cycle out.result u) n h) ∙ ih out.state s ∙ sym (skip u us (other-next hart other u n h))

-- ---- all harts

ready-other : (x : Extension) (start : State) (hart other : ℕ) (left : Left) (at : ℕ) (w : World) (cycle : ℕ) (answered : ℕ → Bool) (es : List Entry) (us : List Use) (set : List UnitTable) (state : List (List ℕ))
    → other ≢ hart → Ready x start hart answered left es us at w → Ready x start hart answered left es (ready_uses set cycle other state us) at w
ready-other x start hart other left at w cycle answered es us set state n r =
    let m = r.shows in
    let vs = ready_uses set cycle other state us in
    record {
      shows = record { runs = m.runs; left_is = m.left_is; entries_are = m.entries_are; leads = m.leads; tied = Each-from (Tied x hart us) (Tied x hart vs) w.flight (λ y t. tied-ready x hart other set cycle y us state n t) m.tied };
      uses = uses-readied hart answered es us vs (all-harts set cycle other (state ∷ []) us) (held-ready other set cycle us state r.uses.held) r.uses;
    }

-- those of the harts behind this one
later-harts : (x : Extension) (start : State) (hart other : ℕ) (left : Left) (at : ℕ) (w : World) (cycle : ℕ) (answered : ℕ → Bool) (es : List Entry) (us : List Use) (set : List UnitTable) (states : List (List (List ℕ)))
    → hart < other → Ready x start hart answered left es us at w → Ready x start hart answered left es (ready_in_harts set cycle other states us) at w
later-harts x start hart other left at w cycle answered es us set [] l r = r
later-harts x start hart other left at w cycle answered es us set (state ∷ states) l r =
    later-harts x start hart (other + 1) left at w cycle answered es (ready_uses set cycle other state us) set states (omega (arith, l))
    (ready-other x start hart other left at w cycle answered es us set state (λ q. absurd (omega (arith, l, q))) r)

-- the accumulators of this hart
units-index : (set : List UnitTable) (k : ℕ) (states : List (List (List ℕ))) (us vs : List Use) (j hart : ℕ) → hart ≡ k + j → ((s : List (List ℕ)) → units_behind set is_complete hart s vs ≡ units_behind set is_complete hart s us)
    → slice_index_or (units_in_harts set k states vs) j [] ≡ slice_index_or (units_in_harts set k states us) j []
units-index set k [] us vs j hart h e = refl
units-index set k (s ∷ states) us vs zero hart h e =
    let same : k ≡ hart = omega (arith, h) in
    subst (λ n. units_behind set is_complete n s vs ≡ units_behind set is_complete n s us) (sym same) (e s)
units-index set k (s ∷ states) us vs (suc j) hart h e = units-index set (k + 1) states us vs j hart (omega (arith, h)) e

pub in-harts : (x : Extension) (start : State) (hart : ℕ) (left : Left) (at : ℕ) (w : World) (cycle : ℕ) (answered : ℕ → Bool) (es : List Entry) (k j : ℕ) (states : List (List (List ℕ))) (us : List Use)
    → IsInRange x.params → Pairs Before es → Each IsEntry es → hart ≡ k + j → Ready x start hart answered (with_units left (slice_index_or states j [])) es us at w
    → Becomes x (Ready x start hart answered (with_units left (slice_index_or (units_in_harts x.set k states us) j [])) es (ready_in_harts x.set cycle k states us) at) w
in-harts x start hart left at w cycle answered es k j [] us range b ok h r = stays x (Ready x start hart answered (with_units left (slice_index_or [] j [])) es us at) w r
in-harts x start hart left at w cycle answered es k zero (s ∷ states) us range b ok h r =
    let same : k ≡ hart = omega (arith, h) in
    let P = λ (n : ℕ) (v : World). Ready x start hart answered (with_units left (units_behind x.set is_complete n s us)) es (ready_uses x.set cycle n s us) at v in
    let first = computes x start hart left at w cycle answered es [] us s range b ok tt r in
    let here : Becomes x (P k) w = subst (λ n. Becomes x (P n) w) (sym same) first in
    next x (P k) (Ready x start hart answered (with_units left (units_behind x.set is_complete k s us)) es (ready_in_harts x.set cycle (k + 1) states (ready_uses x.set cycle k s us)) at) w here
    (λ v q. stays x (Ready x start hart answered (with_units left (units_behind x.set is_complete k s us)) es (ready_in_harts x.set cycle (k + 1) states (ready_uses x.set cycle k s us)) at) v
    (later-harts x start hart (k + 1) (with_units left (units_behind x.set is_complete k s us)) at v cycle answered es (ready_uses x.set cycle k s us) x.set states (omega (arith, same)) q))
in-harts x start hart left at w cycle answered es k (suc j) (s ∷ states) us range b ok h r =
    let other : k ≢ hart = λ q. absurd (omega (arith, h, q)) in
    let vs = ready_uses x.set cycle k s us in
    let first = ready-other x start hart k (with_units left (slice_index_or states j [])) at w cycle answered es us x.set s other r in
    let rest = in-harts x start hart left at w cycle answered es (k + 1) j states vs range b ok (omega (arith, h)) first in
    let same = units-index x.set (k + 1) states us vs j hart (omega (arith, h)) (λ z. units-other hart k x.set is_complete cycle us s z other (λ u r. refl)) in
    subst (λ z. Becomes x (Ready x start hart answered (with_units left z) es (ready_in_harts x.set cycle (k + 1) states vs) at) w) same rest
