-- The order of the undecided uses of a hart, under the changes of the table.
use Rattle.std.proofs.Common.{◌≡◌, ◌≢◌, ◌<◌, ◌≤◌, ◌+◌, ◌-◌, ◌==◌, ◌++◌, ◌||◌, ℕ, suc, Bool, true, false, if◌then◌else◌, Option, Some, None, List, [], ◌∷◌, length, map, refl, sym, ap, ◌∙◌, subst, arith}
use Rattle.std.specs.Prelude.{slice_index_or, eqb}
use Rattle.std.proofs.lemmas.Bool.{eqb-true, eqb-false, eq-eqb, ne_eqb}
use Rattle.std.specs.List.{list_any}
use Rattle.std.proofs.lemmas.List.{get_or_append_left, get_or_push, length_push, get_or-map, length-map}
use Rattle.std.proofs.lemmas.Map.Keys.{IsDistinct-from_apart}
use Rattle.std.proofs.lemmas.Map.Steps.{length-le_from_distinct_below}
use Rattle.xif_uses.specs.declared.undecided.Offer.{Offer}
use Rattle.xif_uses.specs.Order.{InOrder, Removes, offer_at, with_start}
use Rattle.xif_uses.proofs.Slots.{three}

-- ---- one change of the starts

pub with_same : (id : ℕ) (start : Option ℕ) (starts : ℕ → Option ℕ) (other : ℕ) → id ≡ other → with_start id start starts other ≡ start
with_same id start starts other e = ap (λ t. if t then start else starts other) (eq-eqb id other e)

pub with_other : (id : ℕ) (start : Option ℕ) (starts : ℕ → Option ℕ) (other : ℕ) → id ≢ other → with_start id start starts other ≡ starts other
with_other id start starts other n = ap (λ t. if t then start else starts other) (ne_eqb id other n)

pub in_order_same : (count : ℕ) (f g : ℕ → Option ℕ) (offers : List Offer) → InOrder count f offers → ((id : ℕ) → id < count → g id ≡ f id) → InOrder count g offers
in_order_same count f g offers o same = record {
  below = o.below;
  listed = λ i l. same (offer_at offers i).id (o.below i l) ∙ o.listed i l;
  rises = o.rises;
  complete = λ id start b e. o.complete id start b (sym (same id b) ∙ e);
}

pub in_order_none : (count : ℕ) (starts : ℕ → Option ℕ) → ((id : ℕ) → id < count → starts id ≡ None) → InOrder count starts []
in_order_none count starts none = record {
  below = λ i l. absurd (omega arith);
  listed = λ i l. absurd (omega arith);
  rises = λ i j l m. absurd (omega arith);
  complete = λ id start b e. absurd (never id start (sym (none id b) ∙ e));
}
  where
    never : (id start : ℕ) → None ≡ Some start → ⊥
    never id start e = cc

-- no id stands twice
pub apart : (count : ℕ) (starts : ℕ → Option ℕ) (offers : List Offer) → InOrder count starts offers → (i j : ℕ) → i < length offers → j < length offers → (offer_at offers i).id ≡ (offer_at offers j).id → i ≡ j
apart count starts offers o i j l m e =
    three i j (i ≡ j)
    (λ x. let y = o.rises i j x m in absurd (omega (arith, same)))
    (λ x. x)
    (λ x. let y = o.rises j i x l in absurd (omega (arith, same)))
  where
    some : (a b : ℕ) → Some a ≡ Some b → a ≡ b
    some a b h = cc

    same : (offer_at offers i).start ≡ (offer_at offers j).start
    same = some (offer_at offers i).start (offer_at offers j).start (sym (o.listed i l) ∙ ap starts e ∙ o.listed j m)

-- ---- one is taken out

pub removed : (count : ℕ) (starts : ℕ → Option ℕ) (old new : List Offer) (k : ℕ) → InOrder count starts old → Removes old new k → InOrder count (with_start (offer_at old k).id None starts) new
removed count starts old new k o r = record {
  below = λ i l. subst (λ (x : Offer). x.id < count) (sym (at i l).2) (o.below (at i l).0 (at i l).1.0);
  listed = λ i l.
      let a = at i l in
      let e : offer_at new i ≡ offer_at old a.0 = a.2 in
      let ne : (offer_at old k).id ≢ (offer_at new i).id = λ q. a.1.1 (apart count starts old o k a.0 r.inside a.1.0 (q ∙ ap (λ (x : Offer). x.id) e)) in
      with_other (offer_at old k).id None starts (offer_at new i).id ne
      ∙ ap (λ (x : Offer). starts x.id) e ∙ o.listed a.0 a.1.0 ∙ ap (λ (x : Offer). Some x.start) (sym e);
  rises = λ i j l m. rise i j l m;
  complete = λ id start b e. find id start b e (old_start id start b e);
}
  where
    -- where an offer that is left stood
    at : (i : ℕ) → i < length new → (a : ℕ) × ((a < length old) × (k ≢ a)) × (offer_at new i ≡ offer_at old a)
    at i l =
        three i k ((a : ℕ) × ((a < length old) × (k ≢ a)) × (offer_at new i ≡ offer_at old a))
        (λ x. (i, (omega (arith, r.count), λ q. absurd (omega arith)), r.before i x))
        (λ x. (i + 1, (omega (arith, r.count), λ q. absurd (omega arith)), r.after i (omega arith) l))
        (λ x. (i + 1, (omega (arith, r.count), λ q. absurd (omega arith)), r.after i (omega arith) l))

    rise : (i j : ℕ) → i < j → j < length new → (offer_at new i).start < (offer_at new j).start
    rise i j l m =
        three j k ((offer_at new i).start < (offer_at new j).start)
        (λ x. step i j (r.before i (omega arith)) (r.before j x) l (omega (arith, r.count, r.inside)))
        (λ x. late i (j + 1) (r.after j (omega arith) m) (omega arith) (omega (arith, r.count)))
        (λ x. late i (j + 1) (r.after j (omega arith) m) (omega arith) (omega (arith, r.count)))
      where
        step : (a b : ℕ) → offer_at new i ≡ offer_at old a → offer_at new j ≡ offer_at old b → a < b → b < length old → (offer_at new i).start < (offer_at new j).start
        step a b e f n y =
            let z = o.rises a b n y in
            let x = ap (λ (x : Offer). x.start) e in let w = ap (λ (x : Offer). x.start) f in omega arith

        late : (i' b : ℕ) → offer_at new j ≡ offer_at old b → (i + 1 < b) → b < length old → (offer_at new i).start < (offer_at new j).start
        late i' b f n y =
            three i k ((offer_at new i).start < (offer_at new j).start)
            (λ x. step i b (r.before i x) f (omega arith) y)
            (λ x. step (i + 1) b (r.after i (omega arith) (omega arith)) f n y)
            (λ x. step (i + 1) b (r.after i (omega arith) (omega arith)) f n y)

    old_start : (id start : ℕ) → id < count → with_start (offer_at old k).id None starts id ≡ Some start → ((offer_at old k).id ≢ id) × (starts id ≡ Some start)
    old_start id start b e = go ((offer_at old k).id == id) refl e
      where
        go : (t : Bool) → ((offer_at old k).id == id) ≡ t → (if t then None else starts id) ≡ Some start → ((offer_at old k).id ≢ id) × (starts id ≡ Some start)
        go true q e = absurd (cc)
        go false q e = (eqb-false (offer_at old k).id id q, e)

    find : (id start : ℕ) → id < count → with_start (offer_at old k).id None starts id ≡ Some start → ((offer_at old k).id ≢ id) × (starts id ≡ Some start) → (i : ℕ) × ((i < length new) × ((offer_at new i).id ≡ id))
    find id start b e h = there (o.complete id start b h.1)
      where
        there : (m : ℕ) × ((m < length old) × ((offer_at old m).id ≡ id)) → (i : ℕ) × ((i < length new) × ((offer_at new i).id ≡ id))
        there m =
            three m.0 k ((i : ℕ) × ((i < length new) × ((offer_at new i).id ≡ id)))
            (λ x. (m.0, (omega (arith, r.count, r.inside), ap (λ (x : Offer). x.id) (r.before m.0 x) ∙ m.1.1)))
            (λ x. absurd (h.0 (ap (λ n. (offer_at old n).id) (sym x) ∙ m.1.1)))
            (λ x.
            let up : (m.0 - 1) + 1 ≡ m.0 = omega arith in
            (m.0 - 1, (omega (arith, r.count, m.1.0), ap (λ (x : Offer). x.id) (r.after (m.0 - 1) (omega arith) (omega (arith, r.count, m.1.0))) ∙ ap (λ n. (offer_at old n).id) up ∙ m.1.1)))

-- ---- one is added, the newest

pub pushed : (count : ℕ) (starts : ℕ → Option ℕ) (offers : List Offer) (offer : Offer) → InOrder count starts offers → offer.id < count → starts offer.id ≡ None → ((i : ℕ) → i < length offers → (offer_at offers i).start < offer.start)
    → InOrder count (with_start offer.id (Some offer.start) starts) (offers ++ offer ∷ [])
pushed count starts offers offer o inside free later = record {
  below = λ i l. go i l (λ (x : Offer). x.id < count) (o.below i) inside;
  listed = λ i l. go i l (λ (x : Offer). with_start offer.id (Some offer.start) starts x.id ≡ Some x.start)
      (λ m. with_other offer.id (Some offer.start) starts (offer_at offers i).id (λ q. never (offer_at offers i).start (sym free ∙ ap starts q ∙ o.listed i m)) ∙ o.listed i m)
      (with_same offer.id (Some offer.start) starts offer.id refl);
  rises = λ i j l m. rise i j l m;
  complete = λ id start b e. find id start b e;
}
  where
    never : (start : ℕ) → None ≡ Some start → ⊥
    never start e = cc

    count_up : length (offers ++ offer ∷ []) ≡ length offers + 1
    count_up = length_push offers offer

    at_last : offer_at (offers ++ offer ∷ []) (length offers) ≡ offer
    at_last = get_or_push offers offer (record { start = 0; id = 0 }) (length offers) refl

    at_old : (i : ℕ) → i < length offers → offer_at (offers ++ offer ∷ []) i ≡ offer_at offers i
    at_old i l = get_or_append_left offers (offer ∷ []) (record { start = 0; id = 0 }) i l

    go : (i : ℕ) → i < length (offers ++ offer ∷ []) → (P : Offer → Type 0) → (i < length offers → P (offer_at offers i)) → P offer → P (offer_at (offers ++ offer ∷ []) i)
    go i l P f g =
        three i (length offers) (P (offer_at (offers ++ offer ∷ []) i))
        (λ x. subst P (sym (at_old i x)) (f x))
        (λ x. subst P (sym (ap (offer_at (offers ++ offer ∷ [])) x ∙ at_last)) g)
        (λ x. absurd (omega (arith, count_up)))

    rise : (i j : ℕ) → i < j → j < length (offers ++ offer ∷ []) → (offer_at (offers ++ offer ∷ []) i).start < (offer_at (offers ++ offer ∷ []) j).start
    rise i j l m =
        let before : i < length offers = omega (arith, count_up) in
        subst (λ (y : Offer). y.start < (offer_at (offers ++ offer ∷ []) j).start) (sym (at_old i before))
        (go j m (λ (y : Offer). (offer_at offers i).start < y.start) (λ n. o.rises i j l n) (later i before))

    find : (id start : ℕ) → id < count → with_start offer.id (Some offer.start) starts id ≡ Some start → (i : ℕ) × ((i < length (offers ++ offer ∷ [])) × ((offer_at (offers ++ offer ∷ []) i).id ≡ id))
    find id start b e = which (offer.id == id) refl e
      where
        there : (m : ℕ) × ((m < length offers) × ((offer_at offers m).id ≡ id)) → (i : ℕ) × ((i < length (offers ++ offer ∷ [])) × ((offer_at (offers ++ offer ∷ []) i).id ≡ id))
        there m = (m.0, (omega (arith, count_up, m.1.0), ap (λ (x : Offer). x.id) (at_old m.0 m.1.0) ∙ m.1.1))

        which : (t : Bool) → (offer.id == id) ≡ t → (if t then Some offer.start else starts id) ≡ Some start → (i : ℕ) × ((i < length (offers ++ offer ∷ [])) × ((offer_at (offers ++ offer ∷ []) i).id ≡ id))
        which true q e = (length offers, (omega (arith, count_up), ap (λ (x : Offer). x.id) at_last ∙ eqb-true offer.id id q))
        which false q e = there (o.complete id start b e)

-- ---- there is room for each id

below_any : (n q : ℕ) (xs : List ℕ) → ((i : ℕ) → i < length xs → slice_index_or xs i 0 < n) → list_any (eqb q) xs ≡ true → q < n
below_any n q [] h e = absurd (cc)
below_any n q (x ∷ xs) h e = go (eqb q x) refl e (λ e. below_any n q xs (λ i l. h (suc i) (omega arith)) e)
  where
    go : (t : Bool) → eqb q x ≡ t → (t || list_any (eqb q) xs) ≡ true → (list_any (eqb q) xs ≡ true → q < n) → q < n
    go true p e rest = subst (λ m. m < n) (sym (eqb-true q x p)) (h 0 (omega arith))
    go false p e rest = rest e

pub fits : (count : ℕ) (starts : ℕ → Option ℕ) (offers : List Offer) → InOrder count starts offers → length offers ≤ count
fits count starts offers o =
    subst (λ n. n ≤ count) (length-map offers (λ x. x.id))
    (length-le_from_distinct_below (map (λ x. x.id) offers) count
    (IsDistinct-from_apart eqb (map (λ x. x.id) offers) (λ i j d l m. ne_eqb _ _ (λ q. distinct i j d l (subst (λ n. j < n) (length-map offers (λ x. x.id)) m) q)))
    (λ q e. below_any count q (map (λ x. x.id) offers) (λ i l. let m : i < length offers = subst (λ n. i < n) (length-map offers (λ x. x.id)) l in subst (λ n. n < count) (sym (at i 0 m)) (o.below i m)) e))
  where
    at : (i d : ℕ) → i < length offers → slice_index_or (map (λ (x : Offer). x.id) offers) i d ≡ (offer_at offers i).id
    at i d l = get_or-map (λ (x : Offer). x.id) offers i (record { start = 0; id = 0 }) d l

    distinct : (i j d : ℕ) → i < j → j < length offers → slice_index_or (map (λ (x : Offer). x.id) offers) i d ≡ slice_index_or (map (λ (x : Offer). x.id) offers) j d → ⊥
    distinct i j d l m q =
        let before : i < length offers = omega arith in
        let e : i ≡ j = apart count starts offers o i j before m (sym (at i d before) ∙ q ∙ at j d m) in
        absurd (omega arith)
