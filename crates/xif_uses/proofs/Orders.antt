-- The orders of all harts, under the changes of the table.
use Rattle.std.proofs.Common.{◌≡◌, ◌≢◌, ◌<◌, ◌≤◌, ◌^◌, ◌==◌, ◌&&◌, ℕ, Bool, true, false, if◌then◌else◌, Option, None, List, [], length, slice_set, refl, sym, ap, ◌∙◌, subst}
use Rattle.std.specs.Prelude.{slice_index_or}
use Rattle.std.specs.Option.{option_map}
use Rattle.std.proofs.lemmas.Bool.{eqb-true, eqb-false, eq-eqb, ne_eqb}
use Rattle.std.proofs.lemmas.List.{get_or-set_same, get_or-set_other, get_or_default, length-set}
use Rattle.xif_base.specs.declared.params.Key.{Key}
use Rattle.xif_base.specs.declared.params.Params.{Params}
use Rattle.xif_session.specs.Facts.{undecided_start}
use Rattle.xif_uses.specs.declared.entry.Use.{Use}
use Rattle.xif_uses.specs.Order.{Order, InOrder, IsOrder, AreOrders, start_of, with_start, order_at}
use Rattle.xif_uses.specs.Table.{Table, IsKey, Represents, Sets, fact_of}
use Rattle.xif_uses.proofs.Ordered.{in_order_same, in_order_none}

-- the start of a use that isn't there, or is decided, or is undecided
abbrev pub start_in : Option Use → Option ℕ
start_in latest = undecided_start (option_map fact_of latest)

-- ---- one key's use changes

module _ (old new : Table) (key : Key) (entry : Option Use) (k : IsKey old.params key) (s : Sets old new key entry) where
  pub start_elsewhere : (hart id : ℕ) → IsKey old.params (record { hart = hart; id = id }) → hart ≢ key.hart → start_of new hart id ≡ start_of old hart id
  start_elsewhere hart id m n =
      ap start_in (s.others (record { hart = hart; id = id }) m (ap (λ t. t && (key.id == id)) (ne_eqb key.hart hart (λ q. n (sym q)))))

  pub start_after : (id : ℕ) → id < 2 ^ old.params.id_width → start_of new key.hart id ≡ with_start key.id (start_in entry) (start_of old key.hart) id
  start_after id l = go (key.id == id) refl
    where
      go : (t : Bool) → (key.id == id) ≡ t → start_of new key.hart id ≡ (if t then start_in entry else start_of old key.hart id)
      go true q = ap (λ i. start_of new key.hart i) (sym (eqb-true key.id id q)) ∙ ap start_in s.latest
      go false q =
          ap start_in (s.others (record { hart = key.hart; id = id }) (record { hart = k.hart; id = l })
          (ap (λ t. t && (key.id == id)) (eq-eqb key.hart key.hart refl) ∙ q))

  pub kept_after : start_of old key.hart key.id ≡ start_in entry → (hart id : ℕ) → IsKey old.params (record { hart = hart; id = id }) → start_of new hart id ≡ start_of old hart id
  kept_after e hart id m = go (key.hart == hart) refl
    where
      same : (t : Bool) → (key.id == id) ≡ t → (if t then start_in entry else start_of old key.hart id) ≡ start_of old key.hart id
      same true q = sym e ∙ ap (λ i. start_of old key.hart i) (eqb-true key.id id q)
      same false q = refl

      go : (t : Bool) → (key.hart == hart) ≡ t → start_of new hart id ≡ start_of old hart id
      go true q =
          let h : key.hart ≡ hart = eqb-true key.hart hart q in
          subst (λ n. start_of new n id ≡ start_of old n id) h (start_after id m.id ∙ same (key.id == id) refl)
      go false q = start_elsewhere hart id m (λ e. eqb-false key.hart hart q (sym e))

-- ---- all orders

pub orders_same : (old new : Table) (orders : List Order) → AreOrders old orders → new.params ≡ old.params
    → ((hart id : ℕ) → IsKey old.params (record { hart = hart; id = id }) → start_of new hart id ≡ start_of old hart id) → AreOrders new orders
orders_same old new orders a p same = record {
  count = a.count ∙ ap (λ (p : Params). p.num_harts) (sym p);
  room = λ hart l. subst (λ (p : Params). 2 ^ p.id_width ≤ (order_at orders hart).room) (sym p) (a.room hart (inside hart l));
  order = λ hart l.
      subst (λ (p : Params). InOrder (2 ^ p.id_width) (start_of new hart) (order_at orders hart).offers) (sym p)
      (in_order_same (2 ^ old.params.id_width) (start_of old hart) (start_of new hart) (order_at orders hart).offers (a.order hart (inside hart l)) (λ id m. same hart id (record { hart = inside hart l; id = m })));
}
  where
    inside : (hart : ℕ) → hart < new.params.num_harts → hart < old.params.num_harts
    inside hart l = subst (λ (p : Params). hart < p.num_harts) p l

-- one hart has another order
pub orders_set : (old new : Table) (orders : List Order) (hart : ℕ) (order : Order) → AreOrders old orders → new.params ≡ old.params → hart < old.params.num_harts
    → ((other id : ℕ) → IsKey old.params (record { hart = other; id = id }) → other ≢ hart → start_of new other id ≡ start_of old other id)
    → order.room ≡ (order_at orders hart).room → InOrder (2 ^ old.params.id_width) (start_of new hart) order.offers → AreOrders new (slice_set orders hart order)
orders_set old new orders hart order a p h others room o = record {
  count = length-set orders hart order ∙ a.count ∙ ap (λ (p : Params). p.num_harts) (sym p);
  room = λ k l.
      subst (λ (p : Params). 2 ^ p.id_width ≤ (order_at (slice_set orders hart order) k).room) (sym p)
      (each k (λ (x : Order). 2 ^ old.params.id_width ≤ x.room) (λ e. subst (λ n. 2 ^ old.params.id_width ≤ n) (sym room) (a.room hart h)) (λ n. a.room k (inside k l)));
  order = λ k l.
      subst (λ (p : Params). InOrder (2 ^ p.id_width) (start_of new k) (order_at (slice_set orders hart order) k).offers) (sym p)
      (each k (λ (x : Order). InOrder (2 ^ old.params.id_width) (start_of new k) x.offers)
      (λ e. subst (λ n. InOrder (2 ^ old.params.id_width) (start_of new n) order.offers) e o)
      (λ n. in_order_same (2 ^ old.params.id_width) (start_of old k) (start_of new k) (order_at orders k).offers (a.order k (inside k l)) (λ id m. others k id (record { hart = inside k l; id = m }) n)));
}
  where
    inside : (k : ℕ) → k < new.params.num_harts → k < old.params.num_harts
    inside k l = subst (λ (p : Params). k < p.num_harts) p l

    each : (k : ℕ) → (P : Order → Type 0) → (hart ≡ k → P order) → (k ≢ hart → P (order_at orders k)) → P (order_at (slice_set orders hart order) k)
    each k P f g = go (hart == k) refl
      where
        go : (t : Bool) → (hart == k) ≡ t → P (order_at (slice_set orders hart order) k)
        go true q =
            let e : hart ≡ k = eqb-true hart k q in
            subst P (ap (λ n. order_at (slice_set orders hart order) n) e) (subst P (sym (get_or-set_same orders hart order (record { room = 0; offers = [] }) (subst (λ n. hart < n) (sym a.count) h))) (f e))
        go false q =
            let n : hart ≢ k = eqb-false hart k q in
            subst P (sym (get_or-set_other orders hart k order (record { room = 0; offers = [] }) (λ e. n (sym e)))) (g (λ e. n (sym e)))

-- no key has a use
pub orders_none : (table : Table) (params : Params) (orders : List Order) → Represents table params (λ key. None) → length orders ≡ params.num_harts
    → ((hart : ℕ) → hart < params.num_harts → (2 ^ params.id_width ≤ (order_at orders hart).room) × ((order_at orders hart).offers ≡ [])) → AreOrders table orders
orders_none table params orders r count each = record {
  count = count ∙ ap (λ (p : Params). p.num_harts) (sym r.same);
  room = λ hart l. subst (λ (p : Params). 2 ^ p.id_width ≤ (order_at orders hart).room) (sym r.same) (each hart (inside hart l)).0;
  order = λ hart l.
      subst (λ offers. InOrder (2 ^ table.params.id_width) (start_of table hart) offers) (sym (each hart (inside hart l)).1)
      (in_order_none (2 ^ table.params.id_width) (start_of table hart) (λ id m. ap undecided_start (r.uses (record { hart = hart; id = id }) (record { hart = inside hart l; id = subst (λ (p : Params). id < 2 ^ p.id_width) r.same m }))));
}
  where
    inside : (hart : ℕ) → hart < table.params.num_harts → hart < params.num_harts
    inside hart l = subst (λ (p : Params). hart < p.num_harts) r.same l

-- what an index reads
pub order_found : (table : Table) (orders : List Order) (hart n : ℕ) (order : Order) → AreOrders table orders → hart < table.params.num_harts → n ≡ hart → order ≡ slice_index_or orders n order → order ≡ order_at orders hart
order_found table orders hart n order a h e q =
    q ∙ ap (λ m. slice_index_or orders m order) e
    ∙ get_or_default orders hart order (record { room = 0; offers = [] }) (subst (λ m. hart < m) (sym a.count) h)

pub found_in_order : (table : Table) (orders : List Order) (hart n : ℕ) (order : Order) → AreOrders table orders → hart < table.params.num_harts → n ≡ hart → order ≡ slice_index_or orders n order → IsOrder table hart order.offers
found_in_order table orders hart n order a h e q = subst (λ (x : Order). IsOrder table hart x.offers) (sym (order_found table orders hart n order a h e q)) (a.order hart h)
