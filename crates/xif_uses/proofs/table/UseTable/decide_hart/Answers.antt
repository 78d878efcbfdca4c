use Rattle.std.proofs.Common.{◌≡◌, ◌<◌, ◌^◌, ◌∙◌, ℕ, if◌then◌else◌, slice_set, sym, ap, subst}
use Rattle.std.specs.Option.{option_map}
use Rattle.std.proofs.lemmas.Bool.{ne_eqb}
use Rattle.xif_base.specs.declared.params.Params.{Params}
use Rattle.xif_uses.specs.Order.{InOrder, AreOrders, start_of}
use Rattle.xif_uses.specs.Table.{Table, use_of, decided_use}
use Rattle.xif_uses.proofs.Orders.{start_in, orders_set, order_found, found_in_order}
use Rattle.xif_uses.proofs.table.UseTable.decide_hart.Goals as goal

pub decide_covered-requires-clause-order : goal.decide_covered-requires-clause-order
decide_covered-requires-clause-order c =
    let x = c.self.inside in
    let v : x.places ≡ c.args.self.now = c.self.view_is in
    found_in_order x.places x.undecided.items c.args.hart c.from.result c.index_mut-order.result.now c.self.invariant
    (subst (λ (t : Table). c.args.hart < t.params.num_harts) (sym v) c.requires) c.from.ensures c.index_mut-order.ensures.value

pub invariant_of-self : goal.invariant_of-self
invariant_of-self c =
    let x = c.self.inside in
    let v : x.places ≡ c.args.self.now = c.self.view_is in
    let h : c.args.hart < x.places.params.num_harts = subst (λ (t : Table). c.args.hart < t.params.num_harts) (sym v) c.requires in
    let d = c.decide_covered.ensures.decided in
    subst (λ (n : ℕ). AreOrders c.decide_covered.new.places (slice_set x.undecided.items n c.decide_covered.new.order)) (sym c.from.ensures)
    (orders_set x.places c.decide_covered.new.places x.undecided.items c.args.hart c.decide_covered.new.order c.self.invariant d.params h
    (λ other id m n.
    ap start_in (d.uses (record { hart = other; id = id }) m
    ∙ ap (λ t. if t then option_map (decided_use c.args.named c.args.kill) (use_of x.places (record { hart = other; id = id })) else use_of x.places (record { hart = other; id = id })) (ne_eqb c.args.hart other (λ q. n (sym q)))))
    (c.decide_covered.ensures.room ∙ ap (λ o. o.room) (order_found x.places x.undecided.items c.args.hart c.from.result c.index_mut-order.result.now c.self.invariant h c.from.ensures c.index_mut-order.ensures.value))
    (subst (λ (p : Params). InOrder (2 ^ p.id_width) (start_of c.decide_covered.new.places c.args.hart) c.decide_covered.new.order.offers) d.params c.decide_covered.ensures.order))
