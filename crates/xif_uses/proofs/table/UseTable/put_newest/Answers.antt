use Rattle.std.proofs.Common.{◌≡◌, ◌∙◌, ◌^◌, ℕ, Some, None, if◌then◌else◌, slice_set, sym, ap, subst}
use Rattle.xif_session.specs.Facts.{is_undecided}
use Rattle.xif_uses.specs.Order.{AreOrders, start_of, with_start}
use Rattle.xif_uses.specs.Table.{Table, IsKey}
use Rattle.xif_uses.proofs.Ordered.{in_order_same}
use Rattle.xif_uses.proofs.Orders.{start_after, start_elsewhere, start_in, orders_set, order_found, found_in_order}
use Rattle.xif_uses.proofs.table.UseTable.put_newest.Goals as goal

pub start_over-requires-clause-order : goal.start_over-requires-clause-order
start_over-requires-clause-order c =
    let x = c.self.inside in
    let v : x.places ≡ c.args.self.now = c.self.view_is in
    let k : IsKey x.places.params c.args.key = subst (λ (t : Table). IsKey t.params c.args.key) (sym v) c.requires.key in
    found_in_order x.places x.undecided.items c.args.key.hart c.from.result c.index_mut-order.result.now c.self.invariant k.hart c.from.ensures c.index_mut-order.ensures.value

pub invariant_of-self : goal.invariant_of-self
invariant_of-self c =
    let x = c.self.inside in
    let v : x.places ≡ c.args.self.now = c.self.view_is in
    let k : IsKey x.places.params c.args.key = subst (λ (t : Table). IsKey t.params c.args.key) (sym v) c.requires.key in
    let u : start_in (Some c.args.newest) ≡ Some c.args.newest.start = ap (λ d. if is_undecided d then Some c.args.newest.start else None) c.requires.undecided in
    subst (λ (n : ℕ). AreOrders c.put.new.self (slice_set x.undecided.items n c.start_over.new.order)) (sym c.from.ensures)
    (orders_set x.places c.put.new.self x.undecided.items c.args.key.hart c.start_over.new.order c.self.invariant c.put.ensures.params k.hart
    (start_elsewhere x.places c.put.new.self c.args.key (Some c.args.newest) k c.put.ensures)
    (c.start_over.ensures.room ∙ ap (λ o. o.room) (order_found x.places x.undecided.items c.args.key.hart c.from.result c.index_mut-order.result.now c.self.invariant k.hart c.from.ensures c.index_mut-order.ensures.value))
    (in_order_same (2 ^ x.places.params.id_width) (with_start c.args.key.id (Some c.args.newest.start) (start_of x.places c.args.key.hart)) (start_of c.put.new.self c.args.key.hart) c.start_over.new.order.offers c.start_over.ensures.order
    (λ id l. start_after x.places c.put.new.self c.args.key (Some c.args.newest) k c.put.ensures id l ∙ ap (λ start. with_start c.args.key.id start (start_of x.places c.args.key.hart) id) u)))
