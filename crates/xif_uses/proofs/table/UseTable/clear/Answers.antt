use Rattle.std.proofs.Common.{◌≡◌, ◌<◌, ◌≤◌, ◌^◌, ◌∙◌, List, length, sym, ap, subst}
use Rattle.std.proofs.lemmas.List.{with_items_is}
use Rattle.xif_uses.specs.Order.{Order, AreOrders, order_at}
use Rattle.xif_uses.proofs.Orders.{orders_none}
use Rattle.xif_uses.proofs.table.UseTable.clear.Goals as goal

pub invariant_of-self : goal.invariant_of-self
invariant_of-self c =
    let x = c.self.inside in
    let a = c.self.invariant in
    let same : c.deref_mut.result.now ≡ x.undecided.items = c.deref_mut.ensures.value in
    let long : length c.clear_all.new.orders ≡ length x.undecided.items = c.clear_all.ensures.count ∙ ap length same in
    subst (λ (orders : List Order). AreOrders c.clear.new.self orders) (sym (with_items_is x.undecided c.clear_all.new.orders (long ∙ sym x.undecided.ok.0)))
    (orders_none c.clear.new.self x.places.params c.clear_all.new.orders c.clear.ensures (long ∙ a.count)
    (λ hart l.
    let e = c.clear_all.ensures.empty hart (subst (λ n. hart < n) (sym (long ∙ a.count)) l) in (
      subst (λ n. 2 ^ x.places.params.id_width ≤ n) (sym (ap (λ (o : Order). o.room) e ∙ ap (λ orders. (order_at orders hart).room) same)) (a.room hart l),
      ap (λ (o : Order). o.offers) e,
    )))
