use Rattle.std.proofs.Common.{◌≡◌, ◌<◌, sym, ap, subst, arith}
use Rattle.xif_uses.specs.Order.{Order, order_at}
use Rattle.xif_uses.proofs.Orders.{orders_none}
use Rattle.xif_uses.proofs.table.UseTable.new.Goals as goal

pub invariant_of-result : goal.invariant_of-result
invariant_of-result c =
    orders_none c.in_ok-new.field-0 c.args.params.now c.in_ok-new_orders.field-0.items c.in_ok-new.ensures c.in_ok-new_orders.ensures.count
    (λ hart l.
    let e = c.in_ok-new_orders.ensures.empty hart (subst (λ n. hart < n) (sym c.in_ok-new_orders.ensures.count) l) in
    (let room : (order_at c.in_ok-new_orders.field-0.items hart).room ≡ c.id_count.result = ap (λ (o : Order). o.room) e in let n = c.id_count.ensures in omega arith, ap (λ (o : Order). o.offers) e))
