use Rattle.std.proofs.Common.{◌≡◌, Some, subst, sym}
use Rattle.xif_uses.specs.Order.{start_of}
use Rattle.xif_uses.specs.Table.{Table, IsKey}
use Rattle.xif_uses.proofs.Orders.{start_in, kept_after, orders_same}
use Rattle.xif_uses.proofs.table.UseTable.put.Goals as goal

pub invariant_of-self : goal.invariant_of-self
invariant_of-self c =
    let x = c.self.inside in
    let v : x.places ≡ c.args.self.now = c.self.view_is in
    orders_same x.places c.put.new.self x.undecided.items c.self.invariant c.put.ensures.params
    (kept_after x.places c.put.new.self c.args.key (Some c.args.latest)
    (subst (λ (t : Table). IsKey t.params c.args.key) (sym v) c.requires.key) c.put.ensures
    (subst (λ (t : Table). start_of t c.args.key.hart c.args.key.id ≡ start_in (Some c.args.latest)) (sym v) c.requires.same))
