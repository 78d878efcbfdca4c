use Rattle.std.proofs.Common.{◌≡◌, ◌<◌, subst, sym}
use Rattle.xif_uses.specs.Table.{Table}
use Rattle.xif_uses.proofs.Orders.{found_in_order}
use Rattle.xif_uses.proofs.table.UseTable.is_first_pending.Goals as goal

pub none_answered_before-requires-clause-order : goal.none_answered_before-requires-clause-order
none_answered_before-requires-clause-order c =
    let x = c.self.inside in
    let v : x.places ≡ c.args.self.now = c.self.view_is in
    found_in_order x.places x.undecided.items c.args.hart c.from.result c.index.result.now c.self.invariant
    (subst (λ (t : Table). c.args.hart < t.params.num_harts) (sym v) c.requires) c.from.ensures c.index.ensures
