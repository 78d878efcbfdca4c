use Rattle.std.proofs.Common.{◌^◌, List, Some, ap, sym, subst, arith}
use Rattle.xif_uses.specs.declared.undecided.Offer.{Offer}
use Rattle.xif_uses.specs.Order.{Order, InOrder, start_of, with_start}
use Rattle.xif_uses.proofs.Decisions.{with_newest, has_room}
use Rattle.xif_uses.proofs.table.start_over.Goals as goal

pub push-requires : goal.push-requires
push-requires c =
    let r = has_room c.args.places.now c.args.key c.args.start c.withdraw.new.order.offers c.requires.key c.requires.later c.withdraw.ensures.order in
    let room = c.requires.room in
    let same = c.withdraw.ensures.room in omega arith

pub returns-clause-order : goal.returns-clause-order
returns-clause-order c =
    subst (λ (offers : List Offer). InOrder (2 ^ c.args.places.now.params.id_width) (with_start c.args.key.id (Some c.args.start) (start_of c.args.places.now c.args.key.hart)) offers)
    (sym (ap (λ (o : Order). o.offers) c.push.ensures))
    (with_newest c.args.places.now c.args.key c.args.start c.withdraw.new.order.offers c.requires.key c.requires.later c.withdraw.ensures.order)
