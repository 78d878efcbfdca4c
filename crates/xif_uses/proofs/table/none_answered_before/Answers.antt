use Rattle.std.proofs.Common.{◌≡◌, ◌<◌, ◌≤◌, ◌∙◌, false, length, sym, ap, subst, arith}
use Rattle.std.specs.Prelude.{is_some}
use Rattle.std.specs.Option.{option_map_or}
use Rattle.xif_session.specs.Facts.{is_pending}
use Rattle.xif_uses.specs.declared.entry.Use.{Use}
use Rattle.xif_uses.specs.declared.undecided.Offer.{Offer}
use Rattle.xif_uses.specs.Order.{offer_at}
use Rattle.xif_uses.specs.Table.{facts_in, use_of}
use Rattle.xif_uses.proofs.Slots.{three}
use Rattle.xif_uses.proofs.Decisions.{first_if, first_unless, pending_is}
use Rattle.xif_uses.proofs.table.none_answered_before.Goals as goal

pub returns-then-start-offer : goal.returns-then-start-offer
returns-then-start-offer c =
    let late : c.args.start ≤ (offer_at c.args.order.now.offers c.loop-index.index).start = subst (λ (x : Offer). c.args.start ≤ x.start) c.at-offer.ensures c.if-start-offer.true in
    sym (first_if c.args.places.now c.args.hart c.args.start c.args.order.now.offers c.requires.hart c.requires.order
    (λ m l early.
    three m c.loop-index.index (is_pending (facts_in c.args.places.now (record { hart = c.args.hart; id = (offer_at c.args.order.now.offers m).id })) ≡ false)
    (λ x. c.loop-index.invariant.older m x)
    (λ x. let e = ap (λ n. (offer_at c.args.order.now.offers n).start) x in absurd (omega arith))
    (λ x. let e = c.requires.order.rises c.loop-index.index m x l in absurd (omega arith))))

pub returns-then-is_answered : goal.returns-then-is_answered
returns-then-is_answered c =
    let inside : c.loop-index.index < length c.args.order.now.offers = omega (arith, c.len-index-end.ensures, c.loop-index-test.true) in
    sym (first_unless c.args.places.now c.args.hart c.args.start c.args.order.now.offers c.loop-index.index c.requires.order inside
    (subst (λ (x : Offer). x.start < c.args.start) c.at-offer.ensures c.if-start-offer.false)
    (pending_is (use_of c.args.places.now (record { hart = c.args.hart; id = (offer_at c.args.order.now.offers c.loop-index.index).id })) (offer_at c.args.order.now.offers c.loop-index.index).start
    (c.requires.order.listed c.loop-index.index inside)
    ∙ ap (λ (x : Offer). option_map_or (λ (entry : Use). is_some entry.response) (use_of c.args.places.now (record { hart = c.args.hart; id = x.id })) false) (sym c.at-offer.ensures)
    ∙ ap (λ latest. option_map_or (λ (entry : Use). is_some entry.response) latest false) (sym c.latest.ensures)
    ∙ sym c.is_answered.ensures ∙ c.if-is_answered.true))

pub returns : goal.returns
returns c =
    sym (first_if c.args.places.now c.args.hart c.args.start c.args.order.now.offers c.requires.hart c.requires.order
    (λ m l early. c.loop-index.invariant.older m (omega (arith, c.len-index-end.ensures, c.loop-index-test.false))))
