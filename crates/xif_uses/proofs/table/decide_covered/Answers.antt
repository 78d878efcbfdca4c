use Rattle.std.proofs.Common.{◌≡◌, ◌<◌, ◌^◌, ◌∙◌, Some, sym, subst}
use Rattle.xif_base.specs.declared.params.Params.{Params}
use Rattle.xif_uses.specs.declared.undecided.Offer.{Offer}
use Rattle.xif_uses.specs.Order.{Removes, start_of, offer_at, end_of}
use Rattle.xif_uses.specs.Table.{IsKey}
use Rattle.xif_uses.proofs.Decisions.{decides_as_much, order_after, nothing_left}
use Rattle.xif_uses.proofs.table.decide_covered.Goals as goal

pub loop-offer-preserved : goal.loop-offer-preserved
loop-offer-preserved c =
    let i = c.loop-offer.invariant in
    let old = c.loop-offer.places in
    let before = c.loop-offer.order.offers in
    let offer = c.in-Some.offer in
    let at : offer ≡ offer_at before (end_of c.args.kill before) = c.in-Some.ensures.taken.0 in
    let r : Removes before c.pop_covered.new.self.offers (end_of c.args.kill before) = c.in-Some.ensures.taken.1 in
    let h : IsKey old.params (record { hart = c.args.hart; id = offer.id }) = record {
      hart = subst (λ (p : Params). c.args.hart < p.num_harts) (sym i.params) c.requires.hart;
      id = subst (λ (x : Offer). x.id < 2 ^ old.params.id_width) (sym at) (i.order.below (end_of c.args.kill before) r.inside);
    } in
    let e : start_of old c.args.hart offer.id ≡ Some offer.start =
    subst (λ (x : Offer). start_of old c.args.hart x.id ≡ Some x.start) (sym at) (i.order.listed (end_of c.args.kill before) r.inside) in
    record {
      params = c.decide_one.ensures.params ∙ i.params;
      room = c.in-Some.ensures.room ∙ i.room;
      order =
          order_after old c.decide_one.new.places c.args.hart c.args.named c.args.kill offer h e c.in-Some.ensures.covered c.decide_one.ensures
          before c.pop_covered.new.self.offers (end_of c.args.kill before) i.order at r;
      uses = λ k m.
          decides_as_much old c.decide_one.new.places c.args.hart c.args.named c.args.kill offer h e c.in-Some.ensures.covered c.decide_one.ensures
          k (subst (λ (p : Params). IsKey p k) (sym i.params) m)
          ∙ i.uses k m;
    }

pub returns-clause-decided : goal.returns-clause-decided
returns-clause-decided c =
    let i = c.loop-offer.invariant in
    record {
      params = i.params;
      uses = λ k m.
          sym (nothing_left c.loop-offer.places c.args.hart c.args.named c.args.kill c.loop-offer.order.offers
          (subst (λ (p : Params). c.args.hart < p.num_harts) (sym i.params) c.requires.hart) i.order c.in_default.ensures.rest
          k (subst (λ (p : Params). IsKey p k) (sym i.params) m))
          ∙ i.uses k m;
    }
