use Rattle.std.proofs.Common.{◌≡◌, ◌<◌, ◌+◌, ◌∙◌, ℕ, Bool, [], List, true, false, if◌then◌else◌, length, refl, sym, ap, subst, rules, arith}
use Rattle.std.specs.Prelude.{nat_lt, OnSome}
use Rattle.std.proofs.lemmas.List.Sorted.{IsPartitionPoint-from_clause}
use Rattle.xif_uses.specs.declared.undecided.Offer.{Offer}
use Rattle.xif_uses.specs.Order.{Order, Removes, Rises, offer_at}
use Rattle.xif_uses.proofs.Search.{parted, point_is}
use Rattle.xif_uses.proofs.undecided.Undecided.remove.Goals as goal

in_use : (is_stale : Bool) (offers : List Offer) (k : ℕ) → k < length (if is_stale then [] else offers) → is_stale ≡ false
in_use true offers k l = absurd (omega arith)
in_use false offers k l = refl

pub returns-clause-offers : goal.returns-clause-offers
returns-clause-offers c k l e =
    let x = c.self.inside in
    let fresh : x.is_stale ≡ false = in_use x.is_stale x.offers.items c.requires.there.0 (subst (λ (s : List Offer). c.requires.there.0 < length s) (sym (ap (λ (o : Order). o.offers) c.self.view_is)) c.requires.there.1.0) in
    let w : c.args.self.now.offers ≡ x.offers.items =
    sym (ap (λ (o : Order). o.offers) c.self.view_is) ∙ ap (λ t. if t then [] else x.offers.items) fresh in
    let r : Rises x.offers.items = subst Rises w c.requires.rises in
    let inside : k < length x.offers.items = subst (λ (s : List Offer). k < length s) w l in
    let here : (offer_at x.offers.items k).start ≡ c.args.start = subst (λ (s : List Offer). (offer_at s k).start ≡ c.args.start) w e in
    let point =
    IsPartitionPoint-from_clause (λ (o : Offer). nat_lt o.start c.args.start) x.offers.items c.partition_point-index.result
    c.partition_point-index.ensures.partitioned (parted x.offers.items c.args.start r) (λ a r q k. search rules) in
    let at : c.partition_point-index.result ≡ k = point_is x.offers.items c.args.start k c.partition_point-index.result r inside here point in
    let long : x.offers.len ≡ length x.offers.items = x.offers.ok.0 in
    let long' : c.remove.new.self.len ≡ length c.remove.new.self.items = c.remove.new.self.ok.0 in
    let some = c.remove.ensures.succeeds (record { start = 0; id = 0 }) (omega arith) in
    let fewer : c.remove.new.self.len + 1 ≡ x.offers.len = subst (λ o. OnSome o (c.remove.new.self.len + 1 ≡ x.offers.len)) some c.remove.ensures.len in
    let taken : Removes x.offers.items c.remove.new.self.items c.partition_point-index.result = record {
      inside = omega arith;
      count = omega arith;
      before = λ i b. c.remove.ensures.below i (record { start = 0; id = 0 }) b;
      after = λ i b m. c.remove.ensures.above i (record { start = 0; id = 0 }) b (omega arith);
    } in
    subst (λ (s : List Offer). Removes s (if x.is_stale then [] else c.remove.new.self.items) k) (sym w)
    (subst (λ (s : List Offer). Removes x.offers.items s k) (sym (ap (λ t. if t then [] else c.remove.new.self.items) fresh))
    (subst (λ n. Removes x.offers.items c.remove.new.self.items n) at taken))
