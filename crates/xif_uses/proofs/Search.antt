-- Where an offer is, by its start.
use Rattle.std.proofs.Common.{◌≡◌, ◌<◌, ℕ, true, false, List, length, sym, subst, arith}
use Rattle.std.specs.Prelude.{slice_index_or, nat_lt}
use Rattle.std.specs.List.Sorted.{IsPartitionedBy, IsPartitionPoint}
use Rattle.std.proofs.lemmas.List.{get_or_default}
use Rattle.xif_session.proofs.Options.{lt_in, lt_out, no_true}
use Rattle.xif_uses.specs.declared.undecided.Offer.{Offer}
use Rattle.xif_uses.specs.Order.{Rises, offer_at}
use Rattle.xif_uses.proofs.Slots.{three}

pub parted : (offers : List Offer) (start : ℕ) → Rises offers → IsPartitionedBy (λ (x : Offer). nat_lt x.start start) offers
parted offers start r i j d l m e =
    three i j (nat_lt (slice_index_or offers i d).start start ≡ true)
    (λ x. at i (omega arith) (let y = r i j x m in let z = lt_in (offer_at offers j).start start (under j m e) in lt_out (offer_at offers i).start start (omega arith)))
    (λ x. subst (λ n. nat_lt (slice_index_or offers n d).start start ≡ true) (sym x) e)
    (λ x. absurd (omega arith))
  where
    at : (n : ℕ) → n < length offers → nat_lt (offer_at offers n).start start ≡ true → nat_lt (slice_index_or offers n d).start start ≡ true
    at n l e = subst (λ (x : Offer). nat_lt x.start start ≡ true) (get_or_default offers n (record { start = 0; id = 0 }) d l) e

    under : (n : ℕ) → n < length offers → nat_lt (slice_index_or offers n d).start start ≡ true → nat_lt (offer_at offers n).start start ≡ true
    under n l e = subst (λ (x : Offer). nat_lt x.start start ≡ true) (get_or_default offers n d (record { start = 0; id = 0 }) l) e

pub point_is : (offers : List Offer) (start k i : ℕ) → Rises offers → k < length offers → (offer_at offers k).start ≡ start
    → IsPartitionPoint (λ (x : Offer). nat_lt x.start start ≡ true) (λ (x : Offer). nat_lt x.start start ≡ false) offers i → i ≡ k
point_is offers start k i r l e p =
    three i k (i ≡ k)
    (λ x. let y = r i k x l in no_true (nat_lt (offer_at offers i).start start) (lt_out (offer_at offers i).start start (omega arith)) (p.1 i (record { start = 0; id = 0 }) (omega arith) (omega arith)))
    (λ x. x)
    (λ x. let y = lt_in (offer_at offers k).start start (p.0 k (record { start = 0; id = 0 }) (omega arith) x) in absurd (omega arith))
