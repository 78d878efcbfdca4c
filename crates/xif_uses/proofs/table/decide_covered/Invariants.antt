use Rattle.std.proofs.Common.{◌≡◌, ◌==◌, length, if◌then◌else◌}
use Rattle.std.specs.Option.{option_map}
use Rattle.xif_base.specs.declared.params.Key.{Key}
use Rattle.xif_uses.specs.Order.{IsOrder}
use Rattle.xif_uses.specs.Table.{IsKey, use_of, decided_use}
use Rattle.xif_uses.proofs.table.decide_covered.Given as goal

-- What is left to decide decides as much as what was there at first.
abbrev pub invariant-loop-offer : goal.invariant-loop-offer
invariant-loop-offer l = record {
  params : l.places.params ≡ l.fn.places.params;
  room : l.order.room ≡ l.fn.order.room;
  order : IsOrder l.places l.hart l.order.offers;
  uses : (k : Key) → IsKey l.fn.places.params k
      → (if l.hart == k.hart then option_map (decided_use l.named l.kill) (use_of l.places k) else use_of l.places k)
      ≡ (if l.hart == k.hart then option_map (decided_use l.named l.kill) (use_of l.fn.places k) else use_of l.fn.places k);
}

abbrev pub decreases-loop-offer : goal.decreases-loop-offer
decreases-loop-offer l = length l.order.offers
