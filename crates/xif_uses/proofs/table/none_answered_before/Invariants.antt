use Rattle.std.proofs.Common.{◌≡◌, ◌<◌, ◌≤◌, ℕ, false, length}
use Rattle.xif_session.specs.Facts.{is_pending}
use Rattle.xif_uses.specs.Order.{offer_at}
use Rattle.xif_uses.specs.Table.{facts_in}
use Rattle.xif_uses.proofs.table.none_answered_before.Given as goal

abbrev pub invariant-loop-index : goal.invariant-loop-index
invariant-loop-index l = record {
  within : l.index ≤ length l.order.offers;
  older : (i : ℕ) → i < l.index → is_pending (facts_in l.places (record { hart = l.hart; id = (offer_at l.order.offers i).id })) ≡ false;
}
