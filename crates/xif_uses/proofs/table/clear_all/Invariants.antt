use Rattle.std.proofs.Common.{◌≡◌, ◌<◌, ◌≤◌, ℕ, [], length}
use Rattle.xif_uses.specs.Order.{order_at}
use Rattle.xif_uses.proofs.table.clear_all.Given as goal

abbrev pub invariant-loop-hart : goal.invariant-loop-hart
invariant-loop-hart l = record {
  within : l.hart ≤ length l.orders;
  count : length l.orders ≡ length l.fn.orders;
  empty : (k : ℕ) → k < l.hart → order_at l.orders k ≡ record (order_at l.fn.orders k) { offers = [] };
  others : (k : ℕ) → l.hart ≤ k → order_at l.orders k ≡ order_at l.fn.orders k;
}
