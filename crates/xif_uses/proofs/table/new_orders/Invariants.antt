use Rattle.std.proofs.Common.{◌≡◌, ◌<◌, ◌≤◌, ℕ, [], length}
use Rattle.xif_uses.specs.Order.{order_at}
use Rattle.xif_uses.proofs.table.new_orders.Given as goal

abbrev pub invariant-loop : goal.invariant-loop
invariant-loop l = record {
  within : l.counter ≤ l.harts;
  count : length l.orders.items ≡ l.counter;
  empty : (k : ℕ) → k < length l.orders.items → order_at l.orders.items k ≡ record { room = l.ids; offers = [] };
}
