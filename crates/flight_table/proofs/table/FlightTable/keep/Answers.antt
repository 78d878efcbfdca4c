use Rattle.std.proofs.Common.{◌≡◌, ◌+◌, take, ap, subst, ◌∙◌, arith}
use Rattle.cycle_spec.specs.Flight.{count_through}
use Rattle.flight_table.specs.Table.{Table}
use Rattle.flight_table.proofs.Counts.{counted_at}
use Rattle.flight_table.proofs.table.FlightTable.keep.Goals as goal

pub returns-then-from-len : goal.returns-then-from-len
returns-then-from-len c =
    let x = c.self.inside in
    let e = c.entry_at.result.now in
    let n = c.from-then-from-len.result in
    let up : count_through e.seq x.ring.items ≡ n + 1 = counted_at n 0 x.next_seq x.ring.items e c.self.invariant.rises c.entry_at.ensures.value in
    let count : n + 1 ≡ c.args.count = omega (arith, c.from-then-from-len.ensures, c.if-count-eq0.false) in
    let same : count_through e.seq c.args.self.now.entries ≡ c.args.count =
    subst (λ (t : Table). count_through e.seq t.entries ≡ c.args.count) c.self.view_is (up ∙ count) in
    c.cut_after.ensures ∙ ap (λ k. record { dual_write = c.args.self.now.dual_write; window = c.args.self.now.window; next_seq = c.args.self.now.next_seq; entries = take k c.args.self.now.entries }) same
