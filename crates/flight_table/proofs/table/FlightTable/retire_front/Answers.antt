use Rattle.std.proofs.Common.{sym, subst}
use Rattle.circular_buffer.specs.Buffer.{Buffer}
use Rattle.cycle_spec.specs.declared.entry.Entry.{Entry}
use Rattle.flight_table.specs.Table.{Table}
use Rattle.flight_table.specs.Index.{IsKept}
use Rattle.flight_table.proofs.Scans.{drop_at}
use Rattle.flight_table.proofs.Kept.{drop_kept}
use Rattle.flight_table.proofs.table.FlightTable.retire_front.Goals as goal

pub invariant_of-self : goal.invariant_of-self
invariant_of-self c =
    let t : Table = record { dual_write = c.self.inside.dual_write; window = c.self.inside.ring.capacity; next_seq = c.self.inside.next_seq; entries = c.self.inside.ring.items } in
    subst (λ (b : Buffer Entry). IsKept (record { dual_write = t.dual_write; window = b.capacity; next_seq = t.next_seq; entries = b.items }) c.forget.new.writers) (sym c.pop_front.ensures.items)
    (drop_kept t c.in-Some.entry c.self.inside.writers c.forget.new.writers c.self.invariant (drop_at t.entries 0 c.in-Some.entry (sym c.in-Some.ensures.value)) (c.forget.ensures t.dual_write))
