use Rattle.std.proofs.Common.{◌≡◌, ◌+◌, sym, ap, subst}
use Rattle.circular_buffer.specs.Buffer.{Buffer}
use Rattle.cycle_spec.specs.declared.entry.Entry.{Entry}
use Rattle.flight_table.specs.Table.{Table}
use Rattle.flight_table.specs.Index.{IsKept}
use Rattle.cycle_spec.specs.Flight.{count_through}
use Rattle.flight_table.proofs.Slots.{MendedOr}
use Rattle.flight_table.proofs.Kept.{cut_kept}
use Rattle.flight_table.proofs.table.FlightTable.cut_after.Goals as goal

pub invariant_of-self : goal.invariant_of-self
invariant_of-self c =
    let t : Table = record { dual_write = c.self.inside.dual_write; window = c.self.inside.ring.capacity; next_seq = c.self.inside.next_seq; entries = c.self.inside.ring.items } in
    let same : c.place_of-older.result + 1 ≡ count_through c.args.seq t.entries = ap (λ n. n + 1) c.place_of-older.ensures.place in
    subst (λ (b : Buffer Entry). IsKept (record { dual_write = t.dual_write; window = b.capacity; next_seq = t.next_seq; entries = b.items }) c.mend_younger.new.writers) (sym c.truncate_back.ensures)
    (cut_kept t c.args.seq (c.place_of-older.result + 1) c.self.inside.writers c.mend_younger.new.writers c.self.invariant same
    (λ r l. subst (λ (b : Buffer Entry). MendedOr t.dual_write b.items c.args.seq c.self.inside.writers c.mend_younger.new.writers r) c.truncate_back.ensures (c.mend_younger.ensures r l)))
