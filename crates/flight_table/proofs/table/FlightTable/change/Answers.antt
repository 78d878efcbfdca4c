use Rattle.std.proofs.Common.{sym, subst}
use Rattle.circular_buffer.specs.Buffer.{Buffer}
use Rattle.cycle_spec.specs.declared.entry.Entry.{Entry}
use Rattle.flight_table.specs.Table.{Table}
use Rattle.flight_table.specs.Index.{IsKept}
use Rattle.flight_table.proofs.Kept.{change_kept, kept_change}
use Rattle.flight_table.proofs.table.FlightTable.change.Goals as goal

pub invariant_of-self : goal.invariant_of-self
invariant_of-self c =
    let t : Table = record { dual_write = c.self.inside.dual_write; window = c.self.inside.ring.capacity; next_seq = c.self.inside.next_seq; entries = c.self.inside.ring.items } in
    let w = c.self.inside.writers in
    subst (λ (b : Buffer Entry). IsKept (record { dual_write = t.dual_write; window = b.capacity; next_seq = t.next_seq; entries = b.items }) w) (sym c.change_all.ensures)
    (change_kept t c.args.change c.args.seq w w c.self.invariant (kept_change c.args.change c.requires t.dual_write c.args.seq t.entries w c.self.invariant.index))
