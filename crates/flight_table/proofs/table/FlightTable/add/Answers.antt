use Rattle.std.proofs.Common.{◌≡◌, ◌<◌, ◌+◌, length, sym, ap, subst, arith}
use Rattle.circular_buffer.specs.Buffer.{Buffer}
use Rattle.cycle_spec.specs.declared.entry.Entry.{Entry}
use Rattle.flight_table.specs.Table.{Table}
use Rattle.flight_table.specs.Index.{IsKept}
use Rattle.flight_table.proofs.Kept.{push_kept}
use Rattle.flight_table.proofs.table.FlightTable.add.Goals as goal

pub invariant_of-self : goal.invariant_of-self
invariant_of-self c =
    let t : Table = record { dual_write = c.self.inside.dual_write; window = c.self.inside.ring.capacity; next_seq = c.self.inside.next_seq; entries = c.self.inside.ring.items } in
    let room : length t.entries < t.window = omega (arith, c.requires.room, ap (λ (x : Table). length x.entries) c.self.view_is, ap (λ (x : Table). x.window) c.self.view_is) in
    let number : (c.args.entry).seq ≡ t.next_seq = omega (arith, c.requires.number, ap (λ (x : Table). x.next_seq) c.self.view_is) in
    subst (λ (b : Buffer Entry). IsKept (record { dual_write = t.dual_write; window = b.capacity; next_seq = t.next_seq + 1; entries = b.items }) c.note.new.writers) (sym c.push.ensures)
    (push_kept t c.args.entry c.self.inside.writers c.note.new.writers c.self.invariant number room c.note.ensures)
