use Rattle.std.proofs.Common.{◌≡◌, ◌∙◌, ◌≢◌, ◌⊎◌, ◌+◌, slice_get, Some, None, sym, subst}
use Rattle.std.specs.Prelude.{find}
use Rattle.circular_buffer.specs.Buffer.{Buffer}
use Rattle.cycle_spec.specs.declared.entry.Entry.{Entry}
use Rattle.flight_table.specs.Table.{Table, writer_of}
use Rattle.flight_table.specs.Index.{IsKept, first_target}
use Rattle.cycle_spec.specs.Flight.{has_seq}
use Rattle.flight_table.specs.declared.change.Change.TheVariants as change
use Rattle.flight_table.proofs.Kept.{change_kept, kept_answered, kept_unanswered}
use Rattle.flight_table.proofs.table.FlightTable.set_response.Goals as goal

pub invariant_of-self : goal.invariant_of-self
invariant_of-self c =
    let t : Table = record { dual_write = c.self.inside.dual_write; window = c.self.inside.ring.capacity; next_seq = c.self.inside.next_seq; entries = c.self.inside.ring.items } in
    let none : find (has_seq c.args.seq) t.entries ≡ None = sym (c.copied-answered.ensures ∙ c.entry_of.ensures) ∙ c.in_default.is in
    subst (λ (b : Buffer Entry). IsKept (record { dual_write = t.dual_write; window = b.capacity; next_seq = t.next_seq; entries = b.items }) c.self.inside.writers) (sym c.change_all.ensures)
    (change_kept t (change.Response c.args.response) c.args.seq c.self.inside.writers c.self.inside.writers c.self.invariant
    (kept_unanswered t.dual_write c.args.seq c.args.response t.entries c.self.inside.writers none c.self.invariant.index))

pub invariant_of-self-2 : goal.invariant_of-self-2
invariant_of-self-2 c =
    let t : Table = record { dual_write = c.self.inside.dual_write; window = c.self.inside.ring.capacity; next_seq = c.self.inside.next_seq; entries = c.self.inside.ring.items } in
    let found : find (has_seq c.args.seq) t.entries ≡ Some c.in-Some.entry = sym c.entry_of.ensures ∙ sym c.in-Some.ensures in
    subst (λ (b : Buffer Entry). IsKept (record { dual_write = t.dual_write; window = b.capacity; next_seq = t.next_seq; entries = b.items }) c.mend.new.writers) (sym c.change_all.ensures)
    (change_kept t (change.Response c.args.response) c.args.seq c.self.inside.writers c.mend.new.writers c.self.invariant
    (kept_answered t.dual_write c.args.seq c.args.response 0 t.next_seq t.entries c.in-Some.entry c.self.inside.writers c.mend.new.writers c.self.invariant.rises found c.self.invariant.index
    (λ r l. subst (λ (b : Buffer Entry). (slice_get c.mend.new.writers r ≡ Some (writer_of t.dual_write b.items r)) ⊎ ((slice_get c.mend.new.writers r ≡ slice_get c.self.inside.writers r) × ((r ≢ first_target c.in-Some.entry) × (r ≢ first_target c.in-Some.entry + 1)))) c.change_all.ensures (c.mend.ensures r l))))
