use Rattle.std.proofs.Common.{◌≤◌, [], sym, subst, arith}
use Rattle.circular_buffer.specs.Buffer.{Buffer}
use Rattle.cycle_spec.specs.declared.entry.Entry.{Entry}
use Rattle.flight_table.specs.Index.{IsKept}
use Rattle.flight_table.proofs.Kept.{none_kept, nones}
use Rattle.flight_table.proofs.table.FlightTable.new.Goals as goal

pub invariant_of-result : goal.invariant_of-result
invariant_of-result c =
    let w = c.from.result in
    let short : w ≤ 32 = omega (arith, c.from.ensures, c.requires) in
    subst (λ (b : Buffer Entry). IsKept (record { dual_write = c.args.params.now.dual_write; window = b.capacity; next_seq = 0; entries = b.items }) _) (sym c.in_ok-with_capacity.ensures)
    (none_kept (record { dual_write = c.args.params.now.dual_write; window = w; next_seq = 0; entries = [] }) _ short (λ r l. nones 32 r l))
