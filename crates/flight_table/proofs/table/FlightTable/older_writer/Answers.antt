use Rattle.std.proofs.Common.{◌≡◌, ◌<◌, ◌∙◌, Some, None, option_copied, get_or, sym, ap, subst}
use Rattle.std.proofs.lemmas.Option.{get_or_from_slice_get}
use Rattle.cycle_spec.specs.Flight.{older_than, youngest_writer}
use Rattle.flight_table.specs.Table.{Table, writer_of}
use Rattle.flight_table.proofs.Kept.{read_none, read_some}
use Rattle.flight_table.proofs.table.FlightTable.older_writer.Goals as goal

pub returns-in-None : goal.returns-in-None
returns-in-None c =
    let x = c.self.inside in
    let r = c.args.register in
    let within : r < 32 = c.if-register-ge32.false in
    let writer = writer_of x.dual_write x.ring.items r in
    let read : get_or x.writers r None ≡ writer = get_or_from_slice_get x.writers r writer None (c.self.invariant.index r within) in
    let none : writer ≡ None = sym read ∙ ap (λ n. get_or x.writers n None) (sym c.from.ensures) ∙ c.in-None.is in
    subst (λ (t : Table). None ≡ youngest_writer t.dual_write (older_than c.args.seq t.entries) r) c.self.view_is
    (sym (read_none x.dual_write c.args.seq 0 x.next_seq x.ring.items r c.self.invariant.rises none))

pub returns-in-Some : goal.returns-in-Some
returns-in-Some c =
    let x = c.self.inside in
    let r = c.args.register in
    let within : r < 32 = c.if-register-ge32.false in
    let n = c.in-Some.youngest in
    let writer = writer_of x.dual_write x.ring.items r in
    let read : get_or x.writers r None ≡ writer = get_or_from_slice_get x.writers r writer None (c.self.invariant.index r within) in
    let some : writer ≡ Some n = sym read ∙ ap (λ m. get_or x.writers m None) (sym c.from.ensures) ∙ c.in-Some.is in
    subst (λ (t : Table). option_copied c.entry_of.result ≡ youngest_writer t.dual_write (older_than c.args.seq t.entries) r) c.self.view_is
    (c.entry_of.ensures ∙ sym (read_some x.dual_write c.args.seq 0 x.next_seq x.ring.items r n c.self.invariant.rises some c.if-youngest-seq.true))
