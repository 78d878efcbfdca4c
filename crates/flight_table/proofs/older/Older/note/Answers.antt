use Rattle.flight_table.proofs.OlderOnes.{waits_more, any_more}
use Rattle.cycle_spec.specs.Flight.{is_store, is_pending}
use Rattle.flight_table.proofs.older.Older.note.Goals as goal

pub returns : goal.returns
returns c = λ registers es k. record {
  waits = waits_more c.args.dual_write registers es c.args.entry.now c.args.self.now.waits c.note_wait.new.waits k.waits c.note_wait.ensures;
  store = any_more is_store es c.args.entry.now c.args.self.now.store c.is_store.result k.store c.is_store.ensures;
  pending = any_more is_pending es c.args.entry.now c.args.self.now.pending c.is_pending.result k.pending c.is_pending.ensures;
}
