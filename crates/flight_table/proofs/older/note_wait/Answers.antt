use Rattle.std.proofs.Common.{not}
use Rattle.flight_table.proofs.Slots.{noted}
use Rattle.flight_table.proofs.older.note_wait.Goals as goal

pub returns : goal.returns
returns c =
    noted (not c.args.entry.now.done) c.args.dual_write c.args.entry.now c.args.waits.now c.note_one.new.waits c.note_second.new.waits
    c.first_target-first.result c.saturating_add.result c.first_target-first.ensures c.saturating_add.ensures
    c.note_one.ensures.named c.note_one.ensures.others c.note_second.ensures.named c.note_second.ensures.others
