use Rattle.std.proofs.Common.{Some}
use Rattle.flight_table.proofs.Slots.{noted}
use Rattle.flight_table.proofs.writers.note.Goals as goal

pub returns : goal.returns
returns c =
    noted (Some c.args.entry.now.seq) c.args.dual_write c.args.entry.now c.args.writers.now c.note_one.new.writers c.note_one-2.new.writers
    c.first_target-first.result c.saturating_add.result c.first_target-first.ensures c.saturating_add.ensures
    c.note_one.ensures.named c.note_one.ensures.others c.note_one-2.ensures.named c.note_one-2.ensures.others
