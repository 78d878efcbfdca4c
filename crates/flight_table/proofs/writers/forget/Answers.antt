use Rattle.flight_table.proofs.Slots.{forgot}
use Rattle.flight_table.proofs.writers.forget.Goals as goal

pub returns : goal.returns
returns c = λ dual_write.
    forgot dual_write c.args.entry.now c.args.writers.now c.forget_one.new.writers c.forget_one-2.new.writers
    c.first_target-first.result c.saturating_add.result c.first_target-first.ensures c.saturating_add.ensures
    c.forget_one.ensures.named c.forget_one.ensures.others c.forget_one-2.ensures.named c.forget_one-2.ensures.others
