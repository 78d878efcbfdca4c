use Rattle.inorder_machine.proofs.Unread.{Ignores, outcome-same, units-same}
use Rattle.inorder_machine.proofs.laws.what_is_not_read_does_not_change_a_step.Goals as goal

pub returns : goal.returns
returns c =
    let table = c.what_is_not_read_does_not_count.ensures in
    let ignores : Ignores = record { rs1 = table.rs1; rs2 = table.rs2; load = table.load; store = table.store } in
    record { outcome = outcome-same ignores; units = units-same }
