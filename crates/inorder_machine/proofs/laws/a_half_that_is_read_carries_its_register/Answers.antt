use Rattle.inorder_machine.specs.Machine.{register_in}
use Rattle.inorder_machine.proofs.Halves.{low_carried, high_carried, low_unread, high_unread}
use Rattle.inorder_machine.proofs.laws.a_half_that_is_read_carries_its_register.Goals as goal

pub returns : goal.returns
returns c = record {
  low = λ p registers word flags lane small read. low_carried p (register_in registers) word flags lane small read;
  high = λ p registers word flags lane small read. high_carried p (register_in registers) word flags lane small read;
  low_unread = λ p registers word flags lane unread. low_unread p (register_in registers) word flags lane unread;
  high_unread = λ p registers word flags lane small unread. high_unread p (register_in registers) word flags lane small unread;
}
