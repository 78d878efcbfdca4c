use Rattle.inorder_machine.proofs.Written.{written, others}
use Rattle.inorder_machine.proofs.laws.a_line_writes_the_targets_of_its_word.Goals as goal

pub returns : goal.returns
returns c = record { written = written; others = others }
