use Rattle.inorder_machine.proofs.Written.{place}
use Rattle.inorder_machine.proofs.laws.a_line_is_of_the_next_instruction.Goals as goal

pub returns : goal.returns
returns c = record { pc = λ x s l e. (place x s l e).0; word = λ x s l e. (place x s l e).1 }
