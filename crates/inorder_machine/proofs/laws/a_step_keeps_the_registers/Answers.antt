use Rattle.inorder_machine.proofs.Written.{file_kept}
use Rattle.inorder_machine.proofs.laws.a_step_keeps_the_registers.Goals as goal

pub returns : goal.returns
returns c = file_kept
