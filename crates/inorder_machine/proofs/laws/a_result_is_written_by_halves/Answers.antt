use Rattle.std.proofs.Common.{refl}
use Rattle.inorder_machine.proofs.Written.{written_low, written_high}
use Rattle.inorder_machine.proofs.laws.a_result_is_written_by_halves.Goals as goal

pub returns : goal.returns
returns c = record { low = written_low; high = written_high; zero = λ registers flags value. refl }
