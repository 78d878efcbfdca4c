use Rattle.command_laws.proofs.Generated.{generated}
use Rattle.command_laws.proofs.laws.gen_is_answered.Goals as goal

pub returns : goal.returns
returns c = λ words find seed count is. generated words find seed count is
