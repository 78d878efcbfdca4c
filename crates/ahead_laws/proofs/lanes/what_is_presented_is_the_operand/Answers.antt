use Rattle.ahead_laws.proofs.Presenting.{presented}
use Rattle.ahead_laws.proofs.lanes.what_is_presented_is_the_operand.Goals as goal

pub returns : goal.returns
returns c = presented
