use Rattle.ahead_laws.proofs.Carried.{carried-same}
use Rattle.ahead_laws.proofs.lanes.only_what_is_read_counts.Goals as goal

pub returns : goal.returns
returns c = carried-same
