use Rattle.cycle_lists.proofs.Free.{free, free_below}
use Rattle.cycle_lists.proofs.laws.free_id_law.Goals as goal

pub returns-clause-free : goal.returns-clause-free
returns-clause-free c = λ es. (free es).each

pub returns-clause-below : goal.returns-clause-below
returns-clause-below c = λ es window room. free_below es window room
