use Rattle.engine_history.proofs.Orderly.{orderly_told}
use Rattle.engine_history.proofs.Readings.{all_are}
use Rattle.engine_history.proofs.laws.uses_law.Goals as goal

pub returns-clause-uses : goal.returns-clause-uses
returns-clause-uses c = λ params set script session range d o. (orderly_told params set script session range d o).whole_is.uses_are

pub returns-clause-ready : goal.returns-clause-ready
returns-clause-ready c = λ hart lives. all_are hart lives

pub returns-clause-waiting : goal.returns-clause-waiting
returns-clause-waiting c = λ params set script session range d o. (orderly_told params set script session range d o).whole_is.waiting_is
