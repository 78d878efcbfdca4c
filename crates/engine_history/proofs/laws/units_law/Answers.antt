use Rattle.engine_history.proofs.Orderly.{orderly_told}
use Rattle.engine_history.proofs.Readings.{units_without}
use Rattle.engine_history.proofs.laws.units_law.Goals as goal

pub returns-clause-units : goal.returns-clause-units
returns-clause-units c = λ params set script session hart range d o h. (orderly_told params set script session range d o).whole_is.units_are hart h

pub returns-clause-killed : goal.returns-clause-killed
returns-clause-killed c = λ params set hart lives. units_without params set hart lives
