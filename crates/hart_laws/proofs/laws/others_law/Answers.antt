use Rattle.hart_laws.proofs.Others.{served-new, served-cycle, others-uses, others-taken, others-units}
use Rattle.hart_laws.proofs.laws.others_law.Goals as goal

pub returns-clause-new : goal.returns-clause-new
returns-clause-new c = λ params set script. served-new params set script

pub returns-clause-served : goal.returns-clause-served
returns-clause-served c = λ hart m h. served-cycle hart m h

pub returns-clause-uses : goal.returns-clause-uses
returns-clause-uses c = λ hart other m h n. others-uses hart other m h n

pub returns-clause-taken : goal.returns-clause-taken
returns-clause-taken c = λ hart other m h n a. others-taken hart other m h n a

pub returns-clause-units : goal.returns-clause-units
returns-clause-units c = λ hart other m h n. others-units hart other m h n
