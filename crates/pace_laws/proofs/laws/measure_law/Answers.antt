use Rattle.pace_laws.proofs.Reaching.{reached-bound, reached-falls, reached-drains}
use Rattle.pace_laws.proofs.laws.measure_law.Goals as goal

pub returns-clause-bound : goal.returns-clause-bound
returns-clause-bound c = λ setup m ok r. reached-bound setup m ok r

pub returns-clause-falls : goal.returns-clause-falls
returns-clause-falls c = λ setup m answer ok r q z n. reached-falls setup m answer ok r q z n

pub returns-clause-drain : goal.returns-clause-drain
returns-clause-drain c = λ setup m answer ok r q n. reached-drains setup m answer ok r q n
