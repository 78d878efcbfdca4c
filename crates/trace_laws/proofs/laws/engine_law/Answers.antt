use Rattle.trace_laws.proofs.EngineHalf.{engine_half}
use Rattle.trace_laws.proofs.laws.engine_law.Goals as goal

pub returns : goal.returns
returns c = λ params set script range driven k. (engine_half params set script range driven k).1
