use Rattle.trace_laws.proofs.Sessions.{session_keeps}
use Rattle.trace_laws.proofs.laws.session_law.Goals as goal

pub returns : goal.returns
returns c = λ setup hart m session range x. session_keeps setup range hart m session x
