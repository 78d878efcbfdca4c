use Rattle.hart_laws.proofs.Sessions.{session-served, session-taken}
use Rattle.hart_laws.proofs.laws.session_law.Goals as goal

pub returns-clause-served : goal.returns-clause-served
returns-clause-served c = λ setup hart m session x. session-served setup hart m session x

pub returns-clause-taken : goal.returns-clause-taken
returns-clause-taken c = λ setup hart other m session range x n. session-taken setup hart other m session range x n
