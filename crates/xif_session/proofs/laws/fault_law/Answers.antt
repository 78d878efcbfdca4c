use Rattle.xif_session.proofs.Places.{none_holds, first_fails}
use Rattle.xif_session.proofs.laws.fault_law.Goals as goal

pub returns-clause-none : goal.returns-clause-none
returns-clause-none c = λ params p b range. none_holds params p b range

pub returns-clause-first : goal.returns-clause-first
returns-clause-first c = λ params p b fault range. first_fails params p b range fault
