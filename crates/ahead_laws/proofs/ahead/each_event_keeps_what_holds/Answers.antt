use Rattle.ahead_laws.proofs.Retiring.{keeps, runs-begun}
use Rattle.ahead_laws.proofs.Refining.{refines}
use Rattle.ahead_laws.proofs.ahead.each_event_keeps_what_holds.Goals as goal

pub returns : goal.returns
returns c = record { begins = runs-begun; keeps = keeps; refines = refines }
