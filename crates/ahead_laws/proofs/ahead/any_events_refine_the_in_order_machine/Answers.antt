use Rattle.ahead_laws.proofs.Refining.{events-refine}
use Rattle.ahead_laws.proofs.ahead.any_events_refine_the_in_order_machine.Goals as goal

pub returns : goal.returns
returns c = events-refine
