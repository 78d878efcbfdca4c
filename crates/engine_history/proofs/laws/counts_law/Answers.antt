use Rattle.std.proofs.Common.{◌∙◌}
use Rattle.engine_history.proofs.Kept.{told, accepted_all}
use Rattle.engine_history.proofs.Turns.{turn_same, issue_counted, register_counted}
use Rattle.engine_history.specs.Channels.{issue_beats, register_beats}
use Rattle.engine_history.specs.Runs.{engine_of}
use Rattle.engine_history.proofs.laws.counts_law.Goals as goal

pub returns-clause-accepted : goal.returns-clause-accepted
returns-clause-accepted c = λ params set script session d. (told params set script session d).accepted_is ∙ accepted_all session

pub returns-clause-issue : goal.returns-clause-issue
returns-clause-issue c = λ params set script session d owner. turn_same (engine_of params set script session).issue_turns (issue_beats session) (issue_counted params set script session d) owner

pub returns-clause-register : goal.returns-clause-register
returns-clause-register c = λ params set script session d owner. turn_same (engine_of params set script session).register_turns (register_beats session) (register_counted params set script session d) owner

pub returns-clause-cycle : goal.returns-clause-cycle
returns-clause-cycle c = λ params set script session d. (told params set script session d).cycle_is

pub returns-clause-waiting : goal.returns-clause-waiting
returns-clause-waiting c = λ params set script session d. (told params set script session d).owner_is
