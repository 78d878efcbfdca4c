use Rattle.engine_history.proofs.Fields.{names}
use Rattle.engine_history.proofs.Kept.{told}
use Rattle.engine_history.specs.Lives.{lives_of}
use Rattle.engine_history.specs.Runs.{engine_of}
use Rattle.engine_history.proofs.laws.fields_law.Goals as goal

pub returns-clause-uses : goal.returns-clause-uses
returns-clause-uses c = λ params set script session d. (told params set script session d).uses_are

pub returns-clause-named : goal.returns-clause-named
returns-clause-named c = λ params set script session d key. names params set (engine_of params set script session).uses (lives_of session) (told params set script session d).uses_are key
