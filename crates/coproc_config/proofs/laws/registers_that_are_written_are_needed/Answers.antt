use Rattle.coproc_config.proofs.Columns.{none-written, one-needed, pair-needed}
use Rattle.coproc_config.proofs.laws.registers_that_are_written_are_needed.Goals as goal

pub returns : goal.returns
returns c = record { none = none-written; one = one-needed; pair = pair-needed }
