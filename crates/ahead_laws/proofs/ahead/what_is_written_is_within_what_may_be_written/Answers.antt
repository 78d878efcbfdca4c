use Rattle.ahead_laws.proofs.Views.{line-stays, line-value}
use Rattle.ahead_laws.proofs.ahead.what_is_written_is_within_what_may_be_written.Goals as goal

pub returns : goal.returns
returns c = record { stays = line-stays; value = line-value }
