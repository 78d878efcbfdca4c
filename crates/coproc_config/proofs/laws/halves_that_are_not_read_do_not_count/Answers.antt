use Rattle.coproc_config.proofs.Unread.{unread}
use Rattle.coproc_config.proofs.laws.halves_that_are_not_read_do_not_count.Goals as goal

pub returns : goal.returns
returns c = unread
