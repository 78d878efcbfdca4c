use Rattle.coproc_config.proofs.Columns.{low-counts, high-counts}
use Rattle.coproc_config.proofs.laws.halves_that_are_read_count.Goals as goal

pub returns : goal.returns
returns c = record { low = low-counts; high = high-counts }
