use Rattle.std.proofs.Common.{◌≡◌, drop}
use Rattle.toml.specs.View.{items_view}
use Rattle.xif_job.specs.Readers.{◌to◌, each, integer_in}
use Rattle.xif_job.proofs.Turns.{with_front}
use Rattle.xif_job.proofs.readers.each_delay.Given as goal

-- what was read and what is left are the whole
abbrev pub invariant-loop-value : goal.invariant-loop-value
invariant-loop-value l =
    with_front l.delays (each (integer_in l.field (0 to 65535)) (items_view (drop l.value-index l.values)))
    ≡ each (integer_in l.field (0 to 65535)) (items_view l.values)
