use Rattle.std.proofs.Common.{◌≡◌, drop}
use Rattle.toml.specs.View.{items_view}
use Rattle.xif_job.specs.FieldTable.{unit_in}
use Rattle.xif_job.specs.Readers.{each}
use Rattle.xif_job.proofs.Turns.{with_front}
use Rattle.xif_job.proofs.units.read_set.Given as goal

-- what was read and what is left are the whole
abbrev pub invariant-loop-value : goal.invariant-loop-value
invariant-loop-value l = with_front l.set (each unit_in (items_view (drop l.value-index l.values))) ≡ each unit_in (items_view l.values)
