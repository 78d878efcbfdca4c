use Rattle.std.proofs.Common.{◌≡◌, drop}
use Rattle.toml.specs.View.{items_view}
use Rattle.xif_job.specs.FieldTable.{entry_in}
use Rattle.xif_job.specs.Readers.{each}
use Rattle.xif_job.proofs.Turns.{with_front}
use Rattle.xif_job.proofs.units.read_entries.Given as goal

-- what was read and what is left are the whole
abbrev pub invariant-loop-value : goal.invariant-loop-value
invariant-loop-value l = with_front l.entries.items (each entry_in (items_view (drop l.value-index l.values))) ≡ each entry_in (items_view l.values)
