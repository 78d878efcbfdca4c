use Rattle.std.proofs.Common.{◌≡◌, drop, length}
use Rattle.toml.specs.View.{items_view}
use Rattle.xif_job.specs.Readers.{each, integer_in}
use Rattle.xif_job.proofs.Turns.{with_front}
use Rattle.xif_job.proofs.readers.each_integer.Given as goal

abbrev pub invariant-loop-value : goal.invariant-loop-value
invariant-loop-value l = record {
  -- what was read and what is left are the whole
  whole : with_front l.numbers.items (each (integer_in l.field l.range) (items_view (drop l.value-index l.values)))
      ≡ each (integer_in l.field l.range) (items_view l.values);
  so_many : length l.numbers.items ≡ l.value-index;
}
