use Rattle.std.proofs.Common.{◌≡◌, length, take, drop}
use Rattle.xif_signals.specs.Signal.{signals}
use Rattle.xif_job.specs.FieldTable.{places_in}
use Rattle.xif_job.specs.Tables.{members}
use Rattle.xif_job.proofs.Turns.{with_front}
use Rattle.xif_job.proofs.map.read_places.Given as goal

-- what was read and what is left are the whole
abbrev pub invariant-loop-signal : goal.invariant-loop-signal
invariant-loop-signal l = record {
  all : l.signal-items ≡ signals;
  count : length l.map ≡ 29;
  so_far : with_front (take l.signal-index l.map) (places_in l.params (members l.table) (drop l.signal-index l.signal-items)) ≡ places_in l.params (members l.table) signals;
}
