use Rattle.std.proofs.Common.{◌≡◌, length, take, map}
use Rattle.xif_signals.specs.Signal.{name_of}
use Rattle.xif_job.proofs.map.names.Given as goal

-- the names so far are those of the signals so far
abbrev pub invariant-loop-i : goal.invariant-loop-i
invariant-loop-i l = record {
  count : length l.names ≡ 29;
  so_far : map (λ n. n.now) (take l.i l.names) ≡ map name_of (take l.i l.signals);
}
