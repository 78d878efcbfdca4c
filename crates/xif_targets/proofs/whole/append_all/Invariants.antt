use Rattle.std.proofs.Common.{◌≤◌, ◌-◌, ◌++◌, ℕ, List, Option, length, take}
use Rattle.xif_base.specs.Files.{Files}
use Rattle.xif_targets.specs.Writing.{IsWritten, IsUncounted}
use Rattle.xif_targets.proofs.whole.append_all.Given as goal

abbrev pub invariant-loop-done : goal.invariant-loop-done
invariant-loop-done g l = record {
  within : l.done ≤ length l.bytes;
  grows : (before : Option Files) (sent : List ℕ) → IsWritten before (g.S.Shelf.files l.fn.shelf) l.name sent → IsWritten before (g.S.Shelf.files l.shelf) l.name (sent ++ take l.done l.bytes);
  uncounted : IsUncounted g.S.Shelf.fetch_faults g.S.Shelf.write_faults g.S.Shelf.faultless l.fn.shelf l.shelf;
}

abbrev pub decreases-loop-done : goal.decreases-loop-done
decreases-loop-done g l = length l.bytes - l.done
