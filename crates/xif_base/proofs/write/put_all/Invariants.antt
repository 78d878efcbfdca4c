use Rattle.std.proofs.Common.{◌≡◌, ◌≤◌, ◌-◌, length, take}
use Rattle.xif_base.specs.Output.{grown}
use Rattle.xif_base.proofs.write.put_all.Given as goal

abbrev pub invariant-loop-done : goal.invariant-loop-done
invariant-loop-done g l = record {
  within : l.done ≤ length l.bytes;
  put : g.O.Out.put_bytes l.out ≡ grown (g.O.Out.put_bytes l.fn.out) (take l.done l.bytes);
  uncounted : g.O.Out.faults l.out ≡ g.O.Out.faults l.fn.out;
  faultless : g.O.Out.faultless l.fn.out → g.O.Out.faultless l.out;
}

abbrev pub decreases-loop-done : goal.decreases-loop-done
decreases-loop-done g l = length l.bytes - l.done
