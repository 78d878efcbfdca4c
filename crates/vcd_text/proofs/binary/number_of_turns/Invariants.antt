use Rattle.std.proofs.Common.{◌≡◌, ◌≤◌, ◌-◌, ◌%◌, take, length}
use Rattle.vcd_text.specs.Vectors.{IsWritten}
use Rattle.vcd_text.proofs.binary.number_of_turns.Given as goal

abbrev pub invariant-loop-len : goal.invariant-loop-len
invariant-loop-len l = record {
  within : l.len ≤ length l.bytes;
  whole : (length l.bytes - l.len) % 8 ≡ 0;
  written : IsWritten (take l.len l.bytes) l.number;
}

abbrev pub decreases-loop-len : goal.decreases-loop-len
decreases-loop-len l = length l.bytes - l.len
