use Rattle.std.proofs.Common.{take}
use Rattle.vcd_text.specs.Vectors.{IsWritten}
use Rattle.vcd_text.proofs.binary.number_of_bytes.Given as goal

abbrev pub invariant-loop-byte : goal.invariant-loop-byte
invariant-loop-byte l = IsWritten (take l.byte-index l.bytes) l.number
