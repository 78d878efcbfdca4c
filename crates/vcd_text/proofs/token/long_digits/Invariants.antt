use Rattle.std.proofs.Common.{◌≡◌, drop, length}
use Rattle.vcd_text.specs.Words.{digits}
use Rattle.vcd_text.proofs.Front.{with_front}
use Rattle.vcd_text.proofs.token.long_digits.Given as goal

abbrev pub invariant-loop-byte : goal.invariant-loop-byte
invariant-loop-byte l = record {
  count : length l.found.items ≡ l.byte-index;
  front : with_front l.found.items (digits (drop l.byte-index l.bytes)) ≡ digits l.bytes;
}
