use Rattle.std.proofs.Common.{◌≡◌, length, drop}
use Rattle.vcd_text.specs.Words.{digits}
use Rattle.vcd_text.proofs.Front.{with_front}
use Rattle.vcd_text.proofs.token.short_digits.Given as goal

abbrev pub invariant-loop-byte : goal.invariant-loop-byte
invariant-loop-byte l = record {
  count : length l.found ≡ l.byte-index;
  front : with_front l.found (digits (drop l.byte-index l.bytes)) ≡ digits l.bytes;
}
