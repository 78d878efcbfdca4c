use Rattle.std.proofs.Common.{◌≡◌, ◌<◌, ◌^◌, drop}
use Rattle.vcd_text.specs.Words.{number, number_after}
use Rattle.vcd_text.proofs.token.safe_number.Given as goal

abbrev pub invariant-loop-byte : goal.invariant-loop-byte
invariant-loop-byte l = record {
  below : l.value < 10 ^ l.byte-index;
  so_far : number_after l.value (drop l.byte-index l.bytes) ≡ number l.bytes;
}
