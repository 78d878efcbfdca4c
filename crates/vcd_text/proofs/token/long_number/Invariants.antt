use Rattle.std.proofs.Common.{◌≡◌, drop}
use Rattle.vcd_text.specs.Words.{number, number_after}
use Rattle.vcd_text.proofs.token.long_number.Given as goal

abbrev pub invariant-loop-byte : goal.invariant-loop-byte
invariant-loop-byte l = number_after l.value (drop l.byte-index l.bytes) ≡ number l.bytes
