use Rattle.std.proofs.Common.{◌≡◌, ◌-◌, length}
use Rattle.xif_sampler.specs.Digits.{value_bit_of, unknown_bit_of, bits_from}
use Rattle.xif_sampler.proofs.digits.written.Given as goal

abbrev pub invariant-loop-index : goal.invariant-loop-index
invariant-loop-index l = record {
  value : l.quad.value ≡ bits_from value_bit_of l.digits (length l.digits - l.index) (l.index - l.start);
  unknown : l.quad.unknown ≡ bits_from unknown_bit_of l.digits (length l.digits - l.index) (l.index - l.start);
}
