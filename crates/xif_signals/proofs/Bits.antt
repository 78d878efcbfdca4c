-- The low bits of a number.
use Rattle.std.proofs.Common.{◌≡◌, ◌<◌, ◌-◌, ◌%◌, ◌^◌, ℕ, bit_and, ◌∙◌, ap, arith}
use Rattle.std.proofs.Math.Nat.{mod-lt, one-le-pow}
use Rattle.std.proofs.lemmas.Nat.{and_mask}

pub and_ones : (n k mask : ℕ) → mask ≡ 2 ^ k - 1 → bit_and n mask ≡ n % 2 ^ k
and_ones n k mask e = ap (bit_and n) e ∙ and_mask n k

pub low_lt : (n k : ℕ) → n % 2 ^ k < 2 ^ k
low_lt n k = mod-lt n (one-le-pow k 2 (omega arith))
