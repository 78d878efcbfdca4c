-- Numbers by their lowest bits.
use Rattle.std.specs.Prelude.{◌-◌, ◌^◌, ℕ}

-- the number whose lowest `count` bits are 1: the largest number of `count` bits
abbrev pub ones_below : ℕ → ℕ
ones_below count = 2 ^ count - 1
