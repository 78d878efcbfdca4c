-- A sample: the bits of all signals but the clock, some of them x or z (IEEE 1364-2005, 18.2.2).
use Rattle.std.specs.Prelude.{◌==◌, ◌-◌, ◌^◌, ◌%◌, ℕ, Bool, List, slice_index_or, replicate, bit_and}
use Rattle.std.specs.Int.{bit_not, w64}
use Rattle.xif_base.specs.declared.params.Params.{Params}
use Rattle.xif_signals.specs.declared.sample.Quad.{Quad}
use Rattle.xif_signals.specs.declared.signal.Signal.{Signal}
use Rattle.xif_signals.specs.declared.signal.Signal.TheVariants.{RstN}
use Rattle.xif_signals.specs.Signal.{signal_number, width_of}

-- a number, all bits of it known
abbrev pub known_quad : ℕ → Quad
known_quad n = record { value = n; unknown = 0 }

-- the number that a quad reads as: an unknown bit reads as 0
abbrev pub reading_of : Quad → ℕ
reading_of q = bit_and q.value (bit_not w64 q.unknown)

-- the place of a signal other than the clock in a sample
abbrev pub place_of : Signal → ℕ
place_of s = signal_number s - 1

abbrev pub quad_of : List Quad → Signal → Quad
quad_of qs s = slice_index_or qs (place_of s) (known_quad 0)

-- all signals are 0
abbrev pub zeros : List Quad
zeros = replicate 28 (known_quad 0)

-- the bits of a signal below its width, an unknown bit as 0
abbrev pub value_of : List Quad → Params → Signal → ℕ
value_of qs p s = reading_of (quad_of qs s) % 2 ^ width_of s p

-- a signal of one bit is known to be 1
abbrev pub is_one : List Quad → Params → Signal → Bool
is_one qs p s = value_of qs p s == 1

-- the unknown bits of a signal below its width
abbrev pub unknown_of : List Quad → Params → Signal → ℕ
unknown_of qs p s = (quad_of qs s).unknown % 2 ^ width_of s p

-- A cycle is one of a session where rst_n is known to be 1. The other cycles belong to no session,
-- and separate them.
abbrev pub is_in_session : List Quad → Params → Bool
is_in_session qs p = is_one qs p RstN
