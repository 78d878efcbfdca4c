-- What a word that the units take reads, and what its result writes (CV-X-IF 1.0.0, `register_read`
-- and `writeback` of the issue response).
use Rattle.std.specs.Prelude.{◌+◌, ◌*◌, ◌%◌, ◌^◌, ◌/◌, ◌==◌, ◌&&◌, ℕ, Bool, true, false, List, [], ◌∷◌, Option, Some, None, nat_lt, if◌then◌else◌}
use Rattle.std.specs.Option.{option_map_or}
use Rattle.rv32_table.specs.Instr.{source_field}
use Rattle.xif_base.specs.declared.params.Params.{Params}
use Rattle.xif_base.specs.Flags.{even_bit, odd_bit}
use Rattle.coproc_config.specs.Bits.{low_half, high_half}
use Rattle.inorder_machine.specs.declared.units.Half.{Half}
use Rattle.inorder_machine.specs.declared.units.Half.TheVariants.{Low, High}
use Rattle.inorder_machine.specs.declared.line.Write.{Write}
use Rattle.inorder_machine.specs.declared.line.Write.TheVariants as write

-- a flag of a set, by the number of its bit
abbrev pub has_flag : ℕ → ℕ → Bool
has_flag flags bit = flags / 2 ^ bit % 2 == 1

-- the bit of a half of a lane in the set of the halves that are read, if the lane has that half
abbrev pub bit_of : Params → ℕ → Half → Option ℕ
bit_of p lane Low = Some (even_bit p lane)
bit_of p lane High = odd_bit p lane

-- a half of a lane is among those that are read
abbrev pub is_read : Params → ℕ → ℕ → Half → Bool
is_read p flags lane half =
    nat_lt lane p.num_rs && option_map_or (has_flag flags) (bit_of p lane half) false

-- the register that a half carries: in the low half that of the lane's field, and in the high half
-- the odd one behind it; behind x0 there is none
abbrev pub half_register : ℕ → Half → Option ℕ
half_register field Low = Some field
half_register field High = if field == 0 then None else Some (field + 1)

-- what a half carries, by a reading of the registers; one that isn't read, and one behind x0, is 0
abbrev pub half_of : Params → (ℕ → ℕ) → ℕ → ℕ → ℕ → Half → ℕ
half_of p reading word flags lane half =
    if is_read p flags lane half
    then option_map_or reading (half_register (source_field word lane) half) 0
    else 0

-- what a lane carries to a word that reads these halves
abbrev pub lane_of : Params → (ℕ → ℕ) → ℕ → ℕ → ℕ → ℕ
lane_of p reading word flags lane =
    half_of p reading word flags lane Low + 2 ^ 32 * half_of p reading word flags lane High

-- what the three lanes carry
abbrev pub lane_values : Params → (ℕ → ℕ) → ℕ → ℕ → List ℕ
lane_values p reading word flags =
    lane_of p reading word flags 0
    ∷ lane_of p reading word flags 1
    ∷ lane_of p reading word flags 2
    ∷ []

-- the write of a result to rd, by whether rd gets its low half, and the register behind it its high
-- half
abbrev pub halves_write : Bool → Bool → ℕ → ℕ → Write
halves_write false false rd value = write.None
halves_write true false rd value = write.One rd (low_half value)
halves_write false true rd value = write.One (rd + 1) (high_half value)
halves_write true true rd value = write.Pair rd (low_half value) (high_half value)

-- the write of a result by the two flags of its writeback, one by one; nothing where rd is x0
abbrev pub unit_write : ℕ → ℕ → ℕ → Write
unit_write rd flags value =
    if rd == 0 then write.None else halves_write (has_flag flags 0) (has_flag flags 1) rd value
