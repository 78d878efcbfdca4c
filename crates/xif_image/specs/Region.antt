-- Memory as the instructions see it: bytes at addresses, the lowest byte of a number first.
use Rattle.std.specs.Prelude.{◌≡◌, ◌+◌, ◌-◌, ◌%◌, ◌==◌, ◌&&◌, ◌⊎◌, ◌++◌, ℕ, List, length, take, drop, Bool, Option, Some, None, Result, Ok, Err, nat_le, if◌then◌else◌}
use Rattle.std.specs.Int.{w32, from_le_bytes, to_le_bytes}
use Rattle.xif_image.specs.declared.memory.MemFault.{MemFault}
use Rattle.xif_image.specs.declared.memory.MemFault.TheVariants.{Outside}

-- the bytes from a base address on
pub record Region : Type 0 where
  pub base : ℕ
  pub bytes : List ℕ

-- how many bytes a load or a store moves
abbrev pub IsWidth : ℕ → Type 0
IsWidth width = (width ≡ 1) ⊎ ((width ≡ 2) ⊎ (width ≡ 4))

-- so many bytes from an address on lie in the region
abbrev pub is_inside : Region → ℕ → ℕ → Bool
is_inside m address count =
    nat_le m.base address && nat_le (address + count) (m.base + length m.bytes)

-- why so many bytes from an address on can't be moved: one of them lies outside. The address need
-- not be a multiple of their number.
abbrev pub fault_of : Region → ℕ → ℕ → Option MemFault
fault_of m address width = if is_inside m address width then None else Some Outside

-- a value, if there is no fault
abbrev pub unless : {A E : Type 0} → Option E → A → Result A E
unless None value = Ok value
unless (Some fault) value = Err fault

-- the bytes from an address on
abbrev pub bytes_at : Region → ℕ → ℕ → List ℕ
bytes_at m address count = take count (drop (address - m.base) m.bytes)

-- what a load returns: the number whose lowest bytes are those at the address, its others being 0
abbrev pub loaded : Region → ℕ → ℕ → Result ℕ MemFault
loaded m address width =
    unless (fault_of m address width) (from_le_bytes w32 (bytes_at m address width))

-- The word at an address, which a fetch reads. There is none where the address is no multiple of 4,
-- or where one of the four bytes lies outside.
abbrev pub word_at : Region → ℕ → Option ℕ
word_at m address =
    if (address % 4 == 0) && is_inside m address 4
    then Some (from_le_bytes w32 (bytes_at m address 4))
    else None

-- bytes, after others were put over them from an index on
abbrev pub overwritten : List ℕ → ℕ → List ℕ → List ℕ
overwritten bytes at others = take at bytes ++ others ++ drop (at + length others) bytes

-- the region after a store, which puts the lowest bytes of a value at the address
abbrev pub stored : Region → ℕ → ℕ → ℕ → Region
stored m address width value =
    record {
      base = m.base;
      bytes = overwritten m.bytes (address - m.base) (take width (to_le_bytes w32 value));
    }
