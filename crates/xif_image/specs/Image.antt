-- Images: bytes with their addresses, and what placing them in a memory makes of it.
use Rattle.std.specs.Prelude.{suc, ◌≤◌, ◌<◌, ◌+◌, ◌-◌, ◌&&◌, ℕ, Bool, List, [], ◌∷◌, Option, Some, None, Result, Ok, Err, nat_le, nat_lt, slice_set, if◌then◌else◌}
use Rattle.std.specs.Option.{option_map}
use Rattle.xif_image.specs.declared.image.ByteAt.{ByteAt}
use Rattle.xif_image.specs.declared.image.ImageFault.{ImageFault}
use Rattle.xif_image.specs.declared.image.ImageFault.TheVariants.{Outside}
use Rattle.xif_image.specs.Region.{Region}

-- an image: bytes with their addresses, in the order in which they are placed, for a memory of this
-- base and size
pub record Placement : Type 0 where
  pub base : ℕ
  pub size : ℕ
  pub bytes : List ByteAt

-- bytes in a row, the first at this address
abbrev pub bytes_from : ℕ → List ℕ → List ByteAt
bytes_from address [] = []
bytes_from address (value ∷ values) =
    record { address = address; value = value } ∷ bytes_from (address + 1) values

-- the address is one of the memory's
abbrev pub IsWithin : ℕ → ℕ → ℕ → Type 0
IsWithin base size address = (base ≤ address) × (address < base + size)

-- the same as a test
abbrev pub is_within : ℕ → ℕ → ℕ → Bool
is_within base size address = nat_le base address && nat_lt address (base + size)

-- of so many bytes in a row, the first whose address isn't one of the memory's
pub record IsFirstOutside (base size load count at : ℕ) : Type 0 where
  pub there : at < count
  pub outside : ¬ IsWithin base size (load + at)
  pub before : (i : ℕ) → i < at → IsWithin base size (load + i)

-- the index of the first of these bytes whose address isn't one of the memory's
abbrev pub first_outside : ℕ → ℕ → List ByteAt → Option ℕ
first_outside base size [] = None
first_outside base size (b ∷ bs) =
    if is_within base size b.address then option_map suc (first_outside base size bs) else Some 0

-- an image, unless a byte of it is outside
abbrev pub unless_outside : Placement → Option ℕ → Result Placement ImageFault
unless_outside image None = Ok image
unless_outside image (Some at) = Err (Outside at)

-- The image that the bytes of a file are as they are, the first at an address, for a memory of this
-- base and size; or the first byte whose address isn't one of the memory's.
abbrev pub raw_image : (load base size : ℕ) → List ℕ → Result Placement ImageFault
raw_image load base size bytes =
    unless_outside (record { base = base; size = size; bytes = bytes_from load bytes })
    (first_outside base size (bytes_from load bytes))

-- bytes of a memory, after each byte of an image was put at its address, a later one in place of an
-- earlier
abbrev pub bytes_after : ℕ → List ℕ → List ByteAt → List ℕ
bytes_after base bytes [] = bytes
bytes_after base bytes (b ∷ bs) = bytes_after base (slice_set bytes (b.address - base) b.value) bs

-- a memory with an image placed in it
abbrev pub placed : Region → Placement → Region
placed m image = record { base = m.base; bytes = bytes_after m.base m.bytes image.bytes }
