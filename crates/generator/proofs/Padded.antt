-- The bytes of the memory.
use Rattle.std.proofs.Common.{◌≡◌, ◌≤◌, ◌++◌, ◌-◌, ℕ, List, length, take, replicate, ap, ◌∙◌, arith}
use Rattle.std.proofs.lemmas.List.{take_all}
use Rattle.xif_image.specs.Region.{Region}
use Rattle.generator.specs.Generated.{program_bytes, memory_of}

short : (seed count : ℕ) → length (program_bytes seed count) ≤ 4096
short seed count = omega arith

-- the program, filled up with zeros
pub padded-is : (seed count : ℕ) (bytes : List ℕ) (len : ℕ) → len ≡ length bytes → bytes ≡ program_bytes seed count → take 4096 bytes ++ replicate (4096 - len) 0 ≡ (memory_of seed count).bytes
padded-is seed count bytes len same e =
    ap (λ n. take 4096 bytes ++ replicate (4096 - n) 0) same
    ∙ ap (λ xs. take 4096 xs ++ replicate (4096 - length xs) 0) e
    ∙ ap (λ xs. xs ++ replicate (4096 - length (program_bytes seed count)) 0) (take_all 4096 (program_bytes seed count) (short seed count))

abbrev region : List ℕ → Region
region bytes = record { base = 0; bytes = bytes }

pub region-is : (seed count : ℕ) (bytes : List ℕ) → bytes ≡ (memory_of seed count).bytes → region bytes ≡ memory_of seed count
region-is seed count bytes e = ap region e
