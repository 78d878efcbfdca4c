-- A memory of bytes stays one, and what is read from it are words.
use Rattle.std.proofs.Common.{◌<◌, ◌+◌, ◌-◌, ◌%◌, ◌^◌, ◌==◌, ◌&&◌, ◌++◌, ℕ, zero, suc, Bool, true, false, if◌then◌else◌, List, [], ◌∷◌, length, take, drop, Option, Some, None, IfSome, arith}
use Rattle.std.specs.Prelude.{slice_index, slice_index_or}
use Rattle.std.specs.Int.{w32, from_le_bytes, to_le_bytes, byte_at, bytes_low_first}
use Rattle.std.proofs.Math.Nat.{mod-lt}
use Rattle.xif_image.specs.Region.{Region, is_inside, bytes_at, word_at}
use Rattle.inorder_machine.specs.declared.line.Store.{Store}
use Rattle.inorder_machine.specs.Machine.{memory_after}
use Rattle.cycle_lists.specs.Lists.{Each}
use Rattle.cycle_lists.proofs.Every.{Each-take, Each-drop, Each-append}

abbrev pub IsByte : ℕ → Type 0
IsByte n = n < 256

-- an element of a list, or what stands for it past the end
pub Each-or : {A : Type 0} (P : A → Type 0) (xs : List A) (i : ℕ) (d : A) → Each P xs → P d → P (slice_index_or xs i d)
Each-or P [] i d h k = k
Each-or P (x ∷ xs) zero d h k = h.0
Each-or P (x ∷ xs) (suc i) d h k = Each-or P xs i d h.1 k

byte-in : (xs : List ℕ) (i : ℕ) → Each IsByte xs → slice_index xs i < 256
byte-in xs i h = Each-or IsByte xs i 0 h (omega arith)

-- ---- what is read

pub number-word : (xs : List ℕ) → Each IsByte xs → from_le_bytes w32 xs < 2 ^ 32
number-word xs h = omega (arith, byte-in xs 0 h, byte-in xs 1 h, byte-in xs 2 h, byte-in xs 3 h)

first-byte : (xs : List ℕ) → Each IsByte xs → from_le_bytes w32 (take 1 xs) < 2 ^ 8
first-byte [] h = omega arith
first-byte (x ∷ xs) h = let k : x < 256 = h.0 in omega (arith, k)

first-pair : (xs : List ℕ) → Each IsByte xs → from_le_bytes w32 (take 2 xs) < 2 ^ 16
first-pair [] h = omega arith
first-pair (x ∷ []) h = let k : x < 256 = h.0 in omega (arith, k)
first-pair (x ∷ y ∷ ys) h = let k : x < 256 = h.0 in let l : y < 256 = h.1.0 in omega (arith, k, l)

pub bytes-at : (m : Region) (address count : ℕ) → Each IsByte m.bytes → Each IsByte (bytes_at m address count)
bytes-at m address count h = Each-take IsByte count _ (Each-drop IsByte (address - m.base) m.bytes h)

pub number-byte : (m : Region) (address : ℕ) → Each IsByte m.bytes → from_le_bytes w32 (bytes_at m address 1) < 2 ^ 8
number-byte m address h = first-byte _ (Each-drop IsByte (address - m.base) m.bytes h)

pub number-pair : (m : Region) (address : ℕ) → Each IsByte m.bytes → from_le_bytes w32 (bytes_at m address 2) < 2 ^ 16
number-pair m address h = first-pair _ (Each-drop IsByte (address - m.base) m.bytes h)

pub word-in : (m : Region) (address : ℕ) → Each IsByte m.bytes → IfSome (word_at m address) (λ word. word < 2 ^ 32)
word-in m address h = go ((address % 4 == 0) && is_inside m address 4)
  where
    go : (t : Bool) → IfSome (if t then Some (from_le_bytes w32 (bytes_at m address 4)) else None) (λ word. word < 2 ^ 32)
    go true = number-word (bytes_at m address 4) (bytes-at m address 4 h)
    go false = tt

-- ---- what is stored

byte-of : (i n : ℕ) → byte_at i n < 256
byte-of zero n = mod-lt n (omega arith)
byte-of (suc i) n = mod-lt _ (omega arith)

bytes-of : (i k n : ℕ) → Each IsByte (bytes_low_first i k n)
bytes-of i zero n = tt
bytes-of i (suc k) n = (byte-of i n, bytes-of (suc i) k n)

pub memory-bytes : (m : Region) (store : Option Store) → Each IsByte m.bytes → Each IsByte (memory_after m store).bytes
memory-bytes m None h = h
memory-bytes m (Some store) h =
    let others = take store.width (to_le_bytes w32 store.value) in
    let at = store.addr - m.base in
    Each-append IsByte (take at m.bytes ++ others) (drop (at + length others) m.bytes)
    (Each-append IsByte (take at m.bytes) others (Each-take IsByte at m.bytes h) (Each-take IsByte store.width _ (bytes-of 0 4 store.value)))
    (Each-drop IsByte (at + length others) m.bytes h)
