-- What is loaded after a store.
use Rattle.std.proofs.Common.{◌≡◌, ◌≤◌, ◌+◌, ◌-◌, ◌%◌, ◌^◌, ◌==◌, ◌&&◌, ◌⊎◌, ◌++◌, ℕ, List, length, take, drop, Option, None, Some, Ok, nat_le, if◌then◌else◌, inl, inr, refl, ap, sym, subst, ◌∙◌, arith, append_assoc, length-append, length-drop}
use Rattle.std.proofs.lemmas.Bool.Decides.{nat_tests}
use Rattle.std.proofs.lemmas.List.{drop_at, take_at, drop-take, take-take, take-append-le, length-take-le}
use Rattle.std.proofs.lemmas.Slice.{drop-append-drop}
use Rattle.std.specs.Int.{w32, from_le_bytes, to_le_bytes}
use Rattle.xif_image.specs.declared.memory.MemFault.{MemFault}
use Rattle.xif_image.specs.declared.memory.MemFault.TheVariants.{Outside}
use Rattle.xif_image.specs.Region.{Region, IsWidth, fault_of, unless, bytes_at, loaded, overwritten, stored}

-- bytes with others put over some of them are as many as before
pub length-overwritten : (bytes : List ℕ) (at : ℕ) (others : List ℕ) → at + length others ≤ length bytes → length (overwritten bytes at others) ≡ length bytes
length-overwritten bytes at others h =
    let front : length (take at bytes) ≡ at = length-take-le at bytes (omega (arith, h)) in
    length-append (take at bytes ++ others) (drop (at + length others) bytes)
    ∙ omega (arith, front, h, length-append (take at bytes) others, length-drop (at + length others) bytes)

-- the others stand where they were put
overwritten-there : (bytes : List ℕ) (at : ℕ) (others : List ℕ) → at + length others ≤ length bytes → take (length others) (drop at (overwritten bytes at others)) ≡ others
overwritten-there bytes at others h =
    let front : length (take at bytes) ≡ at = length-take-le at bytes (omega (arith, h)) in
    ap (λ l. take (length others) (drop at l)) (append_assoc (take at bytes) others (drop (at + length others) bytes))
    ∙ ap (take (length others)) (drop_at (take at bytes) (others ++ drop (at + length others) bytes) at front)
    ∙ take_at others (drop (at + length others) bytes) (length others) refl

-- a load or a store that isn't refused lies inside
inside : (m : Region) (address width : ℕ) → fault_of m address width ≡ None → (m.base ≤ address) × (address + width ≤ m.base + length m.bytes)
inside m address width h = grind (arith, nat_tests)

-- a width is at most 4
small : (width : ℕ) → IsWidth width → width ≤ 4
small width (inl e) = omega (arith, e)
small width (inr (inl e)) = omega (arith, e)
small width (inr (inr e)) = omega (arith, e)

-- as many bytes are stored as the width says
length-cut : (width value : ℕ) → IsWidth width → length (take width (to_le_bytes w32 value)) ≡ width
length-cut width value h = length-take-le width (to_le_bytes w32 value) (small width h)

-- a store leaves as many bytes
pub length-stored : (m : Region) (address width value : ℕ) → IsWidth width → fault_of m address width ≡ None → length (stored m address width value).bytes ≡ length m.bytes
length-stored m address width value w h =
    let lies = inside m address width h in
    let cut : length (take width (to_le_bytes w32 value)) ≡ width = length-cut width value w in
    length-overwritten m.bytes (address - m.base) (take width (to_le_bytes w32 value)) (omega (arith, cut, lies.0, lies.1))

-- the lowest bytes of a number are its remainder
number_cut : (width value : ℕ) → IsWidth width → from_le_bytes w32 (take width (to_le_bytes w32 value)) ≡ value % 256 ^ width
number_cut width value (inl e) =
    let Cut : ℕ → Type 0 = λ w. from_le_bytes w32 (take w (to_le_bytes w32 value)) ≡ value % 256 ^ w in
    let one : Cut 1 = omega arith in
    subst Cut (sym e) one
number_cut width value (inr (inl e)) =
    let Cut : ℕ → Type 0 = λ w. from_le_bytes w32 (take w (to_le_bytes w32 value)) ≡ value % 256 ^ w in
    let two : Cut 2 = omega arith in
    subst Cut (sym e) two
number_cut width value (inr (inr e)) =
    let Cut : ℕ → Type 0 = λ w. from_le_bytes w32 (take w (to_le_bytes w32 value)) ≡ value % 256 ^ w in
    let four : Cut 4 = omega arith in
    subst Cut (sym e) four

-- what can be loaded stays the same
fault_of-stored : (m : Region) (address width value other count : ℕ) → IsWidth width → fault_of m address width ≡ None → fault_of (stored m address width value) other count ≡ fault_of m other count
fault_of-stored m address width value other count w h =
    ap (λ n. if nat_le m.base other && nat_le (other + count) (m.base + n) then None else Some Outside)
    (length-stored m address width value w h)

-- What was stored is loaded again, cut to the width.
pub loaded-stored : (m : Region) (address width value : ℕ) → IsWidth width → fault_of m address width ≡ None → loaded (stored m address width value) address width ≡ Ok (value % 256 ^ width)
loaded-stored m address width value w h =
    let lies = inside m address width h in
    let cut : length (take width (to_le_bytes w32 value)) ≡ width = length-cut width value w in
    let same : fault_of (stored m address width value) address width ≡ None =
    ap (λ n. if nat_le m.base address && nat_le (address + width) (m.base + n) then None else Some Outside)
    (length-stored m address width value w h) ∙ h in
    let there : bytes_at (stored m address width value) address width ≡ take width (to_le_bytes w32 value) =
    ap (λ n. take n (drop (address - m.base) (stored m address width value).bytes)) (sym cut)
    ∙ overwritten-there m.bytes (address - m.base) (take width (to_le_bytes w32 value)) (omega (arith, cut, lies.0, lies.1)) in
    ap (λ fault. unless fault (from_le_bytes w32 (bytes_at (stored m address width value) address width))) same
    ∙ ap (λ bytes. Ok (from_le_bytes w32 bytes)) there
    ∙ ap Ok (number_cut width value w)

-- bytes before those that others are put over
overwritten-below : (bytes : List ℕ) (at : ℕ) (others : List ℕ) (i n : ℕ) → at + length others ≤ length bytes → i + n ≤ at → take n (drop i (overwritten bytes at others)) ≡ take n (drop i bytes)
overwritten-below bytes at others i n h below =
    let front : length (take at bytes) ≡ at = length-take-le at bytes (omega (arith, h)) in
    let more : length (take at bytes ++ others) ≡ at + length others = length-append (take at bytes) others ∙ ap (λ k. k + length others) front in
    sym (drop-take i n (overwritten bytes at others))
    ∙ ap (drop i) (take-append-le (i + n) (take at bytes ++ others) (drop (at + length others) bytes) (omega (arith, more, below)))
    ∙ ap (drop i) (take-append-le (i + n) (take at bytes) others (omega (arith, front, below)))
    ∙ ap (drop i) (take-take (i + n) at bytes below)
    ∙ drop-take i n bytes

-- bytes behind those that others are put over
overwritten-above : (bytes : List ℕ) (at : ℕ) (others : List ℕ) (i : ℕ) → at + length others ≤ length bytes → at + length others ≤ i → drop i (overwritten bytes at others) ≡ drop i bytes
overwritten-above bytes at others i h above =
    let front : length (take at bytes) ≡ at = length-take-le at bytes (omega (arith, h)) in
    let more : length (take at bytes ++ others) ≡ at + length others = length-append (take at bytes) others ∙ ap (λ k. k + length others) front in
    drop-append-drop (at + length others) bytes (take at bytes ++ others) i above more

-- bytes that aren't among those that were stored
apart : (m : Region) (address width value other count : ℕ) → IsWidth width → fault_of m address width ≡ None → ((other + count ≤ address) ⊎ (address + width ≤ other)) → fault_of m other count ≡ None → bytes_at (stored m address width value) other count ≡ bytes_at m other count
apart m address width value other count w h (inl below) there =
    let lies = inside m address width h in
    let cut : length (take width (to_le_bytes w32 value)) ≡ width = length-cut width value w in
    let first = inside m other count there in
    overwritten-below m.bytes (address - m.base) (take width (to_le_bytes w32 value)) (other - m.base) count (omega (arith, cut, lies.0, lies.1)) (omega (arith, below, lies.0, first.0))
apart m address width value other count w h (inr above) there =
    let lies = inside m address width h in
    let cut : length (take width (to_le_bytes w32 value)) ≡ width = length-cut width value w in
    ap (take count) (overwritten-above m.bytes (address - m.base) (take width (to_le_bytes w32 value)) (other - m.base) (omega (arith, cut, lies.0, lies.1)) (omega (arith, cut, above, lies.0)))

-- values that agree where there is no fault
unless-same : (fault : Option MemFault) (x y : ℕ) → (fault ≡ None → x ≡ y) → unless fault x ≡ unless fault y
unless-same None x y same = ap Ok (same refl)
unless-same (Some fault) x y same = refl

-- A store leaves what a load of other bytes gives.
pub loaded-apart : (m : Region) (address width value other count : ℕ) → IsWidth width → fault_of m address width ≡ None → ((other + count ≤ address) ⊎ (address + width ≤ other)) → loaded (stored m address width value) other count ≡ loaded m other count
loaded-apart m address width value other count w h off =
    ap (λ fault. unless fault (from_le_bytes w32 (bytes_at (stored m address width value) other count))) (fault_of-stored m address width value other count w h)
    ∙ unless-same (fault_of m other count) (from_le_bytes w32 (bytes_at (stored m address width value) other count)) (from_le_bytes w32 (bytes_at m other count))
    (λ there. ap (from_le_bytes w32) (apart m address width value other count w h off there))
