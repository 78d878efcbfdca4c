-- The bytes of an image are bytes, and so is each of a memory in which it is placed.
use Rattle.std.proofs.Common.{◌≡◌, ◌<◌, ◌+◌, ◌-◌, ◌^◌, ◌==◌, ◌&&◌, ℕ, zero, suc, Bool, true, false, if◌then◌else◌, List, [], ◌∷◌, length, replicate, Option, Some, None, Result, Ok, Err, refl, sym, subst, arith}
use Rattle.std.specs.Prelude.{⊤, slice_set, drop}
use Rattle.std.specs.List.{list_all}
use Rattle.std.specs.Char.{is_digit}
use Rattle.std.specs.Str.Parse.{digits_value, AllDigits}
use Rattle.std.proofs.lemmas.Bool.{ltb-true, eqb-true}
use Rattle.std.proofs.lemmas.Int.Digits.{digits_value-lt}
use Rattle.xif_image.specs.declared.image.ByteAt.{ByteAt}
use Rattle.xif_image.specs.declared.image.ImageFault.{ImageFault}
use Rattle.xif_image.specs.declared.image.ImageFault.TheVariants.{BadToken, Outside}
use Rattle.xif_image.specs.Image.{Placement, bytes_from, unless_outside, first_outside, raw_image, is_within, bytes_after}
use Rattle.xif_image.specs.Text.{Token, begins, are_digits, address_in, byte_in, item_of, with_first, placed_with, placed_by, image_or_empty, tokens_of, text_image}
use Rattle.cycle_lists.specs.Lists.{Each}
use Rattle.cycle_lists.proofs.Tests.{and-left, and-right, some-is}
use Rattle.width_laws.proofs.Memories.{IsByte}
use Rattle.width_laws.proofs.Table.{Each-written}
use lib.Chars.{codes}

abbrev pub HasByte : ByteAt → Type 0
HasByte b = b.value < 256

-- what holds of each byte of what is read
abbrev pub GivesBytes : Result Placement ImageFault → Type 0
GivesBytes (Ok image) = Each HasByte image.bytes
GivesBytes (Err fault) = ⊤

-- ---- plain bytes

from-bytes : (address : ℕ) (bytes : List ℕ) → Each IsByte bytes → Each HasByte (bytes_from address bytes)
from-bytes address [] h = tt
from-bytes address (b ∷ bs) h = (h.0, from-bytes (address + 1) bs h.1)

pub raw-bytes : (load base size : ℕ) (bytes : List ℕ) → Each IsByte bytes → GivesBytes (raw_image load base size bytes)
raw-bytes load base size bytes h = go (first_outside base size (bytes_from load bytes))
  where
    go : (o : Option ℕ) → GivesBytes (unless_outside (record { base = base; size = size; bytes = bytes_from load bytes }) o)
    go None = from-bytes load bytes h
    go (Some at) = tt

-- ---- text

digits-in : (cs : List ℕ) → list_all (λ b. is_digit b 16) cs ≡ true → AllDigits 16 cs
digits-in [] h = tt
digits-in (c ∷ cs) h = (ltb-true _ 16 (and-left (is_digit c 16) (list_all (λ b. is_digit b 16) cs) h), digits-in cs (and-right (is_digit c 16) (list_all (λ b. is_digit b 16) cs) h))

two-digits : (digits : List ℕ) → ((length digits == 2) && are_digits digits) ≡ true → digits_value 16 digits < 256
two-digits digits h =
    let two : length digits ≡ 2 = eqb-true (length digits) 2 (and-left (length digits == 2) (are_digits digits) h) in
    subst (λ n. digits_value 16 digits < 16 ^ n) two (digits_value-lt 16 digits (digits-in digits (and-right (length digits == 2) (are_digits digits) h)))

abbrev GivesEach : Result (List ByteAt) ImageFault → Type 0
GivesEach (Ok bytes) = Each HasByte bytes
GivesEach (Err fault) = ⊤

with-first : (byte : ByteAt) (rest : Result (List ByteAt) ImageFault) → HasByte byte → GivesEach rest → GivesEach (with_first byte rest)
with-first byte (Ok bytes) h k = (h, k)
with-first byte (Err fault) h k = tt

byte-below : (digits : List ℕ) (value : ℕ) → byte_in digits ≡ Some value → value < 256
byte-below digits value h = go ((length digits == 2) && are_digits digits) refl h
  where
    go : (t : Bool) → ((length digits == 2) && are_digits digits) ≡ t → (if t then Some (digits_value 16 digits) else None) ≡ Some value → value < 256
    go true e k = subst (λ n. n < 256) (some-is (digits_value 16 digits) value k) (two-digits digits e)
    go false e k = cc

-- what a token places
with-token : (base size address at : ℕ) (token : List ℕ) (after : ℕ → Result (List ByteAt) ImageFault) → ((next : ℕ) → GivesEach (after next)) → GivesEach (placed_with base size address at (item_of token) after)
with-token base size address at token after k = by (begins (codes "@") token) refl
  where
    inside : (t : Bool) (value : ℕ) → value < 256 → GivesEach (if t then with_first (record { address = address; value = value }) (after (address + 1)) else Err (Outside at))
    inside true value h = with-first (record { address = address; value = value }) (after (address + 1)) h (k (address + 1))
    inside false value h = tt

    to-address : (o : Option ℕ) → begins (codes "@") token ≡ true → address_in (drop 1 token) ≡ o → GivesEach (placed_with base size address at (item_of token) after)
    to-address None e f = subst GivesEach (sym is) tt
      where
        is : placed_with base size address at (item_of token) after ≡ Err (BadToken at)
        is = rw (e, f) refl
    to-address (Some next) e f = subst GivesEach (sym is) (k next)
      where
        is : placed_with base size address at (item_of token) after ≡ after next
        is = rw (e, f) refl

    to-byte : (o : Option ℕ) → begins (codes "@") token ≡ false → byte_in token ≡ o → GivesEach (placed_with base size address at (item_of token) after)
    to-byte None e f = subst GivesEach (sym is) tt
      where
        is : placed_with base size address at (item_of token) after ≡ Err (BadToken at)
        is = rw (e, f) refl
    to-byte (Some value) e f = subst GivesEach (sym is) (inside (is_within base size address) value (byte-below token value f))
      where
        is : placed_with base size address at (item_of token) after ≡ (if is_within base size address then with_first (record { address = address; value = value }) (after (address + 1)) else Err (Outside at))
        is = rw (e, f) refl

    by : (t : Bool) → begins (codes "@") token ≡ t → GivesEach (placed_with base size address at (item_of token) after)
    by true e = to-address (address_in (drop 1 token)) e refl
    by false e = to-byte (byte_in token) e refl

by-tokens : (base size address : ℕ) (tokens : List Token) → GivesEach (placed_by base size address tokens)
by-tokens base size address [] = tt
by-tokens base size address (token ∷ tokens) =
    with-token base size address token.at token.bytes (λ next. placed_by base size next tokens) (λ next. by-tokens base size next tokens)

not-empty : (base size : ℕ) (r : Result (List ByteAt) ImageFault) → GivesEach r → GivesBytes (image_or_empty base size r)
not-empty base size (Ok []) h = tt
not-empty base size (Ok (byte ∷ bytes)) h = h
not-empty base size (Err fault) h = tt

pub text-bytes : (base size : ℕ) (text : List ℕ) → GivesBytes (text_image base size text)
text-bytes base size text = not-empty base size (placed_by base size base (tokens_of text)) (by-tokens base size base (tokens_of text))

-- ---- a memory

pub placed-bytes : (base : ℕ) (bytes : List ℕ) (image : List ByteAt) → Each IsByte bytes → Each HasByte image → Each IsByte (bytes_after base bytes image)
placed-bytes base bytes [] h k = h
placed-bytes base bytes (b ∷ bs) h k = placed-bytes base (slice_set bytes (b.address - base) b.value) bs (Each-written IsByte bytes (b.address - base) b.value h k.0) k.1

pub zero-bytes : (n : ℕ) → Each IsByte (replicate n 0)
zero-bytes zero = tt
zero-bytes (suc n) = (omega arith, zero-bytes n)
