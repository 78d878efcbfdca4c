-- What a token says, digit by digit.
use Rattle.std.proofs.Common.{◌≡◌, ◌<◌, ◌≤◌, ◌+◌, ◌*◌, ◌^◌, ℕ, false, List, [], ◌∷◌, get_or, take, length, Option, Some, None, Result, Ok, Err, is_ok, refl, ◌∙◌, arith, lit<, if◌then◌else◌}
use native.Mathlib.Nat.{pow-le-pow_right}
use Rattle.std.proofs.lemmas.Bool.Decides.{nat_tests}
use Rattle.std.specs.Char.{digit_value, is_digit}
use Rattle.std.specs.Option.{option_map}
use Rattle.std.specs.Prelude.{MatchResult, nat_eq, codes}
use Rattle.std.specs.Cmp.Lexicographic.{pointwise}
use Rattle.hex.specs.declared.error.FromHexError.{FromHexError}
use Rattle.hex.specs.Hex.{hex_digit_value, digit_or_error, decode_pairs, decode_sized, ◌>>=◌}
use Rattle.hex.proofs.HexLemmas.{decode_sized-ok}
use Rattle.xif_image.specs.declared.text.Item.TheVariants.{Byte}
use Rattle.xif_image.specs.Text.{byte_in, item_of}

-- seven hex digits or fewer leave room for one more
pub hex_room : (n i : ℕ) → n < 16 ^ i → i < 8 → n < 268435456
hex_room n i h room =
    let few : i ≤ 7 = omega (arith, room) in
    let most : 16 ^ i ≤ 16 ^ 7 = pow-le-pow_right (lit< tt) few in
    omega (arith, h, most)

-- the value of a hex digit
digit_in : ℕ → Option ℕ
digit_in c = if is_digit c 16 then Some (digit_value c) else None

-- the crate hex has the same digits
digit_in_hex : (c : ℕ) → hex_digit_value c ≡ digit_in c
unfolding digit_in
digit_in_hex c = grind (arith, nat_tests)

-- two digits
two_digits : (a b : ℕ) (x y : Option ℕ) → x ≡ digit_in a → y ≡ digit_in b
    → MatchResult (digit_or_error a 0 x >>= λ high. digit_or_error b 1 y >>= λ low. Ok (high * 16 + low))
    (λ byte. byte_in (a ∷ b ∷ []) ≡ Some byte) (λ _. byte_in (a ∷ b ∷ []) ≡ None)
unfolding digit_in
two_digits a b (Some h) (Some l) p q = grind arith
two_digits a b (Some h) None p q = grind arith
two_digits a b None y p q = grind arith

-- one byte as a list
as_list : (r : Result ℕ FromHexError) (o : Option ℕ) → MatchResult r (λ byte. o ≡ Some byte) (λ _. o ≡ None)
    → MatchResult (r >>= λ byte. Ok (byte ∷ [])) (λ bytes. o ≡ Some (get_or bytes 0 0)) (λ _. o ≡ None)
as_list (Ok byte) o h = h
as_list (Err e) o h = h

-- a token of another length
no_byte : (token : List ℕ) (r : Result (List ℕ) FromHexError) → decode_sized token 1 ≡ r → (length token ≡ 2 → ⊥) → byte_in token ≡ None
    → MatchResult r (λ bytes. byte_in token ≡ Some (get_or bytes 0 0)) (λ _. byte_in token ≡ None)
no_byte token (Ok bytes) e other none = absurd (other (decode_sized-ok token 1 bytes e))
no_byte token (Err e') e other none = none

-- what the crate hex makes of a token
byte_decoded : (token : List ℕ) → MatchResult (decode_sized token 1) (λ bytes. byte_in token ≡ Some (get_or bytes 0 0)) (λ _. byte_in token ≡ None)
unfolding decode_pairs
byte_decoded [] = refl
byte_decoded (a ∷ []) = refl
byte_decoded (a ∷ b ∷ []) =
    as_list (digit_or_error a 0 (hex_digit_value a) >>= λ high. digit_or_error b 1 (hex_digit_value b) >>= λ low. Ok (high * 16 + low)) (byte_in (a ∷ b ∷ []))
    (two_digits a b (hex_digit_value a) (hex_digit_value b) (digit_in_hex a) (digit_in_hex b))
byte_decoded (a ∷ b ∷ c ∷ rest) = no_byte (a ∷ b ∷ c ∷ rest) _ refl (λ e. omega (arith, e)) (grind (arith, nat_tests))

byte_joined : (d : Result (List ℕ) FromHexError) (r : Result Unit FromHexError) (out : List ℕ) (o : Option ℕ)
    → MatchResult d (λ bytes. o ≡ Some (get_or bytes 0 0)) (λ _. o ≡ None)
    → MatchResult d (λ bytes. (r ≡ Ok tt) × (out ≡ bytes)) (λ e. r ≡ Err e)
    → o ≡ (if is_ok r then Some (get_or out 0 0) else None)
byte_joined (Ok bytes) r out o h k = h ∙ cc
byte_joined (Err e) r out o h k = h ∙ rw k refl

-- the byte that the crate hex reads is the token's
pub byte_read : (token : List ℕ) (r : Result Unit FromHexError) (out : List ℕ)
    → MatchResult (decode_sized token 1) (λ bytes. (r ≡ Ok tt) × (out ≡ bytes)) (λ e. r ≡ Err e)
    → byte_in token ≡ (if is_ok r then Some (get_or out 0 0) else None)
byte_read token r out k = byte_joined (decode_sized token 1) r out (byte_in token) (byte_decoded token) k

-- a token without `@` says a byte, if anything
pub item_of_byte : (token : List ℕ) → pointwise nat_eq (take 1 token) (codes "@") ≡ false → item_of token ≡ option_map Byte (byte_in token)
item_of_byte [] h = refl
item_of_byte (b ∷ bs) h = grind (arith, nat_tests)
