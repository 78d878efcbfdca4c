-- White bytes and tokens of a text one by one, and the text in which each byte of an image has a line.
use Rattle.std.proofs.Common.{◌≡◌, ◌<◌, ◌≤◌, ◌+◌, ◌*◌, ◌/◌, ◌%◌, ◌==◌, ◌&&◌, ℕ, suc, Bool, true, false, not, List, [], ◌∷◌, ◌++◌, length, take, drop, Some, Ok, refl, ap, ◌∙◌, add-one, arith}
use Rattle.std.proofs.lemmas.List.{take_at, drop_at}
use Rattle.std.proofs.lemmas.Bool.{cond-false, lt-ltb}
use Rattle.std.proofs.lemmas.Bool.Decides.{nat_tests}
use Rattle.std.specs.Char.{is_digit, digit_value, digit_char}
use Rattle.std.specs.List.{list_all, flat_map, AllByRecursion}
use Rattle.xif_image.specs.declared.text.Item.TheVariants.{Byte}
use Rattle.xif_image.specs.Image.{IsWithin, bytes_from}
use Rattle.xif_image.specs.Grammar.{hex_line}
use Rattle.xif_image.specs.Text.{line_feed, is_white, length_before, blank_length, ends_token, token_length, Token, tokens_from, item_of, with_first, placed_by, image_or_empty, text_image}
use Rattle.xif_image.proofs.Tokens.{tokens_blank, tokens_token}
use Rattle.xif_image.proofs.Places.{placed_byte}

abbrev pub slash : ℕ
slash = 47

-- `@`
abbrev pub at_sign : ℕ
at_sign = 64

-- a byte that is neither white nor a slash
abbrev pub is_ink : ℕ → Bool
is_ink b = not (is_white b) && not (slash == b)

pub blank-white : (b : ℕ) (bs : List ℕ) → is_white b ≡ true → blank_length (b ∷ bs) ≡ 1
blank-white b bs h = grind (arith, nat_tests)

blank-ink : (b : ℕ) (bs : List ℕ) → is_ink b ≡ true → blank_length (b ∷ bs) ≡ 0
blank-ink b bs h = grind (arith, nat_tests)

ends_token-ink : (b : ℕ) (bs : List ℕ) → is_ink b ≡ true → ends_token (b ∷ bs) ≡ false
ends_token-ink b bs h = grind (arith, nat_tests)

-- A white byte is passed over.
pub tokens-white : (at b : ℕ) (bs : List ℕ) → is_white b ≡ true → tokens_from at 0 (b ∷ bs) ≡ tokens_from (at + 1) 0 bs
tokens-white at b bs h =
    let one : blank_length (b ∷ bs) ≡ 1 = blank-white b bs h in
    tokens_blank at (b ∷ bs) (omega arith) (omega (arith, one)) ∙ ap (λ n. tokens_from (at + n) 0 (drop n (b ∷ bs))) one

both : (x y : Bool) → (x && y) ≡ true → (x ≡ true) × (y ≡ true)
both true y h = (refl, h)
both false y h = (cc h, cc h)

-- bytes of a token, up to what ends it
length_before-ink : (bs rest : List ℕ) → list_all is_ink bs ≡ true → ends_token rest ≡ true → length_before ends_token (bs ++ rest) ≡ length bs
length_before-ink [] [] h e = refl
length_before-ink [] (r ∷ rs) h e = rw e refl
length_before-ink (b ∷ bs) rest h e =
    let ink = both (is_ink b) (list_all is_ink bs) h in
    cond-false (ends_token (b ∷ (bs ++ rest))) 0 (length_before ends_token (bs ++ rest) + 1) (ends_token-ink b (bs ++ rest) ink.0)
    ∙ ap (λ n. n + 1) (length_before-ink bs rest ink.1 e)
    ∙ add-one (length bs)

-- Bytes without white ones and slashes are a token, where white space or a comment stands behind them, or the text ends.
pub tokens-ink : (at b : ℕ) (bs rest : List ℕ) → list_all is_ink (b ∷ bs) ≡ true → ends_token rest ≡ true
    → tokens_from at 0 (b ∷ (bs ++ rest)) ≡ record { at = at; bytes = b ∷ bs } ∷ tokens_from (at + (length bs + 1)) 0 rest
tokens-ink at b bs rest h e =
    let ink = both (is_ink b) (list_all is_ink bs) h in
    let long : token_length (b ∷ (bs ++ rest)) ≡ suc (length bs) = ap (λ n. n + 1) (length_before-ink bs rest ink.1 e) ∙ add-one (length bs) in
    let token : List ℕ → Token = λ bytes. record { at = at; bytes = bytes } in
    let next : at + suc (length bs) ≡ at + (length bs + 1) = omega arith in
    tokens_token at (b ∷ (bs ++ rest)) (omega arith) (blank-ink b (bs ++ rest) ink.0)
    ∙ ap (λ n. token (take n (b ∷ (bs ++ rest))) ∷ tokens_from (at + n) 0 (drop n (b ∷ (bs ++ rest)))) long
    ∙ ap (λ front. token (b ∷ front) ∷ tokens_from (at + suc (length bs)) 0 (drop (length bs) (bs ++ rest))) (take_at bs rest (length bs) refl)
    ∙ ap (λ left. token (b ∷ bs) ∷ tokens_from (at + suc (length bs)) 0 left) (drop_at bs rest (length bs) refl)
    ∙ ap (λ n. token (b ∷ bs) ∷ tokens_from n 0 rest) next

digit-ink : (d : ℕ) → d < 16 → is_ink (digit_char d) ≡ true
digit-ink d h = grind (arith, nat_tests)

digit-no_at : (d : ℕ) → d < 16 → (at_sign == digit_char d) ≡ false
digit-no_at d h = grind (arith, nat_tests)

digit_value-digit_char : (d : ℕ) → d < 16 → digit_value (digit_char d) ≡ d
digit_value-digit_char d h = grind (arith, nat_tests)

digit-is_digit : (d : ℕ) → d < 16 → is_digit (digit_char d) 16 ≡ true
digit-is_digit d h = lt-ltb (digit_value (digit_char d)) 16 (rw digit_value-digit_char h)

-- two digits say a byte
item-digits : (a b : ℕ) → (at_sign == a) ≡ false → is_digit a 16 ≡ true → is_digit b 16 ≡ true → item_of (a ∷ b ∷ []) ≡ Some (Byte (digit_value a * 16 + digit_value b))
item-digits a b p q r = grind arith

item-hex : (value : ℕ) → value < 256 → item_of (digit_char (value / 16) ∷ digit_char (value % 16) ∷ []) ≡ Some (Byte value)
item-hex value h =
    let high : value / 16 < 16 = omega (arith, h) in
    let low : value % 16 < 16 = omega arith in
    let whole : digit_value (digit_char (value / 16)) * 16 + digit_value (digit_char (value % 16)) ≡ value =
    omega (arith, digit_value-digit_char (value / 16) high, digit_value-digit_char (value % 16) low) in
    item-digits (digit_char (value / 16)) (digit_char (value % 16)) (digit-no_at (value / 16) high) (digit-is_digit (value / 16) high) (digit-is_digit (value % 16) low)
    ∙ ap (λ n. Some (Byte n)) whole

-- the first of lines is a token
tokens-hex : (at value : ℕ) (rest : List ℕ) → value < 256
    → tokens_from at 0 (hex_line value ++ rest) ≡ record { at = at; bytes = digit_char (value / 16) ∷ digit_char (value % 16) ∷ [] } ∷ tokens_from (at + 2 + 1) 0 rest
tokens-hex at value rest h =
    let high : value / 16 < 16 = omega (arith, h) in
    let low : value % 16 < 16 = omega arith in
    let token : Token = record { at = at; bytes = digit_char (value / 16) ∷ digit_char (value % 16) ∷ [] } in
    let ink : list_all is_ink (digit_char (value / 16) ∷ digit_char (value % 16) ∷ []) ≡ true = rw (digit-ink (value / 16) high, digit-ink (value % 16) low) refl in
    tokens-ink at (digit_char (value / 16)) (digit_char (value % 16) ∷ []) (line_feed ∷ rest) ink refl ∙ ap (λ tokens. token ∷ tokens) (tokens-white (at + 2) line_feed rest refl)

-- the lines of bytes place them in a row
placed-hex : (base size address at : ℕ) (values : List ℕ) → AllByRecursion (λ v. v < 256) values → base ≤ address → address + length values ≤ base + size
    → placed_by base size address (tokens_from at 0 (flat_map hex_line values)) ≡ Ok (bytes_from address values)
placed-hex base size address at [] bytes low high = refl
placed-hex base size address at (v ∷ vs) bytes low high =
    let token : Token = record { at = at; bytes = digit_char (v / 16) ∷ digit_char (v % 16) ∷ [] } in
    let within : IsWithin base size address = (low, omega (arith, high)) in
    ap (placed_by base size address) (tokens-hex at v (flat_map hex_line vs) bytes.0)
    ∙ placed_byte base size address v token (tokens_from (at + 2 + 1) 0 (flat_map hex_line vs)) (item-hex v bytes.0) within
    ∙ ap (with_first (record { address = address; value = v })) (placed-hex base size (address + 1) (at + 2 + 1) vs bytes.1 (omega (arith, low)) (omega (arith, high)))

-- The text with a line for each byte is the image with the bytes in a row, from the base on.
pub text_image-hex : (base size : ℕ) (values : List ℕ) → AllByRecursion (λ v. v < 256) values → 0 < length values → length values ≤ size
    → text_image base size (flat_map hex_line values) ≡ Ok (record { base = base; size = size; bytes = bytes_from base values })
text_image-hex base size [] bytes some fits = absurd (omega (arith, some))
text_image-hex base size (v ∷ vs) bytes some fits = ap (image_or_empty base size) (placed-hex base size base 0 (v ∷ vs) bytes (omega arith) (omega (arith, fits)))
