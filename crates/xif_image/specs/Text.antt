-- The text of an image, after `$readmemh` of IEEE 1364-2005 (17.2.9), of bytes alone: its tokens,
-- what a token says, and what the tokens place one after another. Its grammar is in Grammar.antt:
-- by the laws of the crate the tokens are the words of that grammar, so that how they are cut from
-- the text here need not be believed.
use Rattle.std.specs.Prelude.{zero, suc, ◌+◌, ◌-◌, ◌==◌, ◌&&◌, ◌||◌, ℕ, List, [], ◌∷◌, length, take, drop, codes, nat_eq, nat_lt, nat_le, Bool, true, position, unwrap_or, Option, Some, None, Result, Ok, Err, if◌then◌else◌}
use Rattle.std.specs.Char.{is_digit}
use Rattle.std.specs.Option.{option_map}
use Rattle.std.specs.List.{starts_with, list_all}
use Rattle.std.specs.Str.Parse.{digits_value}
use Rattle.xif_image.specs.declared.image.ByteAt.{ByteAt}
use Rattle.xif_image.specs.declared.image.ImageFault.{ImageFault}
use Rattle.xif_image.specs.declared.image.ImageFault.TheVariants.{BadToken, Outside, Empty}
use Rattle.xif_image.specs.declared.text.Item.{Item}
use Rattle.xif_image.specs.declared.text.Item.TheVariants.{Address, Byte}
use Rattle.xif_image.specs.Image.{Placement, is_within}

abbrev pub tab : ℕ
tab = 9

abbrev pub line_feed : ℕ
line_feed = 10

abbrev pub carriage_return : ℕ
carriage_return = 13

abbrev pub space : ℕ
space = 32

-- tab, line feed, vertical tab, form feed, carriage return and space
abbrev pub is_white : ℕ → Bool
is_white b = (nat_le tab b && nat_le b carriage_return) || (b == space)

-- bytes begin with others
abbrev pub begins : List ℕ → List ℕ → Bool
begins others bytes = starts_with nat_eq bytes others

-- how many bytes come before the first place where those that are left pass a test: all, where they
-- pass nowhere
abbrev pub length_before : (List ℕ → Bool) → List ℕ → ℕ
length_before test [] = 0
length_before test (b ∷ bs) = if test (b ∷ bs) then 0 else length_before test bs + 1

-- how many bytes a comment has, from its `/*` through the first `*/` behind it: 0 where it is open
abbrev pub comment_length : List ℕ → ℕ
comment_length bytes =
    let inner = length_before (begins (codes "*/")) (drop 2 bytes) in
    if nat_lt inner (length (drop 2 bytes)) then inner + 4 else 0

-- How many bytes a white byte or a comment at the front has: 0 where a token begins. A comment from
-- `//` ends before the line feed. One from `/*` that is open is none, so it begins a token.
abbrev pub blank_length : List ℕ → ℕ
blank_length [] = 0
blank_length (b ∷ bs) =
    if begins (codes "//") (b ∷ bs)
    then unwrap_or (position (λ b. b == line_feed) (b ∷ bs)) (length (b ∷ bs))
    else if begins (codes "/*") (b ∷ bs) then comment_length (b ∷ bs)
    else if is_white b then 1
    else 0

-- a token ends: white space or a comment begins
abbrev pub ends_token : List ℕ → Bool
ends_token [] = true
ends_token (b ∷ bs) = is_white b || (begins (codes "//") (b ∷ bs) || begins (codes "/*") (b ∷ bs))

-- how many bytes the token at the front has: one, and those up to white space or a comment
abbrev pub token_length : List ℕ → ℕ
token_length bytes = length_before ends_token (drop 1 bytes) + 1

-- a token and its offset
pub record Token : Type 0 where
  pub at : ℕ
  pub bytes : List ℕ

-- The tokens of bytes, the first of which is at an offset. Each byte is white, or begins a comment
-- or a token, or belongs to what began before it, as so many bytes at the front do.
abbrev pub tokens_from : ℕ → ℕ → List ℕ → List Token
tokens_from at begun [] = []
tokens_from at (suc begun) (b ∷ bs) = tokens_from (at + 1) begun bs
tokens_from at zero (b ∷ bs) =
    let blank = blank_length (b ∷ bs) in
    let long = token_length (b ∷ bs) in
    if nat_lt 0 blank then tokens_from (at + 1) (blank - 1) bs
    else record { at = at; bytes = take long (b ∷ bs) } ∷ tokens_from (at + 1) (long - 1) bs

-- the tokens of a text
abbrev pub tokens_of : List ℕ → List Token
tokens_of text = tokens_from 0 0 text

-- hex digits, in upper or lower case
abbrev pub are_digits : List ℕ → Bool
are_digits bytes = list_all (λ b. is_digit b 16) bytes

-- the address that one to eight hex digits spell
abbrev pub address_in : List ℕ → Option ℕ
address_in digits =
    if (nat_lt 0 (length digits) && nat_le (length digits) 8) && are_digits digits
    then Some (digits_value 16 digits)
    else None

-- the byte that two hex digits spell
abbrev pub byte_in : List ℕ → Option ℕ
byte_in digits =
    if (length digits == 2) && are_digits digits then Some (digits_value 16 digits) else None

-- what a token says: an address behind `@`, or a byte; nothing else is said
abbrev pub item_of : List ℕ → Option Item
item_of token =
    if begins (codes "@") token
    then option_map Address (address_in (drop 1 token))
    else option_map Byte (byte_in token)

-- bytes with one before them, if there is no fault
abbrev pub with_first : ByteAt → Result (List ByteAt) ImageFault → Result (List ByteAt) ImageFault
with_first byte (Ok bytes) = Ok (byte ∷ bytes)
with_first byte (Err fault) = Err fault

-- What the token at an offset places, where the next byte has an address: nothing at a new address,
-- or one byte, and then what the tokens after it place from the next address on. A token that says
-- nothing is a fault, and so is a byte outside the memory.
abbrev pub placed_with : ℕ → ℕ → ℕ → ℕ → Option Item → (ℕ → Result (List ByteAt) ImageFault)
    → Result (List ByteAt) ImageFault
placed_with base size address at None after = Err (BadToken at)
placed_with base size address at (Some (Address next)) after = after next
placed_with base size address at (Some (Byte value)) after =
    if is_within base size address
    then with_first (record { address = address; value = value }) (after (address + 1))
    else Err (Outside at)

-- what tokens place in a memory of this base and size, the first byte at an address; or the first
-- fault
abbrev pub placed_by : ℕ → ℕ → ℕ → List Token → Result (List ByteAt) ImageFault
placed_by base size address [] = Ok []
placed_by base size address (token ∷ tokens) =
    placed_with base size address token.at (item_of token.bytes)
    (λ next. placed_by base size next tokens)

-- an image of bytes, of which there is at least one
abbrev pub image_or_empty : ℕ → ℕ → Result (List ByteAt) ImageFault → Result Placement ImageFault
image_or_empty base size (Ok []) = Err Empty
image_or_empty base size (Ok (byte ∷ bytes)) =
    Ok (record { base = base; size = size; bytes = byte ∷ bytes })
image_or_empty base size (Err fault) = Err fault

-- the image that a text is for a memory of this base and size; or the first fault
abbrev pub text_image : ℕ → ℕ → List ℕ → Result Placement ImageFault
text_image base size text = image_or_empty base size (placed_by base size base (tokens_of text))
