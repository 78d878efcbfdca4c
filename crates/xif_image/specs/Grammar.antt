-- The grammar of the text of an image, after `$readmemh` of IEEE 1364-2005 (17.2.9), of bytes
-- alone. A text is a list of parts: white bytes, comments, and words, which are addresses, bytes,
-- or neither. Comments count for as little as white bytes do.
use Rattle.std.specs.Prelude.{◌≡◌, ◌==◌, ◌&&◌, ◌++◌, ◌+◌, ◌/◌, ◌%◌, ◌⊎◌, ℕ, Bool, true, not, List, [], ◌∷◌, length, drop, codes, Result}
use Rattle.std.specs.Char.{digit_char}
use Rattle.std.specs.List.{flat_map, list_all}
use Rattle.xif_image.specs.declared.image.ImageFault.{ImageFault}
use Rattle.xif_image.specs.Image.{Placement}
use Rattle.xif_image.specs.Text.{line_feed, is_white, begins, ends_token, Token, placed_by, image_or_empty}

-- a part of a text
pub data Part : Type 0 where
  -- a white byte
  White : ℕ → Part
  -- a comment from `//` up to the end of the line, by what it holds
  LineComment : List ℕ → Part
  -- a comment from `/*` through `*/`, by what it holds
  BlockComment : List ℕ → Part
  -- a word, by its first byte and its others
  Word : ℕ → List ℕ → Part

-- its bytes
abbrev pub part_bytes : Part → List ℕ
part_bytes (White b) = b ∷ []
part_bytes (LineComment inner) = codes "//" ++ inner
part_bytes (BlockComment inner) = codes "/*" ++ (inner ++ codes "*/")
part_bytes (Word first others) = first ∷ others

-- the bytes of parts
abbrev pub spelled : List Part → List ℕ
spelled parts = flat_map part_bytes parts

-- there is no `*/` among bytes
abbrev pub is_open : List ℕ → Bool
is_open [] = true
is_open (b ∷ bs) = not (begins (codes "*/") (b ∷ bs)) && is_open bs

-- neither white space nor a comment begins here; a comment from `/*` is one only if it is closed
abbrev pub begins_word : List ℕ → Bool
begins_word [] = true
begins_word (b ∷ bs) =
    not (is_white b)
    && (not (begins (codes "//") (b ∷ bs))
    && not (begins (codes "/*") (b ∷ bs) && not (is_open (drop 1 bs))))

-- neither white space nor a comment begins within bytes that a rest follows
abbrev pub runs_on : List ℕ → List ℕ → Bool
runs_on [] rest = true
runs_on (b ∷ bs) rest = not (ends_token (b ∷ (bs ++ rest))) && runs_on bs rest

-- bytes end, or a line does
abbrev pub EndsLine : List ℕ → Type 0
EndsLine rest = (rest ≡ []) ⊎ (begins (line_feed ∷ []) rest ≡ true)

-- A word goes up to where white space or a comment begins, or the text ends.
pub record IsWord (first : ℕ) (others rest : List ℕ) : Type 0 where
  pub begun : begins_word (first ∷ (others ++ rest)) ≡ true
  pub whole : runs_on others rest ≡ true
  pub ended : ends_token rest ≡ true

-- a part may be followed by the rest of a text
abbrev pub IsPart : Part → List ℕ → Type 0
IsPart (White b) rest = is_white b ≡ true
IsPart (LineComment inner) rest =
    (list_all (λ b. not (b == line_feed)) inner ≡ true) × EndsLine rest
IsPart (BlockComment inner) rest = is_open inner ≡ true
IsPart (Word first others) rest = IsWord first others rest

-- parts are those of the text that their bytes are
abbrev pub AreParts : List Part → Type 0
AreParts [] = Unit
AreParts (part ∷ parts) = IsPart part (spelled parts) × AreParts parts

-- The words among parts that begin at an offset. White bytes and comments are passed over.
abbrev pub words_from : ℕ → List Part → List Token
words_from at [] = []
words_from at (Word first others ∷ parts) =
    record { at = at; bytes = first ∷ others } ∷ words_from (at + length (first ∷ others)) parts
words_from at (part ∷ parts) = words_from (at + length (part_bytes part)) parts

-- the image that the words of parts place one after another, for a memory of this base and size; or
-- the first fault
abbrev pub parts_image : ℕ → ℕ → List Part → Result Placement ImageFault
parts_image base size parts =
    image_or_empty base size (placed_by base size base (words_from 0 parts))

-- a byte as two hex digits and a line feed
abbrev pub hex_line : ℕ → List ℕ
hex_line value = digit_char (value / 16) ∷ digit_char (value % 16) ∷ line_feed ∷ []
