-- What tokens place, one by one.
use Rattle.std.proofs.Common.{◌≡◌, ◌+◌, ℕ, true, List, [], ◌∷◌, ◌++◌, Some, Result, Ok, Err, refl, ap, append_assoc, sym, ◌∙◌, arith}
use Rattle.std.proofs.lemmas.Bool.{cond-true}
use Rattle.std.proofs.lemmas.Bool.Decides.{nat_tests}
use Rattle.xif_image.specs.declared.image.ByteAt.{ByteAt}
use Rattle.xif_image.specs.declared.image.ImageFault.{ImageFault}
use Rattle.xif_image.specs.declared.text.Item.TheVariants.{Byte}
use Rattle.xif_image.specs.Image.{IsWithin, is_within}
use Rattle.xif_image.specs.Text.{Token, item_of, with_first, placed_with, placed_by}

-- bytes with others before them, if there is no fault
abbrev pub with_front : List ByteAt → Result (List ByteAt) ImageFault → Result (List ByteAt) ImageFault
with_front front (Ok bytes) = Ok (front ++ bytes)
with_front front (Err fault) = Err fault

-- one of the bytes behind goes to those before
pub with_front_more : (front : List ByteAt) (byte : ByteAt) (read : Result (List ByteAt) ImageFault) → with_front front (with_first byte read) ≡ with_front (front ++ byte ∷ []) read
with_front_more front byte (Ok bytes) = ap (λ bs. Ok bs) (sym (append_assoc front (byte ∷ []) bytes))
with_front_more front byte (Err fault) = refl

-- a token is a byte of the memory
pub placed_byte : (base size address value : ℕ) (token : Token) (tokens : List Token) → item_of token.bytes ≡ Some (Byte value) → IsWithin base size address
    → placed_by base size address (token ∷ tokens) ≡ with_first (record { address = address; value = value }) (placed_by base size (address + 1) tokens)
placed_byte base size address value token tokens says within =
    let inside : is_within base size address ≡ true = grind (arith, nat_tests, within.0, within.1) in
    ap (λ item. placed_with base size address token.at item (λ next. placed_by base size next tokens)) says
    ∙ cond-true (is_within base size address) _ _ inside

-- the reader places a byte
pub byte_step : (base size load count value : ℕ) (token : Token) (tokens : List Token) (front : List ByteAt) (whole : Result (List ByteAt) ImageFault)
    → item_of token.bytes ≡ Some (Byte value) → IsWithin base size (load + count)
    → with_front front (placed_by base size (load + count) (token ∷ tokens)) ≡ whole
    → with_front (front ++ record { address = load + count; value = value } ∷ []) (placed_by base size (load + (count + 1)) tokens) ≡ whole
byte_step base size load count value token tokens front whole says within so_far =
    let byte : ByteAt = record { address = load + count; value = value } in
    let next : load + (count + 1) ≡ load + count + 1 = omega arith in
    ap (λ n. with_front (front ++ byte ∷ []) (placed_by base size n tokens)) next
    ∙ sym (with_front_more front byte (placed_by base size (load + count + 1) tokens))
    ∙ ap (with_front front) (sym (placed_byte base size (load + count) value token tokens says within))
    ∙ so_far
