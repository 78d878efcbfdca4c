-- Bytes in a row, one by one.
use Rattle.std.proofs.Common.{◌≡◌, ◌<◌, ◌+◌, ◌-◌, ◌++◌, ℕ, List, [], ◌∷◌, length, get_or, set, drop, refl, ap, sym, ◌∙◌, add-one, add_assoc, append_assoc, arith, length-append}
use Rattle.std.proofs.Math.Seq.{drop-cons}
use Rattle.std.proofs.lemmas.List.{set_at}
use Rattle.xif_image.specs.declared.image.ByteAt.{ByteAt}
use Rattle.xif_image.specs.Image.{bytes_from, bytes_after}

-- the first of the bytes that are left, and those after it
pub bytes_from-drop : (load : ℕ) (bytes : List ℕ) (i : ℕ) → i < length bytes → bytes_from (load + i) (drop i bytes) ≡ record { address = load + i; value = get_or bytes i 0 } ∷ bytes_from (load + (i + 1)) (drop (i + 1) bytes)
bytes_from-drop load bytes i h =
    let first : drop i bytes ≡ get_or bytes i 0 ∷ drop (i + 1) bytes = rw (add-one, drop-cons bytes i 0) in
    ap (bytes_from (load + i)) first
    ∙ ap (λ n. record { address = load + i; value = get_or bytes i 0 } ∷ bytes_from n (drop (i + 1) bytes)) (add_assoc load i 1)

-- one more of them is placed
pub bytes_from-more : (load : ℕ) (bytes : List ℕ) (i : ℕ) (items whole : List ByteAt) → i < length bytes → items ++ bytes_from (load + i) (drop i bytes) ≡ whole → (items ++ record { address = load + i; value = get_or bytes i 0 } ∷ []) ++ bytes_from (load + (i + 1)) (drop (i + 1) bytes) ≡ whole
bytes_from-more load bytes i items whole h e = rw append_assoc (sym (ap (λ bs. items ++ bs) (bytes_from-drop load bytes i h)) ∙ e)

-- bytes in a row that begin behind a front of a memory, and are as many as the memory has there
after_front : (base : ℕ) (front back bytes : List ℕ) → length back ≡ length bytes → bytes_after base (front ++ back) (bytes_from (base + length front) bytes) ≡ front ++ bytes
after_front base front [] [] e = refl
after_front base front (w ∷ ws) [] e = absurd (omega (arith, e))
after_front base front [] (v ∷ vs) e = absurd (omega (arith, e))
after_front base front (w ∷ ws) (v ∷ vs) e =
    let written : set (front ++ w ∷ ws) (base + length front - base) v ≡ (front ++ v ∷ []) ++ ws =
    set_at front w ws v (base + length front - base) (omega arith) ∙ sym (append_assoc front (v ∷ []) ws) in
    let next : base + length front + 1 ≡ base + length (front ++ v ∷ []) = omega (arith, length-append front (v ∷ [])) in
    ap (λ bs. bytes_after base bs (bytes_from (base + length front + 1) vs)) written
    ∙ ap (λ n. bytes_after base ((front ++ v ∷ []) ++ ws) (bytes_from n vs)) next
    ∙ after_front base (front ++ v ∷ []) ws vs (omega (arith, e))
    ∙ append_assoc front (v ∷ []) vs

-- bytes in a row from the base on, as many as the memory has, are all that it has afterwards
pub whole : (base : ℕ) (old bytes : List ℕ) → length bytes ≡ length old → bytes_after base old (bytes_from base bytes) ≡ bytes
whole base old bytes e =
    let start : base ≡ base + 0 = omega arith in
    ap (λ n. bytes_after base old (bytes_from n bytes)) start ∙ after_front base [] old bytes (sym e)
