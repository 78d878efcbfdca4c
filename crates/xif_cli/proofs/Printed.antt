-- Texts in a row.
use Rattle.std.proofs.Common.{◌≡◌, ◌++◌, ℕ, List, sym, ap, ◌∙◌, append_assoc}

-- it doesn't matter how they are joined
pub in_a_row : (a b c d e : List ℕ) → a ++ (b ++ (c ++ (d ++ e))) ≡ (((a ++ b) ++ c) ++ d) ++ e
in_a_row a b c d e =
    sym (append_assoc a b (c ++ (d ++ e)))
    ∙ sym (append_assoc (a ++ b) c (d ++ e))
    ∙ sym (append_assoc ((a ++ b) ++ c) d e)
