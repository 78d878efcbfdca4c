-- Numbers in a row, one more at a time.
use Rattle.std.proofs.Common.{◌≡◌, ◌+◌, ◌++◌, ℕ, List, [], ◌∷◌, suc, zero, ap, ◌∙◌, add-one, append-nil, arith}
use Rattle.std.specs.List.{range_with_len, flat_map}
use Rattle.std.proofs.lemmas.Grind.{flat_map-append}

-- one number more
range_with_len-suc : (first n : ℕ) → range_with_len first (suc n) ≡ range_with_len first n ++ (first + n) ∷ []
range_with_len-suc first zero =
    let same : first ≡ first + 0 = omega arith in
    ap (λ k. k ∷ []) same
range_with_len-suc first (suc n) =
    let same : first + 1 + n ≡ first + suc n = omega arith in
    ap (λ xs. first ∷ xs) (range_with_len-suc (first + 1) n)
    ∙ ap (λ k. first ∷ (range_with_len (first + 1) n ++ k ∷ [])) same

-- what is made of n + 1 numbers in a row
pub flat_map-from : (f : ℕ → List ℕ) (first n : ℕ) → flat_map f (range_with_len first (n + 1)) ≡ flat_map f (range_with_len first n) ++ f (first + n)
flat_map-from f first n =
    let last : f (first + n) ++ [] ≡ f (first + n) = append-nil (f (first + n)) in
    ap (λ k. flat_map f (range_with_len first k)) (add-one n)
    ∙ ap (flat_map f) (range_with_len-suc first n)
    ∙ flat_map-append f (range_with_len first n) ((first + n) ∷ [])
    ∙ ap (λ xs. flat_map f (range_with_len first n) ++ xs) last

-- those from 0 on
pub flat_map-more : (f : ℕ → List ℕ) (n : ℕ) → flat_map f (range_with_len 0 (n + 1)) ≡ flat_map f (range_with_len 0 n) ++ f n
flat_map-more f n =
    let same : 0 + n ≡ n = omega arith in
    flat_map-from f 0 n ∙ ap (λ k. flat_map f (range_with_len 0 n) ++ f k) same
