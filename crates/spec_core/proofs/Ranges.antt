-- Steps of loops over numbers.
use Rattle.std.proofs.Common.{◌≡◌, ◌<◌, ◌+◌, ◌-◌, ◌||◌, ℕ, suc, Bool, true, false, ap, ◌∙◌, arith}
use Rattle.std.specs.List.{list_any, range_with_len}

next : (p : ℕ → Bool) (n m : ℕ) → n < m → list_any p (range_with_len n (m - n)) ≡ (p n || list_any p (range_with_len (n + 1) (m - (n + 1))))
next p n m l =
    let e : m - n ≡ suc (m - (n + 1)) = omega arith in
    ap (λ k. list_any p (range_with_len n k)) e

-- one number is passed, and one is found
pub any_later : (p : ℕ → Bool) (n m : ℕ) → n < m → p n ≡ false → list_any p (range_with_len n (m - n)) ≡ list_any p (range_with_len (n + 1) (m - (n + 1)))
any_later p n m l h = next p n m l ∙ ap (λ t. t || list_any p (range_with_len (n + 1) (m - (n + 1)))) h

pub any_here : (p : ℕ → Bool) (n m : ℕ) → n < m → p n ≡ true → list_any p (range_with_len n (m - n)) ≡ true
any_here p n m l h = next p n m l ∙ ap (λ t. t || list_any p (range_with_len (n + 1) (m - (n + 1)))) h
