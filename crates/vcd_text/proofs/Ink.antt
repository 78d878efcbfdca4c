-- Bytes that aren't white space, in two runs.
use Rattle.std.proofs.Common.{◌≡◌, ◌+◌, ◌-◌, ◌≤◌, ℕ, suc, Bool, true, false, cond, not, nat_le, List, [], ◌∷◌, length, refl, take, drop, sym, ap, ◌∙◌, take-take, take-add, arith}
use Rattle.std.specs.Prelude.{◌&&◌}
use Rattle.std.specs.List.{list_all, slice_range, prefix_len}
use Rattle.std.proofs.lemmas.Bool.Decides.{nat_tests}
use Rattle.std.proofs.lemmas.List.{take_all}
use Rattle.std.proofs.lemmas.List.Folds.{list_all-append}
use Rattle.vcd_text.specs.Words.{is_ink}

both : (x y : Bool) → x ≡ true → y ≡ true → (x && y) ≡ true
both x y e f = ap (λ b. b && y) e ∙ f

-- the first bytes, and then the first of a range behind them
pub ink_more : (xs : List ℕ) (i n end : ℕ) → i + n ≤ end → list_all is_ink (take i xs) ≡ true → list_all is_ink (take n (slice_range xs i end)) ≡ true
    → list_all is_ink (take (i + n) xs) ≡ true
ink_more xs i n end h first more =
    let same : take n (slice_range xs i end) ≡ take n (drop i xs) = take-take n (end - i) (drop i xs) (omega arith) in
    ap (list_all is_ink) (take-add i n xs) ∙ list_all-append is_ink (take i xs) (take n (drop i xs))
    ∙ both (list_all is_ink (take i xs)) (list_all is_ink (take n (drop i xs))) first (sym (ap (λ ys. list_all is_ink ys) same) ∙ more)

-- ---- the bytes above a space

inked : (x : ℕ) → nat_le x 32 ≡ false → is_ink x ≡ true
inked x e = grind (arith, nat_tests)

high_ink_by : (x : ℕ) (xs : List ℕ) (low : Bool) → nat_le x 32 ≡ low → list_all is_ink (take (prefix_len (λ b. not (nat_le b 32)) xs) xs) ≡ true
    → list_all is_ink (take (cond (not low) (1 + prefix_len (λ b. not (nat_le b 32)) xs) 0) (x ∷ xs)) ≡ true
high_ink_by x xs true e rest = refl
high_ink_by x xs false e rest =
    let k = prefix_len (λ b. not (nat_le b 32)) xs in
    let next : 1 + k ≡ suc k = omega arith in
    ap (λ n. list_all is_ink (take n (x ∷ xs))) next ∙ both (is_ink x) (list_all is_ink (take k xs)) (inked x e) rest

high_ink : (xs : List ℕ) → list_all is_ink (take (prefix_len (λ b. not (nat_le b 32)) xs) xs) ≡ true
high_ink [] = refl
high_ink (x ∷ xs) = high_ink_by x xs (nat_le x 32) refl (high_ink xs)

-- those of the first n that come before one that is not above it
pub ink_before : (xs : List ℕ) (n k : ℕ) → length xs ≡ n → k ≡ prefix_len (λ b. not (nat_le b 32)) (take n xs) → list_all is_ink (take k xs) ≡ true
ink_before xs n k len e =
    let whole : take n xs ≡ xs = take_all n xs (omega (arith, len)) in
    ap (λ j. list_all is_ink (take j xs)) (e ∙ ap (λ ys. prefix_len (λ b. not (nat_le b 32)) ys) whole) ∙ high_ink xs
