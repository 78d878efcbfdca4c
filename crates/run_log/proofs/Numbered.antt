-- Lists that are put together from parts are taken apart where a rank of their elements grows.
use Rattle.std.proofs.Common.{◌≡◌, ◌<◌, ◌≤◌, ◌++◌, ℕ, List, [], ◌∷◌, refl, ap, arith}

-- the rank of each element is at most k, or above it
abbrev pub AreUpTo : {A : Type 0} → (A → ℕ) → ℕ → List A → Type 0
AreUpTo rank k [] = Unit {0}
AreUpTo rank k (x ∷ xs) = (rank x ≤ k) × AreUpTo rank k xs

abbrev pub AreAbove : {A : Type 0} → (A → ℕ) → ℕ → List A → Type 0
AreAbove rank k [] = Unit {0}
AreAbove rank k (x ∷ xs) = (k < rank x) × AreAbove rank k xs

pub up_to-append : {A : Type 0} (rank : A → ℕ) (k : ℕ) (xs ys : List A) → AreUpTo rank k xs → AreUpTo rank k ys → AreUpTo rank k (xs ++ ys)
up_to-append rank k [] ys i j = j
up_to-append rank k (x ∷ xs) ys i j = (i.0, up_to-append rank k xs ys i.1 j)

pub above-append : {A : Type 0} (rank : A → ℕ) (k : ℕ) (xs ys : List A) → AreAbove rank k xs → AreAbove rank k ys → AreAbove rank k (xs ++ ys)
above-append rank k [] ys i j = j
above-append rank k (x ∷ xs) ys i j = (i.0, above-append rank k xs ys i.1 j)

heads : {A : Type 0} (x y : A) (s t : List A) → x ∷ s ≡ y ∷ t → x ≡ y
heads x y s t e = cc

tails : {A : Type 0} (x y : A) (s t : List A) → x ∷ s ≡ y ∷ t → s ≡ t
tails x y s t e = cc

conses : {A : Type 0} (x y : A) (s t : List A) → x ≡ y → s ≡ t → x ∷ s ≡ y ∷ t
conses x y s t e f = cc

no_head : {A : Type 0} (x : A) (s : List A) → [] ≡ x ∷ s → ⊥
no_head x s e = cc

no_cons : {A : Type 0} (x : A) (s : List A) → x ∷ s ≡ [] → ⊥
no_cons x s e = cc

-- the first part ends where the rank rises above k
pub parts_apart : {A : Type 0} (rank : A → ℕ) (k : ℕ) (xs ys r q : List A) → AreUpTo rank k xs → AreUpTo rank k ys → AreAbove rank k r → AreAbove rank k q
    → xs ++ r ≡ ys ++ q → (xs ≡ ys) × (r ≡ q)
parts_apart rank k [] [] r q i j l m e = (refl, e)
parts_apart rank k [] (y ∷ ys) [] q i j l m e = absurd (no_head y (ys ++ q) e)
parts_apart rank k [] (y ∷ ys) (x ∷ r) q i j l m e =
    let same : rank x ≡ rank y = ap rank (heads x y r (ys ++ q) e) in
    absurd (omega (arith, same, l.0, j.0))
parts_apart rank k (x ∷ xs) [] r [] i j l m e = absurd (no_cons x (xs ++ r) e)
parts_apart rank k (x ∷ xs) [] r (y ∷ q) i j l m e =
    let same : rank x ≡ rank y = ap rank (heads x y (xs ++ r) q e) in
    absurd (omega (arith, same, m.0, i.0))
parts_apart rank k (x ∷ xs) (y ∷ ys) r q i j l m e =
    let rest = parts_apart rank k xs ys r q i.1 j.1 l m (tails x y (xs ++ r) (ys ++ q) e) in
    (conses x y xs ys (heads x y (xs ++ r) (ys ++ q) e) rest.0, rest.1)
