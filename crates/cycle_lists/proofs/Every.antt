-- What holds of each element, and of each two, under the changes of a list.
use Rattle.std.proofs.Common.{◌≡◌, ◌++◌, ℕ, zero, suc, Bool, true, false, cond, List, [], ◌∷◌, map, filter, take, drop, refl, subst}
use Rattle.cycle_lists.specs.Lists.{Each, Pairs}

-- ---- each element

pub each : {A : Type 0} (P : A → Type 0) (xs : List A) → ((x : A) → P x) → Each P xs
each P [] f = tt
each P (x ∷ xs) f = (f x, each P xs f)

pub Each-from : {A : Type 0} (P Q : A → Type 0) (xs : List A) → ((x : A) → P x → Q x) → Each P xs → Each Q xs
Each-from P Q [] f h = tt
Each-from P Q (x ∷ xs) f h = (f x h.0, Each-from P Q xs f h.1)

pub Each-both : {A : Type 0} (P Q S : A → Type 0) (xs : List A) → ((x : A) → P x → Q x → S x) → Each P xs → Each Q xs → Each S xs
Each-both P Q S [] f h k = tt
Each-both P Q S (x ∷ xs) f h k = (f x h.0 k.0, Each-both P Q S xs f h.1 k.1)

pub Each-map : {A : Type 0} (P Q : A → Type 0) (f : A → A) (xs : List A) → ((x : A) → P x → Q (f x)) → Each P xs → Each Q (map f xs)
Each-map P Q f [] k h = tt
Each-map P Q f (x ∷ xs) k h = (k x h.0, Each-map P Q f xs k h.1)

-- of a mapped list, by two facts of each
pub Each-map2 : {A : Type 0} (P Q R : A → Type 0) (f : A → A) (xs : List A) → ((x : A) → P x → Q x → R (f x)) → Each P xs → Each Q xs → Each R (map f xs)
Each-map2 P Q R f [] k h i = tt
Each-map2 P Q R f (x ∷ xs) k h i = (k x h.0 i.0, Each-map2 P Q R f xs k h.1 i.1)

pub Each-front : {A : Type 0} (P : A → Type 0) (xs ys : List A) → Each P (xs ++ ys) → Each P xs
Each-front P [] ys h = tt
Each-front P (x ∷ xs) ys h = (h.0, Each-front P xs ys h.1)

pub Each-back : {A : Type 0} (P : A → Type 0) (xs ys : List A) → Each P (xs ++ ys) → Each P ys
Each-back P [] ys h = h
Each-back P (x ∷ xs) ys h = Each-back P xs ys h.1

pub Each-append : {A : Type 0} (P : A → Type 0) (xs ys : List A) → Each P xs → Each P ys → Each P (xs ++ ys)
Each-append P [] ys h k = k
Each-append P (x ∷ xs) ys h k = (h.0, Each-append P xs ys h.1 k)

pub Each-push : {A : Type 0} (P : A → Type 0) (xs : List A) (y : A) → Each P xs → P y → Each P (xs ++ y ∷ [])
Each-push P xs y h k = Each-append P xs (y ∷ []) h (k, tt)

pub Each-take : {A : Type 0} (P : A → Type 0) (n : ℕ) (xs : List A) → Each P xs → Each P (take n xs)
Each-take P zero xs h = tt
Each-take P (suc n) [] h = tt
Each-take P (suc n) (x ∷ xs) h = (h.0, Each-take P n xs h.1)

pub Each-drop : {A : Type 0} (P : A → Type 0) (n : ℕ) (xs : List A) → Each P xs → Each P (drop n xs)
Each-drop P zero xs h = h
Each-drop P (suc n) [] h = tt
Each-drop P (suc n) (x ∷ xs) h = Each-drop P n xs h.1

pub Each-filter : {A : Type 0} (P : A → Type 0) (test : A → Bool) (xs : List A) → Each P xs → Each P (filter test xs)
Each-filter P test [] h = tt
Each-filter P test (x ∷ xs) h = go (test x) (Each-filter P test xs h.1)
  where
    go : (t : Bool) → Each P (filter test xs) → Each P (cond t (x ∷ filter test xs) (filter test xs))
    go true r = (h.0, r)
    go false r = r

-- those that are left by a filter pass its test
pub Each-passed : {A : Type 0} (test : A → Bool) (xs : List A) → Each (λ x. test x ≡ true) (filter test xs)
Each-passed test [] = tt
Each-passed test (x ∷ xs) = go (test x) refl (Each-passed test xs)
  where
    go : (t : Bool) → test x ≡ t → Each (λ y. test y ≡ true) (filter test xs) → Each (λ y. test y ≡ true) (cond t (x ∷ filter test xs) (filter test xs))
    go true e r = (e, r)
    go false e r = r

-- what holds of those that are left holds of each that passes
pub Each-unfilter : {A : Type 0} (P : A → Type 0) (test : A → Bool) (xs : List A) → Each P (filter test xs) → Each (λ x. test x ≡ true → P x) xs
Each-unfilter P test [] h = tt
Each-unfilter P test (x ∷ xs) h = go (test x) refl h (λ r. Each-unfilter P test xs r)
  where
    go : (t : Bool) → test x ≡ t → Each P (cond t (x ∷ filter test xs) (filter test xs)) → (Each P (filter test xs) → Each (λ y. test y ≡ true → P y) xs) → Each (λ y. test y ≡ true → P y) (x ∷ xs)
    go true e r k = (λ q. r.0, k r.1)
    go false e r k = (λ q. absurd (bad q), k r)
      where
        bad : test x ≡ true → ⊥
        bad q = cc

-- of an element at its place
pub Each-here : {A : Type 0} (P : A → Type 0) (xs : List A) (x : A) (ys : List A) → Each P (xs ++ x ∷ ys) → P x
Each-here P xs x ys h = (Each-back P xs (x ∷ ys) h).0

pub Each-at : {A : Type 0} (P : A → Type 0) (zs xs : List A) (x : A) (ys : List A) → zs ≡ xs ++ x ∷ ys → Each P zs → P x
Each-at P zs xs x ys e h = Each-here P xs x ys (subst (Each P) e h)

-- another one in its place
pub Each-replaced : {A : Type 0} (P : A → Type 0) (xs : List A) (y z : A) (ys : List A) → Each P (xs ++ y ∷ ys) → P z → Each P (xs ++ z ∷ ys)
Each-replaced P [] y z ys h k = (k, h.1)
Each-replaced P (x ∷ xs) y z ys h k = (h.0, Each-replaced P xs y z ys h.1 k)

-- ---- each two elements

pub Pairs-map : {A : Type 0} (R : A → A → Type 0) (f : A → A) (xs : List A) → ((x y : A) → R x y → R (f x) (f y)) → Pairs R xs → Pairs R (map f xs)
Pairs-map R f [] k h = tt
Pairs-map R f (x ∷ xs) k h = (Each-map (R x) (R (f x)) f xs (k x) h.0, Pairs-map R f xs k h.1)

-- of a mapped list, by facts of each and of each two
pub Pairs-map1 : {A : Type 0} (R S : A → A → Type 0) (P : A → Type 0) (f : A → A) (xs : List A) → ((x y : A) → P x → P y → R x y → S (f x) (f y)) → Each P xs → Pairs R xs → Pairs S (map f xs)
Pairs-map1 R S P f [] k h r = tt
Pairs-map1 R S P f (x ∷ xs) k h r = (Each-map2 P (R x) (S (f x)) f xs (λ y p q. k x y h.0 p q) h.1 r.0, Pairs-map1 R S P f xs k h.1 r.1)

pub Pairs-both : {A : Type 0} (R S T : A → A → Type 0) (xs : List A) → ((x y : A) → R x y → S x y → T x y) → Pairs R xs → Pairs S xs → Pairs T xs
Pairs-both R S T [] k h i = tt
Pairs-both R S T (x ∷ xs) k h i = (Each-both (R x) (S x) (T x) xs (k x) h.0 i.0, Pairs-both R S T xs k h.1 i.1)

pub Pairs-take : {A : Type 0} (R : A → A → Type 0) (n : ℕ) (xs : List A) → Pairs R xs → Pairs R (take n xs)
Pairs-take R zero xs h = tt
Pairs-take R (suc n) [] h = tt
Pairs-take R (suc n) (x ∷ xs) h = (Each-take (R x) n xs h.0, Pairs-take R n xs h.1)

pub Pairs-drop : {A : Type 0} (R : A → A → Type 0) (n : ℕ) (xs : List A) → Pairs R xs → Pairs R (drop n xs)
Pairs-drop R zero xs h = h
Pairs-drop R (suc n) [] h = tt
Pairs-drop R (suc n) (x ∷ xs) h = Pairs-drop R n xs h.1

pub Pairs-push : {A : Type 0} (R : A → A → Type 0) (xs : List A) (y : A) → Pairs R xs → Each (λ x. R x y) xs → Pairs R (xs ++ y ∷ [])
Pairs-push R [] y h k = (tt, tt)
Pairs-push R (x ∷ xs) y h k = (Each-push (R x) xs y h.0 k.0, Pairs-push R xs y h.1 k.1)

pub Pairs-filter : {A : Type 0} (R : A → A → Type 0) (test : A → Bool) (xs : List A) → Pairs R xs → Pairs R (filter test xs)
Pairs-filter R test [] h = tt
Pairs-filter R test (x ∷ xs) h = go (test x) (Each-filter (R x) test xs h.0) (Pairs-filter R test xs h.1)
  where
    go : (t : Bool) → Each (R x) (filter test xs) → Pairs R (filter test xs) → Pairs R (cond t (x ∷ filter test xs) (filter test xs))
    go true e r = (e, r)
    go false e r = r

pub Pairs-front : {A : Type 0} (R : A → A → Type 0) (xs ys : List A) → Pairs R (xs ++ ys) → Pairs R xs
Pairs-front R [] ys h = tt
Pairs-front R (x ∷ xs) ys h = (Each-front (R x) xs ys h.0, Pairs-front R xs ys h.1)

pub Pairs-back : {A : Type 0} (R : A → A → Type 0) (xs ys : List A) → Pairs R (xs ++ ys) → Pairs R ys
Pairs-back R [] ys h = h
Pairs-back R (x ∷ xs) ys h = Pairs-back R xs ys h.1

-- of those before an element, and of those behind it
pub Pairs-older : {A : Type 0} (R : A → A → Type 0) (xs : List A) (y : A) (ys : List A) → Pairs R (xs ++ y ∷ ys) → Each (λ x. R x y) xs
Pairs-older R [] y ys h = tt
Pairs-older R (x ∷ xs) y ys h = (Each-here (R x) xs y ys h.0, Pairs-older R xs y ys h.1)

pub Pairs-younger : {A : Type 0} (R : A → A → Type 0) (xs : List A) (y : A) (ys : List A) → Pairs R (xs ++ y ∷ ys) → Each (R y) ys
Pairs-younger R xs y ys h = (Pairs-back R xs (y ∷ ys) h).0

-- another one in its place
pub Pairs-replaced : {A : Type 0} (R : A → A → Type 0) (xs : List A) (y z : A) (ys : List A) → Pairs R (xs ++ y ∷ ys) → Each (λ x. R x z) xs → Each (R z) ys → Pairs R (xs ++ z ∷ ys)
Pairs-replaced R [] y z ys h o k = (k, h.1)
Pairs-replaced R (x ∷ xs) y z ys h o k =
    (Each-append (R x) xs (z ∷ ys) (Each-front (R x) xs (y ∷ ys) h.0) (o.0, (Each-back (R x) xs (y ∷ ys) h.0).1), Pairs-replaced R xs y z ys h.1 o.1 k)
