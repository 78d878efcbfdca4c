-- Lists: what holds of each element, and of each and each later one.
use Rattle.std.proofs.Common.{◌≡◌, ◌&&◌, Bool, true, false, List, [], ◌∷◌, ◌++◌, Option, Some, None, IsSome, refl}
use Rattle.std.specs.List.{AllByRecursion}
use Rattle.ahead_spec.specs.Pairs.{Pairs}

pub all-front : {A : Type 0} (P : A → Type 0) (xs ys : List A) → AllByRecursion P (xs ++ ys) → AllByRecursion P xs
all-front P [] ys h = tt
all-front P (x ∷ xs) ys h = (h.0, all-front P xs ys h.1)

pub all-back : {A : Type 0} (P : A → Type 0) (xs ys : List A) → AllByRecursion P (xs ++ ys) → AllByRecursion P ys
all-back P [] ys h = h
all-back P (x ∷ xs) ys h = all-back P xs ys h.1

pub all-append : {A : Type 0} (P : A → Type 0) (xs ys : List A) → AllByRecursion P xs → AllByRecursion P ys → AllByRecursion P (xs ++ ys)
all-append P [] ys h k = k
all-append P (x ∷ xs) ys h k = (h.0, all-append P xs ys h.1 k)

pub all-from : {A : Type 0} (P Q : A → Type 0) (xs : List A) → ((x : A) → P x → Q x) → AllByRecursion P xs → AllByRecursion Q xs
all-from P Q [] f h = tt
all-from P Q (x ∷ xs) f h = (f x h.0, all-from P Q xs f h.1)

pub all-both : {A : Type 0} (P Q R : A → Type 0) (xs : List A) → ((x : A) → P x → Q x → R x) → AllByRecursion P xs → AllByRecursion Q xs → AllByRecursion R xs
all-both P Q R [] f h k = tt
all-both P Q R (x ∷ xs) f h k = (f x h.0 k.0, all-both P Q R xs f h.1 k.1)

pub all-every : {A : Type 0} (P : A → Type 0) (xs : List A) → ((x : A) → P x) → AllByRecursion P xs
all-every P [] f = tt
all-every P (x ∷ xs) f = (f x, all-every P xs f)

pub pairs-front : {A : Type 0} (R : A → A → Type 0) (xs ys : List A) → Pairs R (xs ++ ys) → Pairs R xs
pairs-front R [] ys h = tt
pairs-front R (x ∷ xs) ys h = (all-front (R x) xs ys h.0, pairs-front R xs ys h.1)

pub pairs-back : {A : Type 0} (R : A → A → Type 0) (xs ys : List A) → Pairs R (xs ++ ys) → Pairs R ys
pairs-back R [] ys h = h
pairs-back R (x ∷ xs) ys h = pairs-back R xs ys h.1

-- each earlier one and this one
pub pairs-older : {A : Type 0} (R : A → A → Type 0) (xs : List A) (y : A) (ys : List A) → Pairs R (xs ++ y ∷ ys) → AllByRecursion (λ x. R x y) xs
pairs-older R [] y ys h = tt
pairs-older R (x ∷ xs) y ys h = ((all-back (R x) xs (y ∷ ys) h.0).0, pairs-older R xs y ys h.1)

-- this one and each later one
pub pairs-younger : {A : Type 0} (R : A → A → Type 0) (xs : List A) (y : A) (ys : List A) → Pairs R (xs ++ y ∷ ys) → AllByRecursion (R y) ys
pairs-younger R xs y ys h = (pairs-back R xs (y ∷ ys) h).0

-- another one in its place
pub pairs-replaced : {A : Type 0} (R : A → A → Type 0) (xs : List A) (y z : A) (ys : List A) → Pairs R (xs ++ y ∷ ys) → AllByRecursion (λ x. R x z) xs → AllByRecursion (R z) ys → Pairs R (xs ++ z ∷ ys)
pairs-replaced R [] y z ys h o k = (k, h.1)
pairs-replaced R (x ∷ xs) y z ys h o k =
    (all-append (R x) xs (z ∷ ys) (all-front (R x) xs (y ∷ ys) h.0) (o.0, (all-back (R x) xs (y ∷ ys) h.0).1), pairs-replaced R xs y z ys h.1 o.1 k)

-- one more at the end
pub pairs-push : {A : Type 0} (R : A → A → Type 0) (xs : List A) (y : A) → Pairs R xs → AllByRecursion (λ x. R x y) xs → Pairs R (xs ++ y ∷ [])
pairs-push R [] y h k = (tt, tt)
pairs-push R (x ∷ xs) y h k = (all-append (R x) xs (y ∷ []) h.0 (k.0, tt), pairs-push R xs y h.1 k.1)

-- tests

pub not_both : (b : Bool) → b ≡ false → b ≡ true → ⊥
not_both b h k = cc

pub and_left : (a b : Bool) → (a && b) ≡ true → a ≡ true
and_left true b h = refl
and_left false b h = h

pub and_right : (a b : Bool) → (a && b) ≡ true → b ≡ true
and_right true b h = h
and_right false b h = cc

pub and_false : (b : Bool) → (b && false) ≡ false
and_false true = refl
and_false false = refl

pub false_or : (b : Bool) → (b ≡ true → ⊥) → b ≡ false
false_or true h = absurd (h refl)
false_or false h = refl

pub not_some : {A : Type 0} (x : A) → None ≡ Some x → ⊥
not_some x h = cc

pub none_unless : {A : Type 0} (o : Option A) → (IsSome o → ⊥) → o ≡ None
none_unless None h = refl
none_unless (Some x) h = absurd (h refl)
