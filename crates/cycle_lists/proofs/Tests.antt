-- Small facts of tests, numbers and options.
use Rattle.std.proofs.Common.{◌≡◌, ◌<◌, ◌≤◌, ◌&&◌, ◌||◌, not, ℕ, Bool, true, false, Option, Some, None, refl, sym, ap, ◌∙◌, subst, arith}
use Rattle.std.specs.Prelude.{nat_le, is_some, IsSome, IfSome}
use Rattle.std.proofs.lemmas.Bool.Decides.{nat_tests}

pub and-left : (a b : Bool) → (a && b) ≡ true → a ≡ true
and-left true b h = refl
and-left false b h = h

pub and-right : (a b : Bool) → (a && b) ≡ true → b ≡ true
and-right true b h = h
and-right false b h = cc

pub and-both : (a b : Bool) → a ≡ true → b ≡ true → (a && b) ≡ true
and-both true b h k = k
and-both false b h k = h

pub and-true : (b : Bool) → (b && true) ≡ b
and-true true = refl
and-true false = refl

pub and-false : (b : Bool) → (b && false) ≡ false
and-false true = refl
and-false false = refl

pub or-true : (b : Bool) → (b || true) ≡ true
or-true true = refl
or-true false = refl

pub or-false : (b : Bool) → (b || false) ≡ b
or-false true = refl
or-false false = refl

pub or-left : (a b : Bool) → a ≡ true → (a || b) ≡ true
or-left a b h = rw h refl

pub or-right : (a b : Bool) → b ≡ true → (a || b) ≡ true
or-right true b h = refl
or-right false b h = h

pub or-cases : (a b : Bool) (P : Type 0) → (a || b) ≡ true → (a ≡ true → P) → (b ≡ true → P) → P
or-cases true b P h k l = k refl
or-cases false b P h k l = l h

pub or-false_left : (a b : Bool) → (a || b) ≡ false → a ≡ false
or-false_left false b h = refl
or-false_left true b h = h

pub or-false_right : (a b : Bool) → (a || b) ≡ false → b ≡ false
or-false_right false b h = h
or-false_right true b h = cc

pub not-in : (b : Bool) → not b ≡ true → b ≡ false
not-in true h = cc
not-in false h = refl

pub not-out : (b : Bool) → b ≡ false → not b ≡ true
not-out b h = ap not h

-- a test has one answer
pub not-both : (b : Bool) → b ≡ false → b ≡ true → ⊥
not-both b h k = cc

pub false-or : (b : Bool) → (b ≡ true → ⊥) → b ≡ false
false-or true h = absurd (h refl)
false-or false h = refl

pub true-or : (b : Bool) → (b ≡ false → ⊥) → b ≡ true
true-or false h = absurd (h refl)
true-or true h = refl

-- ---- numbers

pub le-in : (a b : ℕ) → nat_le a b ≡ true → a ≤ b
le-in a b h = grind (arith, nat_tests)

pub le-out : (a b : ℕ) → a ≤ b → nat_le a b ≡ true
le-out a b h = grind (arith, nat_tests)

pub le-above : (a b : ℕ) → b < a → nat_le a b ≡ false
le-above a b h = grind (arith, nat_tests)

-- ---- options

pub some-is : {A : Type 0} (x y : A) → Some x ≡ Some y → x ≡ y
some-is x y h = cc

pub same-some : {A : Type 0} (o : Option A) (x y : A) → o ≡ Some x → o ≡ Some y → x ≡ y
same-some o x y h k = some-is x y (sym h ∙ k)

pub none-some : {A : Type 0} (o : Option A) (x : A) → o ≡ None → o ≡ Some x → ⊥
none-some o x h k = cc

pub not-some : {A : Type 0} (o : Option A) → is_some o ≡ false → IsSome o → ⊥
not-some o h k = not-both (is_some o) h k

pub no-some : {A : Type 0} (o : Option A) → (IsSome o → ⊥) → is_some o ≡ false
no-some o h = false-or (is_some o) h

pub some-from : {A : Type 0} (P Q : A → Type 0) (o : Option A) → ((x : A) → P x → Q x) → IfSome o P → IfSome o Q
some-from P Q None k h = tt
some-from P Q (Some x) k h = k x h

pub some-at : {A : Type 0} (P : A → Type 0) (o : Option A) (x : A) → o ≡ Some x → IfSome o P → P x
some-at P None x h k = cc
some-at P (Some y) x h k = let same : y ≡ x = some-is y x h in subst P same k
