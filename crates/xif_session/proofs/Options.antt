-- Small facts of tests, options and keys.
use Rattle.std.proofs.Common.{◌≡◌, ◌<◌, ◌≤◌, ◌==◌, ◌&&◌, not, ℕ, Bool, true, false, if◌then◌else◌, Option, Some, None, refl, sym, ap, ◌∙◌, arith}
use Rattle.std.specs.Prelude.{nat_lt, nat_le, is_none, is_some, IsSomeAnd, IfSome}
use Rattle.std.specs.Option.{option_map}
use Rattle.std.proofs.lemmas.Bool.{eqb-true, eq-eqb}
use Rattle.std.proofs.lemmas.Bool.Decides.{nat_tests}
use Rattle.xif_base.specs.declared.params.Key.{Key}
use Rattle.xif_signals.specs.Known.{when}
use Rattle.xif_session.specs.declared.fact.Fact.{Fact}
use Rattle.xif_session.specs.Facts.{same_key}
use Rattle.xif_session.specs.Tests.{same_bit, if_use, is_use}

-- what a mapped option was
pub record Was {A : Type 0} (g : A → A) (o : Option A) (y : A) : Type 0 where
  pub was : A
  pub there : o ≡ Some was
  pub becomes : g was ≡ y

some_is : {A : Type 0} (x y : A) → Some x ≡ Some y → x ≡ y
some_is x y h = cc

pub same_some : {A : Type 0} (o : Option A) (x y : A) → o ≡ Some x → o ≡ Some y → x ≡ y
same_some o x y h k = some_is x y (sym h ∙ k)

pub was_of : {A : Type 0} (g : A → A) (o : Option A) (y : A) → option_map g o ≡ Some y → Was g o y
was_of g None y h = cc
was_of g (Some x) y h = record { was = x; there = refl; becomes = some_is (g x) y h }

-- ---- tests

pub both-true : (a b : Bool) → (a && b) ≡ true → (a ≡ true) × (b ≡ true)
both-true true true h = (refl, refl)
both-true true false h = cc
both-true false b h = cc

pub and-true : (a b : Bool) → a ≡ true → b ≡ true → (a && b) ≡ true
and-true true true h k = refl
and-true true false h k = cc
and-true false b h k = cc

pub no_true : {A : Type 0} (b : Bool) → b ≡ true → b ≡ false → A
no_true b h k = absurd (bad (sym h ∙ k))
  where
    bad : true ≡ false → ⊥
    bad e = cc

pub when_in : (t u : Bool) → when t u ≡ true → t ≡ true → u ≡ true
when_in true u h k = h
when_in false u h k = cc

pub when_out : (t u : Bool) → (t ≡ true → u ≡ true) → when t u ≡ true
when_out true u k = k refl
when_out false u k = refl

pub not_in : (b : Bool) → not b ≡ true → b ≡ false
not_in true h = cc
not_in false h = refl

pub not_out : (b : Bool) → b ≡ false → not b ≡ true
not_out b h = rw h refl

pub bit_in : (a b : Bool) → same_bit a b ≡ true → a ≡ b
bit_in true b h = sym h
bit_in false b h = sym (not_in b h)

pub bit_out : (a b : Bool) → a ≡ b → same_bit a b ≡ true
bit_out a b q = ap (λ x. same_bit x b) q ∙ go b
  where
    go : (b : Bool) → same_bit b b ≡ true
    go true = refl
    go false = refl

pub lt_in : (a b : ℕ) → nat_lt a b ≡ true → a < b
lt_in a b h = grind (arith, nat_tests)

pub lt_out : (a b : ℕ) → a < b → nat_lt a b ≡ true
lt_out a b h = grind (arith, nat_tests)

pub le_in : (a b : ℕ) → nat_le a b ≡ true → a ≤ b
le_in a b h = grind (arith, nat_tests)

pub le_out : (a b : ℕ) → a ≤ b → nat_le a b ≡ true
le_out a b h = grind (arith, nat_tests)

-- ---- a use, if there is one

pub if_in : (test : Fact → Bool) (P : Fact → Type 0) (o : Option Fact) → ((f : Fact) → test f ≡ true → P f) → if_use test o ≡ true → IfSome o P
if_in test P None g h = tt
if_in test P (Some f) g h = g f h

pub if_out : (test : Fact → Bool) (P : Fact → Type 0) (o : Option Fact) → ((f : Fact) → P f → test f ≡ true) → IfSome o P → if_use test o ≡ true
if_out test P None g h = refl
if_out test P (Some f) g h = g f h

pub is_in : (test : Fact → Bool) (P : Fact → Type 0) (o : Option Fact) → ((f : Fact) → test f ≡ true → P f) → is_use test o ≡ true → IsSomeAnd o P
is_in test P None g h = cc
is_in test P (Some f) g h = g f h

pub is_out : (test : Fact → Bool) (P : Fact → Type 0) (o : Option Fact) → ((f : Fact) → P f → test f ≡ true) → IsSomeAnd o P → is_use test o ≡ true
is_out test P None g h = absurd h
is_out test P (Some f) g h = g f h

pub none_in : {A : Type 0} (o : Option A) → is_none o ≡ true → o ≡ None
none_in None h = refl
none_in (Some x) h = cc

pub none_out : {A : Type 0} (o : Option A) → o ≡ None → is_none o ≡ true
none_out o q = ap is_none q

-- ---- keys

pub key_is : (a b : Key) → same_key a b ≡ true → a ≡ b
key_is a b k =
    let both = both-true (a.hart == b.hart) (a.id == b.id) k in
    let hart : a.hart ≡ b.hart = eqb-true a.hart b.hart both.0 in
    let id : a.id ≡ b.id = eqb-true a.id b.id both.1 in
    λ i. record { hart = hart i; id = id i }

pub key_same : (a b : Key) → a ≡ b → same_key a b ≡ true
key_same a b q =
    and-true (a.hart == b.hart) (a.id == b.id) (eq-eqb a.hart b.hart (ap (λ k. k.hart) q)) (eq-eqb a.id b.id (ap (λ k. k.id) q))

pub same_key-sym : (a b : Key) → same_key a b ≡ same_key b a
same_key-sym a b = go (same_key a b) (same_key b a) refl refl
  where
    go : (x y : Bool) → same_key a b ≡ x → same_key b a ≡ y → x ≡ y
    go true true p q = refl
    go false false p q = refl
    go true false p q = no_true (same_key b a) (key_same b a (sym (key_is a b p))) q
    go false true p q = no_true (same_key a b) (key_same a b (sym (key_is b a q))) p
