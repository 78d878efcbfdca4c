-- The keys of the uses, for which there is room.
use Rattle.std.proofs.Common.{if◌then◌else◌, ◌||◌, ◌≡◌, ◌<◌, ◌≤◌, ◌+◌, ◌*◌, ◌^◌, ◌++◌, ℕ, zero, suc, Bool, true, false, not, List, [], ◌∷◌, length, map, filter, All, refl, sym, ap, ◌∙◌, subst, arith}
use Rattle.std.specs.Prelude.{nat_eq}
use Rattle.std.specs.Cmp.{nat_eq_equiv}
use Rattle.std.specs.List.{IsDistinct, AllByRecursion, list_any}
use Rattle.std.proofs.lemmas.Bool.{eqb-true, ne_eqb}
use Rattle.std.proofs.lemmas.Bool.Decides.{nat_tests}
use Rattle.std.proofs.lemmas.Nat.{mul-add-lt}
use Rattle.std.proofs.lemmas.List.{length-map, map-append}
use Rattle.std.proofs.lemmas.List.Elements.{All-push, All-head, All-tail, All-cons}
use Rattle.std.proofs.lemmas.Map.Keys.{IsDistinct-push, IsDistinct-head, IsDistinct-tail, IsDistinct-cons}
use Rattle.std.proofs.lemmas.Map.Steps.{length-le_from_distinct_below}
use Rattle.std.proofs.Math.Nat.{mul_comm}
use Rattle.xif_base.specs.declared.params.Key.{Key}
use Rattle.xif_base.specs.declared.params.Params.{Params}
use Rattle.xif_session.specs.Facts.{same_key}
use Rattle.cycle_spec.specs.declared.use_of.Use.{Use}
use Rattle.cycle_spec.specs.Engine.{has_key, with_start, new_use}
use Rattle.coproc_engine.specs.Fits.{IsKey, AreKeys, keys_of, number_of, room_of}

-- ---- the numbers of two keys

three : (a b : ℕ) → (P : Type 0) → (a < b → P) → (a ≡ b → P) → (b < a → P) → P
three zero zero P f g h = g refl
three zero (suc b) P f g h = f (omega arith)
three (suc a) zero P f g h = h (omega arith)
three (suc a) (suc b) P f g h = three a b P (λ l. f (omega arith)) (λ q. g (ap suc q)) (λ l. h (omega arith))

before : (ids h i k : ℕ) → h < k → i < ids → h * ids + i < k * ids
before ids h i k l m = subst (λ n. h * ids + i < n) (mul_comm ids k) (mul-add-lt h ids i k l m)

inside : (p : Params) (key : Key) → IsKey p key → number_of p key < room_of p
inside p key k = before (2 ^ p.id_width) key.hart key.id p.num_harts k.hart k.id

split : (ids h k i j : ℕ) → i < ids → j < ids → h * ids + i ≡ k * ids + j → (h ≡ k) × (i ≡ j)
split ids h k i j l m q =
    three h k ((h ≡ k) × (i ≡ j))
    (λ x. let y = before ids h i k x l in absurd (omega arith))
    (λ x. (x, let y : h * ids ≡ k * ids = ap (λ n. n * ids) x in omega arith))
    (λ x. let y = before ids k j h x m in absurd (omega arith))

apart : (p : Params) (a b : Key) → IsKey p a → IsKey p b → same_key b a ≡ false → nat_eq (number_of p a) (number_of p b) ≡ false
apart p a b m n e = ne_eqb (number_of p a) (number_of p b) (λ q. let s = split (2 ^ p.id_width) a.hart b.hart a.id b.id m.id n.id q in differ s.0 s.1)
  where
    differ : a.hart ≡ b.hart → a.id ≡ b.id → ⊥
    differ h i = grind (arith, nat_tests)

-- ---- a use less

kept-all : (P : ℕ → Type 0) (p : Params) (test : Use → Bool) (us : List Use) → AllByRecursion P (map (number_of p) (keys_of us)) → AllByRecursion P (map (number_of p) (keys_of (filter test us)))
kept-all P p test [] a = tt
kept-all P p test (u ∷ us) a = go (test u) (kept-all P p test us a.1)
  where
    go : (t : Bool) → AllByRecursion P (map (number_of p) (keys_of (filter test us))) → AllByRecursion P (map (number_of p) (keys_of (if t then u ∷ filter test us else filter test us)))
    go true k = (a.0, k)
    go false k = k

kept-distinct : (p : Params) (test : Use → Bool) (us : List Use) → IsDistinct nat_eq (map (number_of p) (keys_of us)) → IsDistinct nat_eq (map (number_of p) (keys_of (filter test us)))
kept-distinct p test [] d = d
kept-distinct p test (u ∷ us) d =
    go (test u) (kept-all (λ n. nat_eq (number_of p u.key) n ≡ false) p test us (IsDistinct-head nat_eq _ _ d)) (kept-distinct p test us (IsDistinct-tail nat_eq _ _ d))
  where
    go : (t : Bool) → AllByRecursion (λ n. nat_eq (number_of p u.key) n ≡ false) (map (number_of p) (keys_of (filter test us))) → IsDistinct nat_eq (map (number_of p) (keys_of (filter test us))) → IsDistinct nat_eq (map (number_of p) (keys_of (if t then u ∷ filter test us else filter test us)))
    go true a k = IsDistinct-cons nat_eq (number_of p u.key) _ a k
    go false a k = k

kept-each : (P : Key → Type 0) (test : Use → Bool) (us : List Use) → All P (keys_of us) → All P (keys_of (filter test us))
kept-each P test [] a = a
kept-each P test (u ∷ us) a = go (test u) (kept-each P test us (All-tail P u.key (keys_of us) a))
  where
    go : (t : Bool) → All P (keys_of (filter test us)) → All P (keys_of (if t then u ∷ filter test us else filter test us))
    go true k = All-cons P u.key (keys_of (filter test us)) (All-head P u.key (keys_of us) a) k
    go false k = k

none_left : (p : Params) (key : Key) (us : List Use) → IsKey p key → All (IsKey p) (keys_of us) → list_any (nat_eq (number_of p key)) (map (number_of p) (keys_of (filter (λ other. not (has_key key other)) us))) ≡ false
none_left p key [] k a = refl
none_left p key (u ∷ us) k a = go (has_key key u) refl (none_left p key us k (All-tail (IsKey p) u.key (keys_of us) a))
  where
    rest : List Use
    rest = filter (λ other. not (has_key key other)) us

    go : (t : Bool) → has_key key u ≡ t → list_any (nat_eq (number_of p key)) (map (number_of p) (keys_of rest)) ≡ false → list_any (nat_eq (number_of p key)) (map (number_of p) (keys_of (if not t then u ∷ rest else rest))) ≡ false
    go true e r = r
    go false e r = ap (λ t. t || list_any (nat_eq (number_of p key)) (map (number_of p) (keys_of rest))) (apart p key u.key k (All-head (IsKey p) u.key (keys_of us) a) e) ∙ r

-- ---- with the use that starts

started : (u : Use) (us : List Use) → keys_of (with_start u us) ≡ keys_of (filter (λ other. not (has_key u.key other)) us) ++ u.key ∷ []
started u us = map-append (λ (v : Use). v.key) (filter (λ other. not (has_key u.key other)) us) (u ∷ [])

pub keys-start : (p : Params) (u : Use) (us : List Use) → AreKeys p (keys_of us) → IsKey p u.key → AreKeys p (keys_of (with_start u us))
keys-start p u us k i = subst (AreKeys p) (sym (started u us)) (record {
  each = All-push (IsKey p) (keys_of kept) u.key (kept-each (IsKey p) (λ other. not (has_key u.key other)) us k.each) i;
  distinct = subst (IsDistinct nat_eq) (sym (map-append (number_of p) (keys_of kept) (u.key ∷ [])))
      (IsDistinct-push nat_eq_equiv (map (number_of p) (keys_of kept)) (number_of p u.key) (kept-distinct p (λ other. not (has_key u.key other)) us k.distinct) (none_left p u.key us i k.each));
})
  where
    kept : List Use
    kept = filter (λ other. not (has_key u.key other)) us

below : (p : Params) (q : ℕ) (keys : List Key) → All (IsKey p) keys → list_any (nat_eq q) (map (number_of p) keys) ≡ true → q < room_of p
below p q [] a e = absurd (cc)
below p q (key ∷ keys) a e = go (nat_eq q (number_of p key)) refl e (λ e. below p q keys (All-tail (IsKey p) key keys a) e)
  where
    go : (t : Bool) → nat_eq q (number_of p key) ≡ t → (t || list_any (nat_eq q) (map (number_of p) keys)) ≡ true → (list_any (nat_eq q) (map (number_of p) keys) ≡ true → q < room_of p) → q < room_of p
    go true s e rest = subst (λ n. n < room_of p) (sym (eqb-true q (number_of p key) s)) (inside p key (All-head (IsKey p) key keys a))
    go false s e rest = rest e

-- each key has room
pub fit : (p : Params) (keys : List Key) → AreKeys p keys → length keys ≤ room_of p
fit p keys k =
    subst (λ n. n ≤ room_of p) (length-map keys (number_of p))
    (length-le_from_distinct_below (map (number_of p) keys) (room_of p) k.distinct (λ q e. below p q keys k.each e))

length-push : (us : List Use) (u : Use) → length (us ++ u ∷ []) ≡ length us + 1
length-push [] u = refl
length-push (x ∷ us) u = let more = length-push us u in omega arith

-- so there is room for a use that starts
pub room-left : (p : Params) (key : Key) (us : List Use) → AreKeys p (keys_of us) → IsKey p key → length (filter (λ other. not (has_key key other)) us) < room_of p
room-left p key us k i =
    let all : length (keys_of (with_start u us)) ≤ room_of p = fit p (keys_of (with_start u us)) (keys-start p u us k i) in
    let more : length (keys_of (with_start u us)) ≡ length kept + 1 = length-map (with_start u us) (λ (v : Use). v.key) ∙ length-push kept u in
    omega arith
  where
    u : Use
    u = new_use key 0 0

    kept : List Use
    kept = filter (λ other. not (has_key key other)) us
