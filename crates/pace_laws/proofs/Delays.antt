-- Arithmetic of delays.
use Rattle.std.proofs.Common.{◌≡◌, ◌<◌, ◌≤◌, ◌+◌, ◌-◌, ◌*◌, ◌==◌, ℕ, zero, suc, Bool, true, false, cond, List, [], ◌∷◌, length, Option, Some, None, refl, ap, arith}
use Rattle.std.specs.Prelude.{◌++◌, ◌%◌, fold, max, slice_index_or}
use Rattle.std.proofs.lemmas.Bool.Decides.{nat_tests}
use Rattle.std.proofs.lemmas.Bool.{leb-false, eqb-true, eqb-false}
use Rattle.xif_drive.specs.Scripts.{Lists, delay_of, greatest, largest_of}
use Rattle.cycle_spec.specs.declared.turn.Turn.{Turn}
use Rattle.cycle_spec.specs.Turns.{aged, is_past}
use Rattle.pace_laws.specs.Measure.{rest, offer_rest, other_rest, wait_of}

-- no delay of a script is above d
pub record Bounds (d : ℕ) (s : Lists) : Type 0 where
  pub issue : (k : ℕ) → delay_of s.issue k ≤ d
  pub register : (k : ℕ) → delay_of s.register k ≤ d
  pub operand : (k : ℕ) → delay_of s.operand k ≤ d
  pub result : (k : ℕ) → delay_of s.result k ≤ d
  pub take : (k : ℕ) → delay_of s.take k ≤ d

-- ---- the greatest delay

fold-least : (n : ℕ) (xs : List ℕ) → n ≤ fold max n xs
fold-least n [] = omega arith
fold-least n (x ∷ xs) = let ih = fold-least (max n x) xs in omega arith

fold-rises : (n m : ℕ) (xs : List ℕ) → n ≤ m → fold max n xs ≤ fold max m xs
fold-rises n m [] h = h
fold-rises n m (x ∷ xs) h = fold-rises (max n x) (max m x) xs (omega arith)

least-of : (a b : ℕ) → max 0 a ≤ b → a ≤ b
least-of a b h = omega arith

index-greatest : (xs : List ℕ) (k : ℕ) → slice_index_or xs k 0 ≤ greatest xs
index-greatest [] k = omega arith
index-greatest (x ∷ xs) zero = least-of x (fold max (max 0 x) xs) (fold-least (max 0 x) xs)
index-greatest (x ∷ xs) (suc k) = let ih = index-greatest xs k in let l = fold-rises 0 (max 0 x) xs (omega arith) in omega arith

front-greatest : (n : ℕ) (xs ys : List ℕ) → fold max n xs ≤ fold max n (xs ++ ys)
front-greatest n [] ys = fold-least n ys
front-greatest n (x ∷ xs) ys = front-greatest (max n x) xs ys

back-greatest : (n : ℕ) (xs ys : List ℕ) → fold max n ys ≤ fold max n (xs ++ ys)
back-greatest n [] ys = omega arith
back-greatest n (x ∷ xs) ys =
    let l = back-greatest (max n x) xs ys in
    let r = fold-rises n (max n x) ys (omega arith) in
    omega arith

le-then : (a b c : ℕ) → a ≤ b → b ≤ c → a ≤ c
le-then a b c h k = omega arith

delay-greatest : (xs : List ℕ) (k : ℕ) → delay_of xs k ≤ greatest xs
delay-greatest xs k = index-greatest xs (k % length xs)

-- a list among others
before : (n : ℕ) (xs ys : List ℕ) → n ≤ greatest xs → n ≤ greatest (xs ++ ys)
before n xs ys h = le-then n (greatest xs) (greatest (xs ++ ys)) h (front-greatest 0 xs ys)

at-end : (k : ℕ) (xs ys : List ℕ) → delay_of ys k ≤ greatest (xs ++ ys)
at-end k xs ys = le-then (delay_of ys k) (greatest ys) (greatest (xs ++ ys)) (delay-greatest ys k) (back-greatest 0 xs ys)

pub largest-bounds : (s : Lists) → Bounds (largest_of s) s
largest-bounds s =
    let two = s.issue ++ s.register in
    let three = two ++ s.operand in
    let four = three ++ s.result in
    record {
      issue = λ k. before (delay_of s.issue k) four s.take (before (delay_of s.issue k) three s.result (before (delay_of s.issue k) two s.operand (before (delay_of s.issue k) s.issue s.register (delay-greatest s.issue k))));
      register = λ k. before (delay_of s.register k) four s.take (before (delay_of s.register k) three s.result (before (delay_of s.register k) two s.operand (at-end k s.issue s.register)));
      operand = λ k. before (delay_of s.operand k) four s.take (before (delay_of s.operand k) three s.result (at-end k two s.operand));
      result = λ k. before (delay_of s.result k) four s.take (at-end k three s.result);
      take = λ k. at-end k four s.take;
    }

-- ---- one transaction

pub rest-aged : (delays : List ℕ) (t : Turn) → is_past delays t ≡ false → rest delays (aged t) + 1 ≡ rest delays t
rest-aged delays t p = let l = leb-false (delay_of delays t.number) t.age p in omega arith

pub rest-falls : (delays : List ℕ) (t : Turn) → rest delays (aged t) ≤ rest delays t
rest-falls delays t = omega arith

pub rest-bound : (d : ℕ) (delays : List ℕ) (t : Turn) → delay_of delays t.number ≤ d → rest delays t ≤ d
rest-bound d delays t h = omega arith

-- ---- what is left of a result

pub offer-bound : (d left start wait : ℕ) (o : Option ℕ) → left ≤ d → wait ≤ d → offer_rest d left start o wait ≤ 3 * d + 2
offer-bound d left start wait None h k = grind (arith, nat_tests)
offer-bound d left start wait (Some t) h k = grind (arith, nat_tests)

pub offer-some : (d left start wait : ℕ) (o : Option ℕ) → 0 < offer_rest d left start o wait
offer-some d left start wait None = grind (arith, nat_tests)
offer-some d left start wait (Some t) = grind (arith, nat_tests)

pub wait-falls : (r delay now : ℕ) → wait_of r delay (now + 1) ≡ wait_of r delay now - 1
wait-falls r delay now = omega arith

-- nothing waits after the cycle
pub none-after : (d left left' s wait : ℕ) (o : Option ℕ) → left' ≤ d → wait ≤ d → (o ≡ Some s → ⊥) → (o ≡ None → wait ≡ 0 → ⊥)
    → offer_rest d left' s None (wait - 1) < offer_rest d left s o wait
none-after d left left' s wait None h k own due = by (wait == 0) refl
  where
    by : (t : Bool) → (wait == 0) ≡ t → cond (wait - 1 == 0) (d + 1) (wait - 1 + (2 * d + 2)) < cond t (d + 1) (wait + (2 * d + 2))
    by true q = absurd (due refl (eqb-true wait 0 q))
    by false q = grind (arith, nat_tests)
none-after d left left' s wait (Some t) h k own due = by (t == s) refl
  where
    by : (b : Bool) → (t == s) ≡ b → cond (wait - 1 == 0) (d + 1) (wait - 1 + (2 * d + 2)) < cond b (left + 1) (other_rest d left wait)
    by true q = absurd (own (ap Some (eqb-true t s q)))
    by false q = grind (arith, nat_tests)

-- one waits after the cycle
pub some-after : (d left left' s wait v : ℕ) (o : Option ℕ) → left' + 1 ≡ left → left ≤ d → wait ≤ d → (o ≡ Some s → v ≡ s) → (o ≡ None → wait ≡ 0 → v ≡ s)
    → offer_rest d left' s (Some v) (wait - 1) < offer_rest d left s o wait
some-after d left left' s wait v None e h k own due = by (wait == 0) (v == s) refl refl
  where
    by : (t b : Bool) → (wait == 0) ≡ t → (v == s) ≡ b → cond b (left' + 1) (other_rest d left' (wait - 1)) < cond t (d + 1) (wait + (2 * d + 2))
    by true true q p = omega arith
    by true false q p = absurd (eqb-false v s p (due refl (eqb-true wait 0 q)))
    by false b q p = grind (arith, nat_tests)
some-after d left left' s wait v (Some t) e h k own due = by (t == s) (v == s) refl refl
  where
    by : (b c : Bool) → (t == s) ≡ b → (v == s) ≡ c → cond c (left' + 1) (other_rest d left' (wait - 1)) < cond b (left + 1) (other_rest d left wait)
    by true true q p = omega arith
    by true false q p = absurd (eqb-false v s p (own (ap Some (eqb-true t s q))))
    by false c q p = grind (arith, nat_tests)
