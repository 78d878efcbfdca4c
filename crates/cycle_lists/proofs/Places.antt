-- The first and the last element of a list that pass a test, and changes at one place.
use Rattle.std.proofs.Common.{◌≡◌, ◌||◌, ◌++◌, Bool, true, false, cond, Option, Some, None, List, [], ◌∷◌, map, filter, refl, sym, ap, ◌∙◌}
use Rattle.std.specs.Prelude.{find, IfSome}
use Rattle.std.specs.List.{list_any, last_or}
use Rattle.cycle_lists.specs.Lists.{Each, FirstAt, LastAt}
use Rattle.cycle_lists.proofs.Tests.{some-is, or-false_left, or-false_right}
use Rattle.cycle_lists.proofs.Filters.{filter-at, filter-none}

-- ---- the first

pub first-at : {A : Type 0} (test : A → Bool) (xs : List A) (x : A) → find test xs ≡ Some x → FirstAt test xs x
first-at test [] x h = cc
first-at test (y ∷ ys) x h = go (test y) refl h (λ k. first-at test ys x k)
  where
    go : (t : Bool) → test y ≡ t → cond t (Some y) (find test ys) ≡ Some x → (find test ys ≡ Some x → FirstAt test ys x) → FirstAt test (y ∷ ys) x
    go true e k ih =
        let same : y ≡ x = some-is y x k in
        record { older = []; younger = ys; here = ap (λ z. z ∷ ys) same; passes = ap test (sym same) ∙ e; others = tt }
    go false e k ih = let r = ih k in record { older = y ∷ r.older; younger = r.younger; here = ap (λ l. y ∷ l) r.here; passes = r.passes; others = (e, r.others) }

pub first-none : {A : Type 0} (test : A → Bool) (xs : List A) → find test xs ≡ None → Each (λ x. test x ≡ false) xs
first-none test [] h = tt
first-none test (y ∷ ys) h = go (test y) refl h (λ k. first-none test ys k)
  where
    go : (t : Bool) → test y ≡ t → cond t (Some y) (find test ys) ≡ None → (find test ys ≡ None → Each (λ x. test x ≡ false) ys) → Each (λ x. test x ≡ false) (y ∷ ys)
    go true e k ih = cc
    go false e k ih = (e, ih k)

pub first-if : {A : Type 0} (test : A → Bool) (xs : List A) → IfSome (find test xs) (FirstAt test xs)
first-if {A = A} test xs = go (find test xs) refl
  where
    go : (o : Option A) → find test xs ≡ o → IfSome o (FirstAt test xs)
    go None h = tt
    go (Some x) h = first-at test xs x h

pub find-at : {A : Type 0} (test : A → Bool) (xs : List A) (x : A) (ys : List A) → Each (λ y. test y ≡ false) xs → test x ≡ true → find test (xs ++ x ∷ ys) ≡ Some x
find-at test [] x ys h k = ap (λ t. cond t (Some x) (find test ys)) k
find-at test (y ∷ xs) x ys h k = ap (λ t. cond t (Some y) (find test (xs ++ x ∷ ys))) h.0 ∙ find-at test xs x ys h.1 k

pub find-none : {A : Type 0} (test : A → Bool) (xs : List A) → Each (λ y. test y ≡ false) xs → find test xs ≡ None
find-none test [] h = refl
find-none test (y ∷ xs) h = ap (λ t. cond t (Some y) (find test xs)) h.0 ∙ find-none test xs h.1

pub any-none : {A : Type 0} (test : A → Bool) (xs : List A) → list_any test xs ≡ false → Each (λ x. test x ≡ false) xs
any-none test [] h = tt
any-none test (x ∷ xs) h = (or-false_left (test x) (list_any test xs) h, any-none test xs (or-false_right (test x) (list_any test xs) h))

-- one passes
pub record AnyAt {A : Type 0} (test : A → Bool) (xs : List A) : Type 0 where
  pub front : List A
  pub one : A
  pub back : List A
  pub here : xs ≡ front ++ one ∷ back
  pub passes : test one ≡ true

pub any-at : {A : Type 0} (test : A → Bool) (xs : List A) → list_any test xs ≡ true → AnyAt test xs
any-at test [] h = cc
any-at test (x ∷ xs) h = go (test x) refl h (λ k. any-at test xs k)
  where
    go : (t : Bool) → test x ≡ t → (t || list_any test xs) ≡ true → (list_any test xs ≡ true → AnyAt test xs) → AnyAt test (x ∷ xs)
    go true e k ih = record { front = []; one = x; back = xs; here = refl; passes = e }
    go false e k ih = let r = ih k in record { front = x ∷ r.front; one = r.one; back = r.back; here = ap (λ l. x ∷ l) r.here; passes = r.passes }

-- ---- the last

pub last-here : {A : Type 0} (o : Option A) (xs : List A) (x : A) → last_or o (xs ++ x ∷ []) ≡ Some x
last-here o [] x = refl
last-here o (y ∷ ys) x = last-here (Some y) ys x

-- behind it none passes
pub last-at : {A : Type 0} (test : A → Bool) (xs : List A) (x : A) (ys : List A) → test x ≡ true → Each (λ y. test y ≡ false) ys → last_or None (filter test (xs ++ x ∷ ys)) ≡ Some x
last-at test xs x ys h k =
    ap (last_or None) (filter-at test xs x ys h ∙ ap (λ l. filter test xs ++ x ∷ l) (filter-none test ys k)) ∙ last-here None (filter test xs) x

-- what the last one is
pub data LastOf {A : Type 0} (test : A → Bool) (o : Option A) (xs : List A) (x : A) : Type 0 where
  In : LastAt test xs x → LastOf test o xs x
  Before : o ≡ Some x → Each (λ y. test y ≡ false) xs → LastOf test o xs x

later : {A : Type 0} (test : A → Bool) (y : A) (ys : List A) (x : A) → LastAt test ys x → LastAt test (y ∷ ys) x
later test y ys x r = record { older = y ∷ r.older; younger = r.younger; here = ap (λ l. y ∷ l) r.here; passes = r.passes; others = r.others }

last-of : {A : Type 0} (test : A → Bool) (o : Option A) (xs : List A) (x : A) → last_or o (filter test xs) ≡ Some x → LastOf test o xs x
last-of test o [] x h = Before h tt
last-of {A = A} test o (y ∷ ys) x h = go (test y) refl h (λ p k. last-of test p ys x k)
  where
    passed : test y ≡ true → LastOf test (Some y) ys x → LastOf test o (y ∷ ys) x
    passed e (In r) = In (later test y ys x r)
    passed e (Before s n) = let same : y ≡ x = some-is y x s in In (record { older = []; younger = ys; here = ap (λ z. z ∷ ys) same; passes = ap test (sym same) ∙ e; others = n })

    missed : test y ≡ false → LastOf test o ys x → LastOf test o (y ∷ ys) x
    missed e (In r) = In (later test y ys x r)
    missed e (Before s n) = Before s (e, n)

    go : (t : Bool) → test y ≡ t → last_or o (cond t (y ∷ filter test ys) (filter test ys)) ≡ Some x → ((p : Option A) → last_or p (filter test ys) ≡ Some x → LastOf test p ys x) → LastOf test o (y ∷ ys) x
    go true e q ih = passed e (ih (Some y) q)
    go false e q ih = missed e (ih o q)

pub last-found : {A : Type 0} (test : A → Bool) (xs : List A) (x : A) → last_or None (filter test xs) ≡ Some x → LastAt test xs x
last-found {A = A} test xs x h = go (last-of test None xs x h)
  where
    go : LastOf test None xs x → LastAt test xs x
    go (In r) = r
    go (Before s n) = cc

pub no-last : {A : Type 0} (test : A → Bool) (xs : List A) → Each (λ x. test x ≡ false) xs → last_or None (filter test xs) ≡ None
no-last test xs h = ap (last_or None) (filter-none test xs h)

-- ---- a change of one element

-- no other one is changed
pub map-none : {A : Type 0} (f : A → A) (xs : List A) → Each (λ x. f x ≡ x) xs → map f xs ≡ xs
map-none f [] h = refl
map-none f (x ∷ xs) h = ap (λ y. y ∷ map f xs) h.0 ∙ ap (λ l. x ∷ l) (map-none f xs h.1)

pub map-at : {A : Type 0} (f : A → A) (xs : List A) (x : A) (ys : List A) → Each (λ y. f y ≡ y) xs → Each (λ y. f y ≡ y) ys → map f (xs ++ x ∷ ys) ≡ xs ++ f x ∷ ys
map-at f [] x ys h k = ap (λ l. f x ∷ l) (map-none f ys k)
map-at f (y ∷ xs) x ys h k = ap (λ z. z ∷ map f (xs ++ x ∷ ys)) h.0 ∙ ap (λ l. y ∷ l) (map-at f xs x ys h.1 k)
