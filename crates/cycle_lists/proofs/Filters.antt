-- What a filter leaves of a list.
use Rattle.std.proofs.Common.{◌≡◌, ◌++◌, Bool, true, false, cond, List, [], ◌∷◌, map, filter, refl, sym, ap, ◌∙◌}
use Rattle.cycle_lists.specs.Lists.{Each, Unfiltered}

pub filter-append : {A : Type 0} (test : A → Bool) (xs ys : List A) → filter test (xs ++ ys) ≡ filter test xs ++ filter test ys
filter-append test [] ys = refl
filter-append test (x ∷ xs) ys = go (test x) (filter-append test xs ys)
  where
    go : (t : Bool) → filter test (xs ++ ys) ≡ filter test xs ++ filter test ys → cond t (x ∷ filter test (xs ++ ys)) (filter test (xs ++ ys)) ≡ cond t (x ∷ filter test xs) (filter test xs) ++ filter test ys
    go true e = ap (λ l. x ∷ l) e
    go false e = e

pub filter-here : {A : Type 0} (test : A → Bool) (x : A) (xs : List A) → test x ≡ true → filter test (x ∷ xs) ≡ x ∷ filter test xs
filter-here test x xs h = ap (λ t. cond t (x ∷ filter test xs) (filter test xs)) h

pub filter-gone : {A : Type 0} (test : A → Bool) (x : A) (xs : List A) → test x ≡ false → filter test (x ∷ xs) ≡ filter test xs
filter-gone test x xs h = ap (λ t. cond t (x ∷ filter test xs) (filter test xs)) h

-- around one that passes
pub filter-at : {A : Type 0} (test : A → Bool) (xs : List A) (x : A) (ys : List A) → test x ≡ true → filter test (xs ++ x ∷ ys) ≡ filter test xs ++ x ∷ filter test ys
filter-at test xs x ys h = filter-append test xs (x ∷ ys) ∙ ap (λ l. filter test xs ++ l) (filter-here test x ys h)

-- and around one that doesn't
pub filter-past : {A : Type 0} (test : A → Bool) (xs : List A) (x : A) (ys : List A) → test x ≡ false → filter test (xs ++ x ∷ ys) ≡ filter test xs ++ filter test ys
filter-past test xs x ys h = filter-append test xs (x ∷ ys) ∙ ap (λ l. filter test xs ++ l) (filter-gone test x ys h)

pub filter-none : {A : Type 0} (test : A → Bool) (xs : List A) → Each (λ x. test x ≡ false) xs → filter test xs ≡ []
filter-none test [] h = refl
filter-none test (x ∷ xs) h = filter-gone test x xs h.0 ∙ filter-none test xs h.1

pub filter-all : {A : Type 0} (test : A → Bool) (xs : List A) → Each (λ x. test x ≡ true) xs → filter test xs ≡ xs
filter-all test [] h = refl
filter-all test (x ∷ xs) h = filter-here test x xs h.0 ∙ ap (λ l. x ∷ l) (filter-all test xs h.1)

-- two filters in either order
pub filter-swap : {A : Type 0} (p q : A → Bool) (xs : List A) → filter p (filter q xs) ≡ filter q (filter p xs)
filter-swap p q [] = refl
filter-swap p q (x ∷ xs) = go (p x) (q x) refl refl (filter-swap p q xs)
  where
    go : (a b : Bool) → p x ≡ a → q x ≡ b → filter p (filter q xs) ≡ filter q (filter p xs) → filter p (cond b (x ∷ filter q xs) (filter q xs)) ≡ filter q (cond a (x ∷ filter p xs) (filter p xs))
    go true true e f ih = filter-here p x (filter q xs) e ∙ ap (λ l. x ∷ l) ih ∙ sym (filter-here q x (filter p xs) f)
    go true false e f ih = ih ∙ sym (filter-gone q x (filter p xs) f)
    go false true e f ih = filter-gone p x (filter q xs) e ∙ ih
    go false false e f ih = ih

-- a change that leaves the test
pub filter-map : {A : Type 0} (test : A → Bool) (f : A → A) (xs : List A) → Each (λ x. test (f x) ≡ test x) xs → filter test (map f xs) ≡ map f (filter test xs)
filter-map test f [] h = refl
filter-map test f (x ∷ xs) h = ap (λ t. cond t (f x ∷ filter test (map f xs)) (filter test (map f xs))) h.0 ∙ go (test x) (filter-map test f xs h.1)
  where
    go : (t : Bool) → filter test (map f xs) ≡ map f (filter test xs) → cond t (f x ∷ filter test (map f xs)) (filter test (map f xs)) ≡ map f (cond t (x ∷ filter test xs) (filter test xs))
    go true e = ap (λ l. f x ∷ l) e
    go false e = e

-- two tests that agree on each
pub filter-same : {A : Type 0} (p q : A → Bool) (xs : List A) → Each (λ x. p x ≡ q x) xs → filter p xs ≡ filter q xs
filter-same p q [] h = refl
filter-same p q (x ∷ xs) h = ap (λ t. cond t (x ∷ filter p xs) (filter p xs)) h.0 ∙ ap (λ l. cond (q x) (x ∷ l) l) (filter-same p q xs h.1)

-- one in a filtered list stands in the list
pub unfilter : {A : Type 0} (test : A → Bool) (xs fs : List A) (y : A) (gs : List A) → filter test xs ≡ fs ++ y ∷ gs → Unfiltered test xs fs y gs
unfilter test [] [] y gs h = cc
unfilter test [] (f ∷ fs) y gs h = cc
unfilter {A = A} test (x ∷ xs) fs y gs h = go (test x) refl fs h (λ gs'. unfilter test xs gs' y gs)
  where
    go : (t : Bool) → test x ≡ t → (fs : List A) → cond t (x ∷ filter test xs) (filter test xs) ≡ fs ++ y ∷ gs → ((hs : List A) → filter test xs ≡ hs ++ y ∷ gs → Unfiltered test xs hs y gs) → Unfiltered test (x ∷ xs) fs y gs
    go false e fs h ih =
        let r = ih fs h in
        record { front = x ∷ r.front; back = r.back; here = ap (λ l. x ∷ l) r.here; fronts = filter-gone test x r.front e ∙ r.fronts; backs = r.backs }
    go true e [] h ih =
        let hd : x ≡ y = cc in
        let tl : filter test xs ≡ gs = cc in
        record { front = []; back = xs; here = ap (λ z. z ∷ xs) hd; fronts = refl; backs = tl }
    go true e (f ∷ fs) h ih =
        let hd : x ≡ f = cc in
        let tl : filter test xs ≡ fs ++ y ∷ gs = cc in
        let r = ih fs tl in
        record { front = x ∷ r.front; back = r.back; here = ap (λ l. x ∷ l) r.here; fronts = filter-here test x r.front e ∙ ap (λ l. x ∷ l) r.fronts ∙ ap (λ z. z ∷ fs) hd; backs = r.backs }
