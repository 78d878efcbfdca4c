-- Lists of uses: members by key and by start, and the order of their starts.
use Rattle.std.proofs.Common.{◌≡◌, ◌<◌, ◌+◌, ◌++◌, ◌||◌, ℕ, Bool, true, false, if◌then◌else◌, Some, None, List, [], ◌∷◌, map, filter, refl, sym, ap, ◌∙◌, subst, arith}
use Rattle.std.specs.List.{list_any, last_or}
use Rattle.cycle_spec.specs.declared.use_of.Use.{Use}
use Rattle.cycle_lists.specs.Lists.{Each, Pairs}
use Rattle.cycle_lists.proofs.Tests.{or-left, or-right, or-cases}
use Rattle.cycle_lists.proofs.Every.{Each-from, Each-map, Each-filter, Each-push, Each-append, Pairs-map, Pairs-filter, Pairs-push, Pairs-older, Pairs-younger}

-- the same truth
pub same-bool : (a b : Bool) → (a ≡ true → b ≡ true) → (b ≡ true → a ≡ true) → a ≡ b
same-bool true b f g = sym (f refl)
same-bool false true f g = g refl
same-bool false false f g = refl

-- ---- one that passes a test

pub any-in : {A : Type 0} (test : A → Bool) (xs : List A) (x : A) (ys : List A) → test x ≡ true → list_any test (xs ++ x ∷ ys) ≡ true
any-in test [] x ys h = or-left (test x) (list_any test ys) h
any-in test (z ∷ xs) x ys h = or-right (test z) (list_any test (xs ++ x ∷ ys)) (any-in test xs x ys h)

pub any-front : {A : Type 0} (test : A → Bool) (xs ys : List A) → list_any test xs ≡ true → list_any test (xs ++ ys) ≡ true
any-front test [] ys h = cc
any-front test (x ∷ xs) ys h = or-cases (test x) (list_any test xs) ((test x || list_any test (xs ++ ys)) ≡ true) h (λ k. or-left (test x) (list_any test (xs ++ ys)) k) (λ k. or-right (test x) (list_any test (xs ++ ys)) (any-front test xs ys k))

-- a change that leaves the test
pub any-map : {A : Type 0} (test : A → Bool) (f : A → A) (xs : List A) → ((x : A) → test (f x) ≡ test x) → list_any test (map f xs) ≡ list_any test xs
any-map test f [] k = refl
any-map test f (x ∷ xs) k = ap (λ t. t || list_any test (map f xs)) (k x) ∙ ap (λ t. test x || t) (any-map test f xs k)

-- those that pass stay in a filter
pub any-filter : {A : Type 0} (P : A → Type 0) (test keeps : A → Bool) (xs : List A) → ((x : A) → P x → test x ≡ true → keeps x ≡ true) → Each P xs → list_any test xs ≡ true → list_any test (filter keeps xs) ≡ true
any-filter P test keeps [] k e h = cc
any-filter P test keeps (x ∷ xs) k e h =
    or-cases (test x) (list_any test xs) (list_any test (filter keeps (x ∷ xs)) ≡ true) h
    (λ q. subst (λ t. list_any test (if t then x ∷ filter keeps xs else filter keeps xs) ≡ true) (sym (k x e.0 q)) (or-left (test x) (list_any test (filter keeps xs)) q))
    (λ q. go (keeps x) (any-filter P test keeps xs k e.1 q))
  where
    go : (t : Bool) → list_any test (filter keeps xs) ≡ true → list_any test (if t then x ∷ filter keeps xs else filter keeps xs) ≡ true
    go true r = or-right (test x) (list_any test (filter keeps xs)) r
    go false r = r

-- what stays in a filter passed its test
pub Each-kept : {A : Type 0} (P Q : A → Type 0) (keeps : A → Bool) (xs : List A) → ((x : A) → keeps x ≡ true → P x → Q x) → Each P xs → Each Q (filter keeps xs)
Each-kept P Q keeps [] k e = tt
Each-kept P Q keeps (x ∷ xs) k e = go (keeps x) refl (Each-kept P Q keeps xs k e.1)
  where
    go : (t : Bool) → keeps x ≡ t → Each Q (filter keeps xs) → Each Q (if t then x ∷ filter keeps xs else filter keeps xs)
    go true q r = (k x q e.0, r)
    go false q r = r

-- none is the last one only where none passes
last-some : {A : Type 0} (x : A) (xs : List A) → last_or (Some x) xs ≡ None → ⊥
last-some x [] h = cc
last-some x (y ∷ ys) h = last-some y ys h

pub none-last : {A : Type 0} (test : A → Bool) (xs : List A) → last_or None (filter test xs) ≡ None → list_any test xs ≡ false
none-last test [] h = refl
none-last test (x ∷ xs) h = go (test x) refl h (λ k. none-last test xs k)
  where
    go : (t : Bool) → test x ≡ t → last_or None (if t then x ∷ filter test xs else filter test xs) ≡ None → (last_or None (filter test xs) ≡ None → list_any test xs ≡ false) → (test x || list_any test xs) ≡ false
    go true q k ih = absurd (last-some x (filter test xs) k)
    go false q k ih = ap (λ t. t || list_any test xs) q ∙ ih k

-- ---- the order of starts

abbrev pub Earlier : Use → Use → Type 0
Earlier x y = x.start < y.start

pub record Rises (n : ℕ) (us : List Use) : Type 0 where
  pub pairs : Pairs Earlier us
  pub below : Each (λ u. u.start < n) us

pub rises-map : (n : ℕ) (f : Use → Use) (us : List Use) → ((u : Use) → (f u).start ≡ u.start) → Rises n us → Rises n (map f us)
rises-map n f us k r = record {
  pairs = Pairs-map Earlier f us (λ x y h. subst (λ m. m < (f y).start) (sym (k x)) (subst (λ m. x.start < m) (sym (k y)) h)) r.pairs;
  below = Each-map (λ u. u.start < n) (λ u. u.start < n) f us (λ u h. subst (λ m. m < n) (sym (k u)) h) r.below;
}

-- a new one behind those that stay
pub rises-push : (n : ℕ) (keeps : Use → Bool) (us : List Use) (u : Use) → u.start ≡ n → Rises n us → Rises (n + 1) (filter keeps us ++ u ∷ [])
rises-push n keeps us u q r =
    let lows = Each-filter (λ v. v.start < n) keeps us r.below in
    record {
      pairs = Pairs-push Earlier (filter keeps us) u (Pairs-filter Earlier keeps us r.pairs) (Each-from (λ v. v.start < n) (λ v. v.start < u.start) (filter keeps us) (λ v h. subst (λ m. v.start < m) (sym q) h) lows);
      below = Each-push (λ v. v.start < n + 1) (filter keeps us) u (Each-from (λ v. v.start < n) (λ v. v.start < n + 1) (filter keeps us) (λ v h. omega arith) lows) (omega arith);
    }

pub rises-on : (n : ℕ) (us : List Use) → Rises n us → Rises (n + 1) us
rises-on n us r = record { pairs = r.pairs; below = Each-from (λ v. v.start < n) (λ v. v.start < n + 1) us (λ v h. omega arith) r.below }

-- the one with a start is the only one with it
pub only : (P : Use → Type 0) (us older younger : List Use) (u : Use) → us ≡ older ++ u ∷ younger → Pairs Earlier us → P u → Each (λ v. v.start ≡ u.start → P v) us
only P us older younger u q p h =
    subst (Each (λ v. v.start ≡ u.start → P v)) (sym q)
    (Each-append (λ v. v.start ≡ u.start → P v) older (u ∷ younger)
    (Each-from (λ v. Earlier v u) (λ v. v.start ≡ u.start → P v) older (λ v l s. absurd (omega arith)) (Pairs-older Earlier older u younger ps))
    (λ s. h, Each-from (λ v. Earlier u v) (λ v. v.start ≡ u.start → P v) younger (λ v l s. absurd (omega arith)) (Pairs-younger Earlier older u younger ps)))
  where
    ps : Pairs Earlier (older ++ u ∷ younger)
    ps = subst (Pairs Earlier) q p
