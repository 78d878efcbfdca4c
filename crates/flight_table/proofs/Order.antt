-- What the order of the numbers says of the youngest entry that passes a test.
use Rattle.std.proofs.Common.{◌≡◌, ◌<◌, ◌≤◌, ◌+◌, ◌++◌, ◌⊎◌, ℕ, zero, suc, Bool, true, false, if◌then◌else◌, cond, Option, Some, None, List, [], ◌∷◌, length, take, drop, map, inl, inr, ⊎_elim, refl, sym, ap, ◌∙◌, subst, arith}
use Rattle.std.specs.Prelude.{filter, find}
use Rattle.std.specs.List.{last_or, AllByRecursion}
use Rattle.std.proofs.lemmas.Bool.{eqb-true, eq-eqb, ne_eqb}
use Rattle.std.proofs.lemmas.List.Elements.{filter-append}
use Rattle.cycle_spec.specs.declared.entry.Entry.{Entry}
use Rattle.cycle_spec.specs.Flight.{has_seq, older_than, count_through}
use Rattle.flight_table.specs.Index.{Rises}

-- ---- the order under the changes of the list

pub rises_within : (least next : ℕ) (es : List Entry) → Rises least es next → least ≤ next
rises_within least next [] r = r
rises_within least next (e ∷ es) r =
    let h : e.seq + 1 ≤ next = rises_within (e.seq + 1) next es r.1 in
    let l : least ≤ e.seq = r.0 in
    omega arith

pub rises_push : (least next : ℕ) (es : List Entry) (e : Entry) → Rises least es next → e.seq ≡ next → Rises least (es ++ e ∷ []) (next + 1)
rises_push least next [] e r q =
    let l : least ≤ next = r in
    (omega arith, omega arith)
rises_push least next (x ∷ xs) e r q = (r.0, rises_push (x.seq + 1) next xs e r.1 q)

pub rises_map : (f : Entry → Entry) → ((e : Entry) → (f e).seq ≡ e.seq) → (least next : ℕ) (es : List Entry) → Rises least es next → Rises least (map f es) next
rises_map f k least next [] r = r
rises_map f k least next (e ∷ es) r =
    let l : least ≤ e.seq = r.0 in
    let q : (f e).seq ≡ e.seq = k e in
    (omega arith, subst (λ n. Rises (n + 1) (map f es) next) (sym q) (rises_map f k (e.seq + 1) next es r.1))

pub rises_take : (n least next : ℕ) (es : List Entry) → Rises least es next → Rises least (take n es) next
rises_take zero least next es r = rises_within least next es r
rises_take (suc n) least next [] r = r
rises_take (suc n) least next (e ∷ es) r = (r.0, rises_take n (e.seq + 1) next es r.1)

rises_from : (least more next : ℕ) (es : List Entry) → least ≤ more → Rises more es next → Rises least es next
rises_from least more next [] l r =
    let h : more ≤ next = r in
    omega arith
rises_from least more next (e ∷ es) l r =
    let h : more ≤ e.seq = r.0 in
    (omega arith, r.1)

pub rises_behind : (least next : ℕ) (e : Entry) (es : List Entry) → Rises least (e ∷ es) next → Rises least es next
rises_behind least next e es r =
    let h : least ≤ e.seq = r.0 in
    rises_from least (e.seq + 1) next es (omega arith) r.1

-- ---- entries from a number on

abbrev pub AtLeast : ℕ → List Entry → Type 0
AtLeast least es = AllByRecursion (λ e. least ≤ e.seq) es

pub at_least : (least more next : ℕ) (es : List Entry) → least ≤ more → Rises more es next → AtLeast least es
at_least least more next [] l r = tt
at_least least more next (e ∷ es) l r =
    let h : more ≤ e.seq = r.0 in
    (omega arith, at_least least (e.seq + 1) next es (omega arith) r.1)

pub parted : (s : ℕ) (es : List Entry) → older_than s es ++ drop (length (older_than s es)) es ≡ es
parted s [] = refl
parted s (e ∷ es) = go (has_seq s e) refl (parted s es)
  where
    go : (t : Bool) → has_seq s e ≡ t → older_than s es ++ drop (length (older_than s es)) es ≡ es
        → (if t then [] else e ∷ older_than s es) ++ drop (length (if t then [] else e ∷ older_than s es)) (e ∷ es) ≡ e ∷ es
    go true q h = refl
    go false q h = ap (λ xs. e ∷ xs) h

pub behind_older : (s least next : ℕ) (es : List Entry) → Rises least es next → AtLeast s (drop (length (older_than s es)) es)
behind_older s least next [] r = tt
behind_older s least next (e ∷ es) r = go (has_seq s e) refl (behind_older s (e.seq + 1) next es r.1)
  where
    go : (t : Bool) → has_seq s e ≡ t → AtLeast s (drop (length (older_than s es)) es) → AtLeast s (drop (length (if t then [] else e ∷ older_than s es)) (e ∷ es))
    go true q h =
        let same : e.seq ≡ s = eqb-true e.seq s q in
        (omega arith, at_least s (e.seq + 1) next es (omega arith) r.1)
    go false q h = h

behind_named : (s least next : ℕ) (es : List Entry) → Rises least es next → AtLeast (s + 1) (drop (suc (length (older_than s es))) es)
behind_named s least next [] r = tt
behind_named s least next (e ∷ es) r = go (has_seq s e) refl (behind_named s (e.seq + 1) next es r.1)
  where
    go : (t : Bool) → has_seq s e ≡ t → AtLeast (s + 1) (drop (suc (length (older_than s es))) es) → AtLeast (s + 1) (drop (suc (length (if t then [] else e ∷ older_than s es))) (e ∷ es))
    go true q h =
        let same : e.seq ≡ s = eqb-true e.seq s q in
        at_least (s + 1) (e.seq + 1) next es (omega arith) r.1
    go false q h = h

pub behind_cut : (s least next : ℕ) (es : List Entry) → Rises least es next → AtLeast (s + 1) (drop (count_through s es) es)
behind_cut s least next es r =
    let same : suc (length (older_than s es)) ≡ count_through s es = omega arith in
    subst (λ n. AtLeast (s + 1) (drop n es)) same (behind_named s least next es r)

-- ---- the youngest that passes a test

last_or_append : (o : Option Entry) (xs ys : List Entry) → last_or o (xs ++ ys) ≡ last_or (last_or o xs) ys
last_or_append o [] ys = refl
last_or_append o (x ∷ xs) ys = last_or_append (Some x) xs ys

-- among these entries: there is none, or it is the same whatever came before
abbrev pub Youngest : (Entry → Bool) → ℕ → List Entry → Type 0
Youngest p least es = (filter p es ≡ []) ⊎ ((w : Entry) × ((least ≤ w.seq) × ((o : Option Entry) → last_or o (filter p es) ≡ Some w)))

pub youngest : (p : Entry → Bool) (least : ℕ) (es : List Entry) → AtLeast least es → Youngest p least es
youngest p least [] a = inl refl
youngest p least (e ∷ es) a = go (p e) refl (youngest p least es a.1)
  where
    go : (t : Bool) → p e ≡ t → Youngest p least es → Youngest p least (e ∷ es)
    go true q (inl n) = inr (e, (a.0, λ o. ap (λ t. last_or o (cond t (e ∷ filter p es) (filter p es))) q ∙ ap (λ xs. last_or (Some e) xs) n))
    go true q (inr x) = inr (x.0, (x.1.0, λ o. ap (λ t. last_or o (cond t (e ∷ filter p es) (filter p es))) q ∙ x.1.1 (Some e)))
    go false q (inl n) = inl (ap (λ t. cond t (e ∷ filter p es) (filter p es)) q ∙ n)
    go false q (inr x) = inr (x.0, (x.1.0, λ o. ap (λ t. last_or o (cond t (e ∷ filter p es) (filter p es))) q ∙ x.1.1 o))

-- it is among the older ones where its number is below those of the younger ones
pub older_is_youngest : (p : Entry → Bool) (least : ℕ) (xs ys : List Entry) → AtLeast least ys
    → ((w : Entry) → last_or None (filter p (xs ++ ys)) ≡ Some w → w.seq < least) → last_or None (filter p xs) ≡ last_or None (filter p (xs ++ ys))
older_is_youngest p least xs ys a h =
    let split : last_or None (filter p (xs ++ ys)) ≡ last_or (last_or None (filter p xs)) (filter p ys) =
    ap (λ zs. last_or None zs) (filter-append p xs ys) ∙ last_or_append None (filter p xs) (filter p ys) in
    ⊎_elim
    (λ n. sym (split ∙ ap (λ zs. last_or (last_or None (filter p xs)) zs) n))
    (λ x.
    let below : x.0.seq < least = h x.0 (split ∙ x.1.1 (last_or None (filter p xs))) in
    let least_is : least ≤ x.0.seq = x.1.0 in
    absurd (omega arith))
    (youngest p least ys a)

pub older_than_youngest : (p : Entry → Bool) (s least next : ℕ) (es : List Entry) → Rises least es next
    → ((w : Entry) → last_or None (filter p es) ≡ Some w → w.seq < s) → last_or None (filter p (older_than s es)) ≡ last_or None (filter p es)
older_than_youngest p s least next es r h =
    older_is_youngest p s (older_than s es) (drop (length (older_than s es)) es) (behind_older s least next es r)
    (λ w q. h w (sym (ap (λ xs. last_or None (filter p xs)) (parted s es)) ∙ q))
    ∙ ap (λ xs. last_or None (filter p xs)) (parted s es)

some_is : (a b : Entry) → Some a ≡ Some b → a ≡ b
some_is a b h = cc

no_some : (a : Entry) → None ≡ Some a → ⊥
no_some a h = cc

-- it is found by its number
found_from : (p : Entry → Bool) (least next : ℕ) (es : List Entry) (o : Option Entry) (w : Entry) → Rises least es next → last_or o (filter p es) ≡ Some w
    → (o ≡ Some w) ⊎ ((find (has_seq w.seq) es ≡ Some w) × (least ≤ w.seq))
found_from p least next [] o w r h = inl h
found_from p least next (e ∷ es) o w r h =
    go (p e) refl (λ k. found_from p (e.seq + 1) next es (Some e) w r.1 k) (λ k. found_from p (e.seq + 1) next es o w r.1 k)
  where
    Found : Type 0
    Found = (find (has_seq w.seq) (e ∷ es) ≡ Some w) × (least ≤ w.seq)

    later : (find (has_seq w.seq) es ≡ Some w) × (e.seq + 1 ≤ w.seq) → Found
    later x =
        let l : least ≤ e.seq = r.0 in
        let m : e.seq + 1 ≤ w.seq = x.1 in
        (ap (λ t. cond t (Some e) (find (has_seq w.seq) es)) (ne_eqb e.seq w.seq (λ q. absurd (omega (arith, q, m)))) ∙ x.0, omega arith)

    here : Some e ≡ Some w → Found
    here q =
        let same : e.seq ≡ w.seq = ap (λ (x : Entry). x.seq) (some_is e w q) in
        let l : least ≤ e.seq = r.0 in
        (ap (λ t. cond t (Some e) (find (has_seq w.seq) es)) (eq-eqb e.seq w.seq same) ∙ q, omega arith)

    go : (t : Bool) → p e ≡ t
        → (last_or (Some e) (filter p es) ≡ Some w → (Some e ≡ Some w) ⊎ ((find (has_seq w.seq) es ≡ Some w) × (e.seq + 1 ≤ w.seq)))
        → (last_or o (filter p es) ≡ Some w → (o ≡ Some w) ⊎ ((find (has_seq w.seq) es ≡ Some w) × (e.seq + 1 ≤ w.seq)))
        → (o ≡ Some w) ⊎ Found
    go true q f g =
        ⊎_elim (λ x. inr (here x)) (λ x. inr (later x)) (f (sym (ap (λ t. last_or o (cond t (e ∷ filter p es) (filter p es))) q) ∙ h))
    go false q f g =
        ⊎_elim (λ x. inl x) (λ x. inr (later x)) (g (sym (ap (λ t. last_or o (cond t (e ∷ filter p es) (filter p es))) q) ∙ h))

pub found_youngest : (p : Entry → Bool) (least next : ℕ) (es : List Entry) (w : Entry) → Rises least es next → last_or None (filter p es) ≡ Some w → find (has_seq w.seq) es ≡ Some w
found_youngest p least next es w r h =
    ⊎_elim (λ q. absurd (no_some w q)) (λ x. x.0) (found_from p least next es None w r h)

-- ---- the entry of a number

all_by : (P Q : Entry → Type 0) → ((e : Entry) → P e → Q e) → (es : List Entry) → AllByRecursion P es → AllByRecursion Q es
all_by P Q f [] a = tt
all_by P Q f (e ∷ es) a = (f e a.0, all_by P Q f es a.1)

-- no other has it
pub named_alone : (s least next : ℕ) (es : List Entry) (x : Entry) → Rises least es next → find (has_seq s) es ≡ Some x → AllByRecursion (λ e. has_seq s e ≡ true → e ≡ x) es
named_alone s least next [] x r h = tt
named_alone s least next (e ∷ es) x r h = go (has_seq s e) refl (λ k. named_alone s (e.seq + 1) next es x r.1 k)
  where
    Alone : Entry → Type 0
    Alone y = has_seq s y ≡ true → y ≡ x

    go : (t : Bool) → has_seq s e ≡ t → (find (has_seq s) es ≡ Some x → AllByRecursion Alone es) → AllByRecursion Alone (e ∷ es)
    go true q f =
        let it : Some e ≡ Some x = sym (ap (λ t. cond t (Some e) (find (has_seq s) es)) q) ∙ h in
        let same : e.seq ≡ s = eqb-true e.seq s q in (
          (λ _. some_is e x it),
          all_by (λ y. s + 1 ≤ y.seq) Alone (λ y l m. absurd (omega (arith, l, eqb-true y.seq s m))) es (at_least (s + 1) (e.seq + 1) next es (omega arith) r.1),
        )
    go false q f =
        let rest : find (has_seq s) es ≡ Some x = sym (ap (λ t. cond t (Some e) (find (has_seq s) es)) q) ∙ h in
        ((λ m. absurd (clash (sym q ∙ m))), f rest)
      where
        clash : false ≡ true → ⊥
        clash k = cc

pub none_named : (s : ℕ) (es : List Entry) → find (has_seq s) es ≡ None → AllByRecursion (λ e. has_seq s e ≡ false) es
none_named s [] h = tt
none_named s (e ∷ es) h = go (has_seq s e) refl (λ k. none_named s es k)
  where
    go : (t : Bool) → has_seq s e ≡ t → (find (has_seq s) es ≡ None → AllByRecursion (λ y. has_seq s y ≡ false) es) → AllByRecursion (λ y. has_seq s y ≡ false) (e ∷ es)
    go true q f = absurd (no_some e (sym (sym (ap (λ t. cond t (Some e) (find (has_seq s) es)) q) ∙ h)))
    go false q f = (q, f (sym (ap (λ t. cond t (Some e) (find (has_seq s) es)) q) ∙ h))
