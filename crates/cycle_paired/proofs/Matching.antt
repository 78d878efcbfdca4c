-- Live entries and their uses, one to one.
use Rattle.std.proofs.Common.{◌≡◌, ◌≢◌, ◌==◌, ◌&&◌, ◌++◌, ℕ, Bool, true, false, List, [], ◌∷◌, map, Some, refl, sym, ap, ◌∙◌, subst}
use Rattle.std.proofs.lemmas.Bool.{eqb-true, eq-eqb}
use Rattle.cycle_spec.specs.declared.entry.Entry.{Entry}
use Rattle.cycle_spec.specs.declared.use_of.Use.{Use}
use Rattle.cycle_spec.specs.Engine.{has_key, latest}
use Rattle.cycle_lists.specs.Lists.{Each, Pairs}
use Rattle.cycle_lists.proofs.Tests.{and-left, and-right, false-or}
use Rattle.cycle_lists.proofs.Every.{Each-from, Each-at, Each-passed, Pairs-younger}
use Rattle.cycle_lists.proofs.Filters.{filter-at, unfilter}
use Rattle.cycle_lists.proofs.Places.{last-at, map-at}
use Rattle.cycle_paired.specs.Paired.{is_live, live_entries, is_live_use, live_uses, Alike, Match, Older}
use Rattle.cycle_paired.proofs.Facts.{other-starts}

pub Match-append : (hart : ℕ) (xs ys : List Entry) (vs ws : List Use) → Match hart xs vs → Match hart ys ws → Match hart (xs ++ ys) (vs ++ ws)
Match-append hart [] ys [] ws m n = n
Match-append hart [] ys (v ∷ vs) ws m n = absurd m
Match-append hart (x ∷ xs) ys [] ws m n = absurd m
Match-append hart (x ∷ xs) ys (v ∷ vs) ws m n = (m.0, Match-append hart xs ys vs ws m.1 n)

-- around an entry
pub record Split (hart : ℕ) (xs : List Entry) (e : Entry) (ys : List Entry) (us : List Use) : Type 0 where
  pub left : List Use
  pub partner : Use
  pub right : List Use
  pub here : us ≡ left ++ partner ∷ right
  pub lefts : Match hart xs left
  pub alike : Alike hart e partner
  pub rights : Match hart ys right

pub split : (hart : ℕ) (xs : List Entry) (e : Entry) (ys : List Entry) (us : List Use) → Match hart (xs ++ e ∷ ys) us → Split hart xs e ys us
split hart [] e ys [] m = absurd m
split hart [] e ys (u ∷ us) m = record { left = []; partner = u; right = us; here = refl; lefts = tt; alike = m.0; rights = m.1 }
split hart (x ∷ xs) e ys [] m = absurd m
split hart (x ∷ xs) e ys (u ∷ us) m =
    let r = split hart xs e ys us m.1 in
    record { left = u ∷ r.left; partner = r.partner; right = r.right; here = ap (λ l. u ∷ l) r.here; lefts = (m.0, r.lefts); alike = r.alike; rights = r.rights }

-- around a use
pub record Joined (hart : ℕ) (es : List Entry) (vs : List Use) (u : Use) (ws : List Use) : Type 0 where
  pub older : List Entry
  pub entry : Entry
  pub younger : List Entry
  pub here : es ≡ older ++ entry ∷ younger
  pub lefts : Match hart older vs
  pub alike : Alike hart entry u
  pub rights : Match hart younger ws

pub joined : (hart : ℕ) (es : List Entry) (vs : List Use) (u : Use) (ws : List Use) → Match hart es (vs ++ u ∷ ws) → Joined hart es vs u ws
joined hart [] [] u ws m = absurd m
joined hart [] (v ∷ vs) u ws m = absurd m
joined hart (e ∷ es) [] u ws m = record { older = []; entry = e; younger = es; here = refl; lefts = tt; alike = m.0; rights = m.1 }
joined hart (e ∷ es) (v ∷ vs) u ws m =
    let r = joined hart es vs u ws m.1 in
    record { older = e ∷ r.older; entry = r.entry; younger = r.younger; here = ap (λ l. e ∷ l) r.here; lefts = (m.0, r.lefts); alike = r.alike; rights = r.rights }

-- what is said of each pair
pub Match-uses : (hart : ℕ) (P : Entry → Type 0) (Q : Use → Type 0) (es : List Entry) (us : List Use) → ((e : Entry) (u : Use) → Alike hart e u → P e → Q u) → Match hart es us → Each P es → Each Q us
Match-uses hart P Q [] [] k m h = tt
Match-uses hart P Q [] (u ∷ us) k m h = absurd m
Match-uses hart P Q (e ∷ es) [] k m h = absurd m
Match-uses hart P Q (e ∷ es) (u ∷ us) k m h = (k e u m.0 h.0, Match-uses hart P Q es us k m.1 h.1)

-- a change of both, by a fact of each entry and one of each use
pub Match-map : (hart : ℕ) (P : Entry → Type 0) (Q : Use → Type 0) (f : Entry → Entry) (h : Use → Use) (es : List Entry) (us : List Use)
    → ((e : Entry) (u : Use) → P e → Q u → Alike hart e u → Alike hart (f e) (h u)) → Each P es → Each Q us → Match hart es us → Match hart (map f es) (map h us)
Match-map hart P Q f h [] [] k p q m = tt
Match-map hart P Q f h [] (u ∷ us) k p q m = absurd m
Match-map hart P Q f h (e ∷ es) [] k p q m = absurd m
Match-map hart P Q f h (e ∷ es) (u ∷ us) k p q m = (k e u p.0 q.0 m.0, Match-map hart P Q f h es us k p.1 q.1 m.1)

pub Match-entries : (hart : ℕ) (f : Entry → Entry) (es : List Entry) (us : List Use) → ((e : Entry) (u : Use) → Alike hart e u → Alike hart (f e) u) → Match hart es us → Match hart (map f es) us
Match-entries hart f [] [] k m = tt
Match-entries hart f [] (u ∷ us) k m = absurd m
Match-entries hart f (e ∷ es) [] k m = absurd m
Match-entries hart f (e ∷ es) (u ∷ us) k m = (k e u m.0, Match-entries hart f es us k m.1)

-- ---- the latest use of a key, where keys differ

pub key-here : (hart id : ℕ) (u : Use) → u.key.hart ≡ hart → u.key.id ≡ id → has_key (record { hart = hart; id = id }) u ≡ true
key-here hart id u h i = ap (λ t. t && (u.key.id == id)) (eq-eqb u.key.hart hart h) ∙ eq-eqb u.key.id id i

pub key-other : (hart id : ℕ) (u : Use) → (u.key.hart ≡ hart → u.key.id ≡ id → ⊥) → has_key (record { hart = hart; id = id }) u ≡ false
key-other hart id u n = false-or (has_key (record { hart = hart; id = id }) u)
    (λ t. n (eqb-true u.key.hart hart (and-left (u.key.hart == hart) (u.key.id == id) t)) (eqb-true u.key.id id (and-right (u.key.hart == hart) (u.key.id == id) t)))

pub latest-at : (xs : List Use) (u : Use) (ys : List Use) (hart id : ℕ) → u.key.hart ≡ hart → u.key.id ≡ id → Each (Older u) ys → latest (record { hart = hart; id = id }) (xs ++ u ∷ ys) ≡ Some u
latest-at xs u ys hart id h i k =
    last-at (has_key (record { hart = hart; id = id })) xs u ys (key-here hart id u h i)
    (Each-from (Older u) (λ v. has_key (record { hart = hart; id = id }) v ≡ false) ys (λ v o. key-other hart id v (λ a b. o.apart (h ∙ sym a) (i ∙ sym b))) k)

-- a live entry's use
pub record Found (hart : ℕ) (answered : ℕ → Bool) (older : List Entry) (p : Entry) (younger : List Entry) (us : List Use) : Type 0 where
  pub front : List Use
  pub partner : Use
  pub back : List Use
  pub here : us ≡ front ++ partner ∷ back
  pub lefts : Match hart (live_entries older) (live_uses answered front)
  pub alike : Alike hart p partner
  pub rights : Match hart (live_entries younger) (live_uses answered back)
  pub live_is : is_live_use answered partner ≡ true
  pub is_it : latest (record { hart = hart; id = p.id }) us ≡ Some partner

pub found : (hart : ℕ) (answered : ℕ → Bool) (older : List Entry) (p : Entry) (younger : List Entry) (us : List Use) → is_live p ≡ true → Pairs Older us → Match hart (live_entries (older ++ p ∷ younger)) (live_uses answered us)
    → Found hart answered older p younger us
found hart answered older p younger us l pairs m =
    let s = split hart (live_entries older) p (live_entries younger) (live_uses answered us) (subst (λ es. Match hart es (live_uses answered us)) (filter-at is_live older p younger l) m) in
    let f = unfilter (is_live_use answered) us s.left s.partner s.right s.here in
    let pairs' : Pairs Older (f.front ++ s.partner ∷ f.back) = subst (Pairs Older) f.here pairs in
    record {
      front = f.front;
      partner = s.partner;
      back = f.back;
      here = f.here;
      lefts = subst (Match hart (live_entries older)) (sym f.fronts) s.lefts;
      alike = s.alike;
      rights = subst (Match hart (live_entries younger)) (sym f.backs) s.rights;
      live_is = Each-at (λ u. is_live_use answered u ≡ true) (live_uses answered us) s.left s.partner s.right s.here (Each-passed (is_live_use answered) us);
      is_it = ap (latest (record { hart = hart; id = p.id })) f.here ∙ latest-at f.front s.partner f.back hart p.id s.alike.hart_is s.alike.id (Pairs-younger Older f.front s.partner f.back pairs');
    }

-- a change by the start is a change of one use
pub change-use : (f : Use → Use) (xs : List Use) (u : Use) (ys : List Use) → ((x : Use) → x.start ≢ u.start → f x ≡ x) → Pairs Older (xs ++ u ∷ ys) → map f (xs ++ u ∷ ys) ≡ xs ++ f u ∷ ys
change-use f xs u ys k h =
    let o = other-starts xs u ys h in
    map-at f xs u ys (Each-from (λ x. x.start ≢ u.start) (λ x. f x ≡ x) xs k o.0) (Each-from (λ x. x.start ≢ u.start) (λ x. f x ≡ x) ys k o.1)
