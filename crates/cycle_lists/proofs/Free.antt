-- The id of the next dispatch is free, and no more than the number of entries.
use Rattle.std.proofs.Common.{◌≡◌, ◌≢◌, ◌<◌, ◌≤◌, ◌+◌, ◌==◌, ◌&&◌, ◌||◌, not, ℕ, zero, suc, Bool, true, false, cond, Option, Some, List, [], ◌∷◌, length, refl, sym, ap, ◌∙◌, subst, arith}
use Rattle.std.specs.Prelude.{find, unwrap_or}
use Rattle.std.specs.List.{list_any, range_with_len}
use Rattle.std.proofs.lemmas.Bool.Decides.{nat_tests}
use Rattle.std.proofs.lemmas.Bool.{eqb-true, ne_eqb}
use Rattle.cycle_spec.specs.declared.entry.Entry.{Entry}
use Rattle.cycle_spec.specs.Flight.{is_unknown, holds_id, free_id}
use Rattle.cycle_lists.specs.Lists.{Each}
use Rattle.cycle_lists.specs.Order.{IsFree}
use Rattle.cycle_lists.proofs.Tests.{not-both, and-right}

abbrev is_held : ℕ → List Entry → Bool
is_held id es = list_any (holds_id id) es

-- the first of some ids from one on that is free
abbrev free_from : (first count : ℕ) → List Entry → Option ℕ
free_from n k es = find (λ id. not (is_held id es)) (range_with_len n k)

-- ---- the entries without those of an id

abbrev without : ℕ → List Entry → List Entry
without n [] = []
without n (e ∷ es) = cond (holds_id n e) (without n es) (e ∷ without n es)

other-held : (n m : ℕ) (e : Entry) → m ≢ n → holds_id n e ≡ true → holds_id m e ≡ false
other-held n m e h k =
    let same : e.id ≡ n = eqb-true e.id n (and-right (is_unknown e) (e.id == n) k) in
    ap (λ t. is_unknown e && t) (ne_eqb e.id m (λ q. h (sym q ∙ same))) ∙ go (is_unknown e)
  where
    go : (b : Bool) → (b && false) ≡ false
    go true = refl
    go false = refl

without-holds : (n m : ℕ) (es : List Entry) → m ≢ n → is_held m (without n es) ≡ is_held m es
without-holds n m [] h = refl
without-holds n m (e ∷ es) h = go (holds_id n e) refl (without-holds n m es h)
  where
    go : (t : Bool) → holds_id n e ≡ t → is_held m (without n es) ≡ is_held m es → is_held m (cond t (without n es) (e ∷ without n es)) ≡ (holds_id m e || is_held m es)
    go true q ih = ih ∙ ap (λ b. b || is_held m es) (sym (other-held n m e h q))
    go false q ih = ap (λ b. holds_id m e || b) ih

without-length : (n : ℕ) (es : List Entry) → length (without n es) ≤ length es
without-length n [] = omega arith
without-length n (e ∷ es) = go (holds_id n e) (without-length n es)
  where
    go : (t : Bool) → length (without n es) ≤ length es → length (cond t (without n es) (e ∷ without n es)) ≤ suc (length es)
    go true l = omega arith
    go false l = omega arith

without-less : (n : ℕ) (es : List Entry) → is_held n es ≡ true → length (without n es) < length es
without-less n [] h = cc
without-less n (e ∷ es) h = go (holds_id n e) h (without-length n es) (λ k. without-less n es k)
  where
    go : (t : Bool) → (t || is_held n es) ≡ true → length (without n es) ≤ length es → (is_held n es ≡ true → length (without n es) < length es) → length (cond t (without n es) (e ∷ without n es)) < suc (length es)
    go true k l r = omega arith
    go false k l r = let l' = r k in omega arith

free_without : (n m k : ℕ) (es : List Entry) → n < m → free_from m k (without n es) ≡ free_from m k es
free_without n m zero es h = refl
free_without n m (suc k) es h =
    ap (λ t. cond (not t) (Some m) (free_from (m + 1) k (without n es))) (without-holds n m es (λ q. absurd (omega arith)))
    ∙ ap (λ r. cond (not (is_held m es)) (Some m) r) (free_without n (m + 1) k es (omega arith))

-- ---- among more ids than there are entries one is free

record Frees (n k : ℕ) (es : List Entry) : Type 0 where
  pub id : ℕ
  pub found : free_from n k es ≡ Some id
  pub free : is_held id es ≡ false
  pub above : n ≤ id
  pub below : id < n + k

frees : (k n : ℕ) (es : List Entry) → length es < k → Frees n k es
frees zero n es h = absurd (omega arith)
frees (suc k) n es h = go (is_held n es) refl (λ short. frees k (n + 1) (without n es) short)
  where
    go : (t : Bool) → is_held n es ≡ t → (length (without n es) < k → Frees (n + 1) k (without n es)) → Frees n (suc k) es
    go false q ih = record {
      id = n;
      found = ap (λ t. cond (not t) (Some n) (free_from (n + 1) k es)) q;
      free = q;
      above = omega arith;
      below = omega arith;
    }
    go true q ih =
        let less : length (without n es) < length es = without-less n es q in
        let f = ih (omega arith) in
        let up : n + 1 ≤ f.id = f.above in
        let low : f.id < n + 1 + k = f.below in
        record {
          id = f.id;
          found = ap (λ t. cond (not t) (Some n) (free_from (n + 1) k es)) q ∙ sym (free_without n (n + 1) k es (omega arith)) ∙ f.found;
          free = sym (without-holds n f.id es (λ e. absurd (omega arith))) ∙ f.free;
          above = omega arith;
          below = omega arith;
        }

each-free : (id : ℕ) (es : List Entry) → is_held id es ≡ false → Each (IsFree id) es
each-free id [] h = tt
each-free id (e ∷ es) h = go (holds_id id e) refl h (λ k. each-free id es k)
  where
    go : (t : Bool) → holds_id id e ≡ t → (t || is_held id es) ≡ false → (is_held id es ≡ false → Each (IsFree id) es) → Each (IsFree id) (e ∷ es)
    go true q k r = cc
    go false q k r = (record { other = λ u i. absurd (not-both (holds_id id e) q (holds u i)) }, r k)
      where
        holds : is_unknown e ≡ true → e.id ≡ id → holds_id id e ≡ true
        holds u i = rw (u, i) (same id)
          where
            same : (n : ℕ) → (n == n) ≡ true
            same n = grind (arith, nat_tests)

pub record Free (es : List Entry) : Type 0 where
  pub each : Each (IsFree (free_id es)) es
  pub below : free_id es ≤ length es

pub free : (es : List Entry) → Free es
free es =
    let f = frees (length es + 1) 0 es (omega arith) in
    let id_is : free_id es ≡ f.id = ap (λ o. unwrap_or o 0) f.found in
    let low : f.id < 0 + (length es + 1) = f.below in
    record {
      each = subst (λ n. Each (IsFree n) es) (sym id_is) (each-free f.id es f.free);
      below = omega arith;
    }

pub free_below : (es : List Entry) (window : ℕ) → length es < window → free_id es < window
free_below es window room = let l : free_id es ≤ length es = (free es).below in omega arith
