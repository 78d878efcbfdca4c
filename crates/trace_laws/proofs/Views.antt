-- A register that is there for an instruction in flight stays as it is, whatever else goes on.
use Rattle.std.proofs.Common.{◌≡◌, ◌≢◌, ◌++◌, ◌==◌, ◌&&◌, ◌||◌, not, ℕ, zero, suc, Bool, true, false, if◌then◌else◌, Option, Some, None, List, [], ◌∷◌, map, take, filter, length, slice_index, refl, sym, ap, ◌∙◌, subst, arith}
use Rattle.std.specs.List.{list_any, last_or}
use Rattle.std.proofs.lemmas.Bool.{eqb-true}
use Rattle.std.proofs.lemmas.List.{map-append}
use Rattle.inorder_machine.specs.Machine.{register_in, registers_after}
use Rattle.cycle_spec.specs.declared.entry.Entry.{Entry}
use Rattle.cycle_spec.specs.declared.entry.Operand.TheVariants.{Here, NotYet}
use Rattle.cycle_spec.specs.Flight.{has_seq, older_than, may_write, may_write_kind, youngest_writer, value_in, operand_from, operand_behind, operand_at}
use Rattle.cycle_lists.specs.Lists.{Each, LastAt}
use Rattle.cycle_lists.specs.Order.{Before}
use Rattle.cycle_lists.proofs.Tests.{or-right, or-cases, not-both, false-or}
use Rattle.cycle_lists.proofs.Every.{Each-at, Each-back}
use Rattle.cycle_lists.proofs.Places.{any-none, last-found, last-at, no-last}
use Rattle.ahead_laws.proofs.Writes.{Within}
use Rattle.trace_laws.proofs.Uses.{none-last}

-- ---- where the value of a register comes from

pub data Source (dual : Bool) (registers : List ℕ) (es : List Entry) (r v : ℕ) : Type 0 where
  OfFile : Each (λ x. may_write dual r x ≡ false) es → register_in registers r ≡ v → Source dual registers es r v
  OfEntry : (y : Entry) → LastAt (may_write dual r) es y → y.done ≡ true → value_in y.write r ≡ v → Source dual registers es r v

here-is : (a b : ℕ) → Here a ≡ Here b → a ≡ b
here-is a b h = cc

pub source-in : (dual : Bool) (registers : List ℕ) (es : List Entry) (r v : ℕ) → operand_behind dual registers es r ≡ Here v → Source dual registers es r v
source-in dual registers es r v h = go (youngest_writer dual es r) refl h
  where
    by : (y : Entry) (d : Bool) → y.done ≡ d → (if d then Here (value_in y.write r) else NotYet) ≡ Here v → (y.done ≡ true) × (value_in y.write r ≡ v)
    by y true q k = (q, here-is (value_in y.write r) v k)
    by y false q k = cc

    go : (o : Option Entry) → youngest_writer dual es r ≡ o → operand_from registers o r ≡ Here v → Source dual registers es r v
    go None q k = OfFile (any-none (may_write dual r) es (none-last (may_write dual r) es q)) (here-is (register_in registers r) v k)
    go (Some y) q k = let b = by y y.done refl k in OfEntry y (last-found (may_write dual r) es y q) b.0 b.1

pub source-out : (dual : Bool) (registers : List ℕ) (es : List Entry) (r v : ℕ) → Source dual registers es r v → operand_behind dual registers es r ≡ Here v
source-out dual registers es r v (OfFile n q) = ap (λ o. operand_from registers o r) (no-last (may_write dual r) es n) ∙ ap Here q
source-out dual registers es r v (OfEntry y l d q) =
    ap (λ o. operand_from registers o r) (ap (λ xs. last_or None (filter (may_write dual r) xs)) l.here ∙ last-at (may_write dual r) l.older y l.younger l.passes l.others)
    ∙ ap (λ t. if t then Here (value_in y.write r) else NotYet) d ∙ ap Here q

-- ---- a change of each entry

-- it may write no more than before, and once it is done, it is as it was
pub record Steady (dual : Bool) (f : Entry → Entry) (x : Entry) : Type 0 where
  pub may : (r : ℕ) → may_write dual r (f x) ≡ true → may_write dual r x ≡ true
  pub done : x.done ≡ true → (f x).done ≡ true
  pub write : x.done ≡ true → (f x).write ≡ x.write
  pub same : x.done ≡ true → (r : ℕ) → may_write dual r (f x) ≡ may_write dual r x

source-map : (dual : Bool) (registers : List ℕ) (f : Entry → Entry) (es : List Entry) (r v : ℕ) → Each (Steady dual f) es → Source dual registers es r v → Source dual registers (map f es) r v
source-map dual registers f es r v s (OfFile n q) =
    OfFile (Each-both-map es s n) q
  where
    Each-both-map : (xs : List Entry) → Each (Steady dual f) xs → Each (λ x. may_write dual r x ≡ false) xs → Each (λ x. may_write dual r x ≡ false) (map f xs)
    Each-both-map [] a b = tt
    Each-both-map (x ∷ xs) a b = (false-or (may_write dual r (f x)) (λ h. not-both (may_write dual r x) b.0 (a.0.may r h)), Each-both-map xs a.1 b.1)
source-map dual registers f es r v s (OfEntry y l d q) =
    let all : Each (Steady dual f) (l.older ++ y ∷ l.younger) = subst (Each (Steady dual f)) l.here s in
    let own = Each-at (Steady dual f) es l.older y l.younger l.here s in
    OfEntry (f y) (record {
      older = map f l.older;
      younger = map f l.younger;
      here = ap (map f) l.here ∙ map-append f l.older (y ∷ l.younger);
      passes = own.same d r ∙ l.passes;
      others = younger l.younger (Each-back (Steady dual f) l.older (y ∷ l.younger) all).1 l.others;
    }) (own.done d) (ap (λ w. value_in w r) (own.write d) ∙ q)
  where
    younger : (xs : List Entry) → Each (Steady dual f) xs → Each (λ x. may_write dual r x ≡ false) xs → Each (λ x. may_write dual r x ≡ false) (map f xs)
    younger [] a b = tt
    younger (x ∷ xs) a b = (false-or (may_write dual r (f x)) (λ h. not-both (may_write dual r x) b.0 (a.0.may r h)), younger xs a.1 b.1)

-- ---- a retirement

-- what an entry writes is what it may write
abbrev pub Wrote : Bool → Entry → Type 0
Wrote dual e = (r : ℕ) (registers : List ℕ) → length registers ≡ 32 → Within (may_write_kind dual e.kind e r) r registers e.write

record Left (dual : Bool) (registers : List ℕ) (e : Entry) (r : ℕ) : Type 0 where
  pub stays : may_write dual r e ≡ false → register_in (registers_after registers e.write) r ≡ register_in registers r
  pub shows : may_write dual r e ≡ true → register_in (registers_after registers e.write) r ≡ value_in e.write r

left : (dual : Bool) (registers : List ℕ) (e : Entry) (r : ℕ) → length registers ≡ 32 → Wrote dual e → Left dual registers e r
left dual registers e r n w = go (r == 0) refl
  where
    x : Within (may_write_kind dual e.kind e r) r registers e.write
    x = w r registers n

    go : (z : Bool) → (r == 0) ≡ z → Left dual registers e r
    go true z = record {
      stays = λ h. ap (λ t. if t then 0 else slice_index (registers_after registers e.write) r) z ∙ ap (λ t. if t then 0 else slice_index registers r) (sym z);
      shows = λ h. let bad : false ≡ true = ap (λ t. not t && may_write_kind dual e.kind e r) (sym z) ∙ h in cc;
    }
    go false z = record {
      stays = λ h. ap (λ t. if t then 0 else slice_index (registers_after registers e.write) r) z ∙ x.stays (ap (λ t. not t && may_write_kind dual e.kind e r) (sym z) ∙ h) ∙ ap (λ t. if t then 0 else slice_index registers r) (sym z);
      shows = λ h. ap (λ t. if t then 0 else slice_index (registers_after registers e.write) r) z ∙ x.shows (ap (λ t. not t && may_write_kind dual e.kind e r) (sym z) ∙ h);
    }

source-retired : (dual : Bool) (registers : List ℕ) (e : Entry) (es : List Entry) (r v : ℕ) → Left dual registers e r → Source dual registers (e ∷ es) r v → Source dual (registers_after registers e.write) es r v
source-retired dual registers e es r v w (OfFile n q) = OfFile n.1 (w.stays n.0 ∙ q)
source-retired dual registers e es r v w (OfEntry y l d q) = go l.older l.here
  where
    go : (xs : List Entry) → e ∷ es ≡ xs ++ y ∷ l.younger → Source dual (registers_after registers e.write) es r v
    go [] h =
        let same : e ≡ y = cc in
        let rest : es ≡ l.younger = cc in
        OfFile (subst (Each (λ x. may_write dual r x ≡ false)) (sym rest) l.others) (w.shows (ap (may_write dual r) same ∙ l.passes) ∙ ap (λ z. value_in z.write r) same ∙ q)
    go (x ∷ xs) h =
        let rest : es ≡ xs ++ y ∷ l.younger = cc in
        OfEntry y (record { older = xs; younger = l.younger; here = rest; passes = l.passes; others = l.others }) d q

-- ---- for the entry of a number

abbrev pub has : ℕ → List Entry → Bool
has s es = list_any (has_seq s) es

-- where it is still in flight, the registers that were there for it are there
pub record Stays (dual : Bool) (s : ℕ) (registers : List ℕ) (es : List Entry) (registers' : List ℕ) (es' : List Entry) : Type 0 where
  pub there : has s es' ≡ true → has s es ≡ true
  pub view : has s es' ≡ true → (r v : ℕ) → operand_at dual registers es s r ≡ Here v → operand_at dual registers' es' s r ≡ Here v

pub stays-same : (dual : Bool) (s : ℕ) (registers : List ℕ) (es : List Entry) → Stays dual s registers es registers es
stays-same dual s registers es = record { there = λ h. h; view = λ h r v q. q }

pub stays-then : (dual : Bool) (s : ℕ) (ra : List ℕ) (a : List Entry) (rb : List ℕ) (b : List Entry) (rc : List ℕ) (c : List Entry) → Stays dual s ra a rb b → Stays dual s rb b rc c → Stays dual s ra a rc c
stays-then dual s ra a rb b rc c x y = record { there = λ h. x.there (y.there h); view = λ h r v q. y.view h r v (x.view (y.there h) r v q) }

has-map : (s : ℕ) (f : Entry → Entry) (es : List Entry) → ((x : Entry) → (f x).seq ≡ x.seq) → has s (map f es) ≡ has s es
has-map s f [] k = refl
has-map s f (x ∷ xs) k = ap (λ n. (n == s) || has s (map f xs)) (k x) ∙ ap (λ t. has_seq s x || t) (has-map s f xs k)

older-map : (s : ℕ) (f : Entry → Entry) (es : List Entry) → ((x : Entry) → (f x).seq ≡ x.seq) → older_than s (map f es) ≡ map f (older_than s es)
older-map s f [] k = refl
older-map s f (x ∷ xs) k = ap (λ n. if n == s then [] else f x ∷ older_than s (map f xs)) (k x) ∙ ap (λ l. if has_seq s x then [] else f x ∷ l) (older-map s f xs k) ∙ go (has_seq s x)
  where
    go : (t : Bool) → (if t then [] else f x ∷ map f (older_than s xs)) ≡ map f (if t then [] else x ∷ older_than s xs)
    go true = refl
    go false = refl

pub Each-older : (P : Entry → Type 0) (s : ℕ) (es : List Entry) → Each P es → Each P (older_than s es)
Each-older P s [] h = tt
Each-older P s (x ∷ xs) h = go (has_seq s x) (Each-older P s xs h.1)
  where
    go : (t : Bool) → Each P (older_than s xs) → Each P (if t then [] else x ∷ older_than s xs)
    go true r = tt
    go false r = (h.0, r)

pub stays-map : (dual : Bool) (s : ℕ) (registers : List ℕ) (f : Entry → Entry) (es : List Entry) → ((x : Entry) → (f x).seq ≡ x.seq) → Each (Steady dual f) es → Stays dual s registers es registers (map f es)
stays-map dual s registers f es k e = record {
  there = λ h. sym (has-map s f es k) ∙ h;
  view = λ h r v q.
      ap (λ l. operand_behind dual registers l r) (older-map s f es k)
      ∙ source-out dual registers (map f (older_than s es)) r v (source-map dual registers f (older_than s es) r v (Each-older (Steady dual f) s es e) (source-in dual registers (older_than s es) r v q));
}

has-take : (s n : ℕ) (es : List Entry) → has s (take n es) ≡ true → (has s es ≡ true) × (older_than s (take n es) ≡ older_than s es)
has-take s zero es h = cc
has-take s (suc n) [] h = cc
has-take s (suc n) (x ∷ xs) h = go (has_seq s x) h (has-take s n xs)
  where
    go : (t : Bool) → (t || has s (take n xs)) ≡ true → (has s (take n xs) ≡ true → (has s xs ≡ true) × (older_than s (take n xs) ≡ older_than s xs))
        → ((t || has s xs) ≡ true) × ((if t then [] else x ∷ older_than s (take n xs)) ≡ (if t then [] else x ∷ older_than s xs))
    go true k ih = (refl, refl)
    go false k ih = let r = ih k in (r.0, ap (λ l. x ∷ l) r.1)

pub stays-take : (dual : Bool) (s n : ℕ) (registers : List ℕ) (es : List Entry) → Stays dual s registers es registers (take n es)
stays-take dual s n registers es = record { there = λ h. (has-take s n es h).0; view = λ h r v q. ap (λ l. operand_behind dual registers l r) (has-take s n es h).1 ∙ q }

has-push : (s : ℕ) (es : List Entry) (y : Entry) → y.seq ≢ s → has s (es ++ y ∷ []) ≡ true → (has s es ≡ true) × (older_than s (es ++ y ∷ []) ≡ older_than s es)
has-push s [] y n h = or-cases (has_seq s y) false _ h (λ q. absurd (n (eqb-true y.seq s q))) (λ q. cc)
has-push s (x ∷ xs) y n h = go (has_seq s x) h (has-push s xs y n)
  where
    go : (t : Bool) → (t || has s (xs ++ y ∷ [])) ≡ true → (has s (xs ++ y ∷ []) ≡ true → (has s xs ≡ true) × (older_than s (xs ++ y ∷ []) ≡ older_than s xs))
        → ((t || has s xs) ≡ true) × ((if t then [] else x ∷ older_than s (xs ++ y ∷ [])) ≡ (if t then [] else x ∷ older_than s xs))
    go true k ih = (refl, refl)
    go false k ih = let r = ih k in (r.0, ap (λ l. x ∷ l) r.1)

pub stays-push : (dual : Bool) (s : ℕ) (registers : List ℕ) (es : List Entry) (y : Entry) → y.seq ≢ s → Stays dual s registers es registers (es ++ y ∷ [])
stays-push dual s registers es y n = record { there = λ h. (has-push s es y n h).0; view = λ h r v q. ap (λ l. operand_behind dual registers l r) (has-push s es y n h).1 ∙ q }

-- numbers differ
none-later : (s : ℕ) (e : Entry) (es : List Entry) → Each (Before e) es → e.seq ≡ s → has s es ≡ true → ⊥
none-later s e [] b q h = cc
none-later s e (x ∷ xs) b q h =
    or-cases (has_seq s x) (has s xs) ⊥ h (λ t. let r = b.0.rises in let k : x.seq ≡ s = eqb-true x.seq s t in omega (arith, r, k, q)) (λ t. none-later s e xs b.1 q t)

pub stays-retired : (dual : Bool) (s : ℕ) (registers : List ℕ) (e : Entry) (es : List Entry) → length registers ≡ 32 → Wrote dual e → Each (Before e) es → Stays dual s registers (e ∷ es) (registers_after registers e.write) es
stays-retired dual s registers e es n w b = record {
  there = λ h. or-right (has_seq s e) (has s es) h;
  view = λ h r v q.
      let other : has_seq s e ≡ false = false-or (has_seq s e) (λ t. none-later s e es b (eqb-true e.seq s t) h) in
      let old : operand_behind dual registers (e ∷ older_than s es) r ≡ Here v = ap (λ t. operand_behind dual registers (if t then [] else e ∷ older_than s es) r) (sym other) ∙ q in
      source-out dual (registers_after registers e.write) (older_than s es) r v (source-retired dual registers e (older_than s es) r v (left dual registers e r n w) (source-in dual registers (e ∷ older_than s es) r v old));
}
