-- Steps of loops over entries.
use Rattle.std.proofs.Common.{◌≡◌, ◌<◌, ◌+◌, ◌-◌, ◌++◌, ℕ, suc, zero, Bool, true, false, List, Option, [], ◌∷◌, Some, length, take, drop, map, get_or, set, ap, sym, ◌∙◌, arith, drop-cons}
use Rattle.std.specs.Prelude.{slice_get, find, filter, cond}
use Rattle.std.specs.List.{range_with_len, last_or}
use Rattle.std.proofs.lemmas.List.{take_more}
use Rattle.std.proofs.lemmas.Option.{slice_get_within, get_or_from_slice_get}
use Rattle.std.proofs.lemmas.Grind.{common_steps}
use Rattle.circular_buffer.specs.Buffer.{Buffer, buffer}
use Rattle.cycle_spec.specs.declared.entry.Entry.{Entry}

mapped_suc : {X : Type 0} (f : X → X) (xs : List X) (i : ℕ) (d : X) → i < length xs → set (map f (take i xs) ++ drop i xs) i (f (get_or (map f (take i xs) ++ drop i xs) i d)) ≡ map f (take (suc i) xs) ++ drop (suc i) xs
mapped_suc f [] i d h = grind arith
mapped_suc f (x ∷ xs) zero d h = grind (arith, common_steps)
mapped_suc f (x ∷ xs) (suc i) d h = ap (λ l. f x ∷ l) (mapped_suc f xs i d (omega arith))

-- one more entry is changed
pub mapped_more : {X : Type 0} (f : X → X) (xs ys : List X) (i : ℕ) (d : X) → i < length xs → ys ≡ map f (take i xs) ++ drop i xs → set ys i (f (get_or ys i d)) ≡ map f (take (i + 1) xs) ++ drop (i + 1) xs
mapped_more f xs ys i d h e =
    let next : suc i ≡ i + 1 = omega arith in
    ap (λ l. set l i (f (get_or l i d))) e ∙ mapped_suc f xs i d h ∙ ap (λ n. map f (take n xs) ++ drop n xs) next

-- likewise in a ring
pub changed_more : {X : Type 0} (f : X → X) (old ring : Buffer X) (i : ℕ) (x y : X) → i < length old.items → ring ≡ buffer (map f (take i old.items) ++ drop i old.items) old.capacity → slice_get ring.items i ≡ Some x → y ≡ f x
    → buffer (set ring.items i y) ring.capacity ≡ buffer (map f (take (i + 1) old.items) ++ drop (i + 1) old.items) old.capacity
changed_more f old ring i x y h e found changed =
    let items : ring.items ≡ map f (take i old.items) ++ drop i old.items = ap (λ r. r.items) e in
    let it : get_or ring.items i x ≡ x = get_or_from_slice_get ring.items i x x found in
    let more = ap (set ring.items i) (changed ∙ ap f (sym it)) ∙ mapped_more f old.items ring.items i x h items in
    ap (λ xs. buffer xs ring.capacity) more ∙ ap (λ r. buffer (map f (take (i + 1) old.items) ++ drop (i + 1) old.items) r.capacity) e

-- an entry with those behind it, and with those before it
pub drop_at : (xs : List Entry) (i : ℕ) (x : Entry) → slice_get xs i ≡ Some x → drop i xs ≡ x ∷ drop (i + 1) xs
drop_at xs i x e =
    let within : i < length xs = slice_get_within xs i x e in
    let it : get_or xs i x ≡ x = get_or_from_slice_get xs i x x e in
    let next : suc i ≡ i + 1 = omega arith in
    drop-cons xs i x within ∙ ap (λ y. y ∷ drop (suc i) xs) it ∙ ap (λ n. x ∷ drop n xs) next

pub take_at : (xs : List Entry) (i : ℕ) (x : Entry) → slice_get xs i ≡ Some x → take (i + 1) xs ≡ take i xs ++ x ∷ []
take_at xs i x e =
    let within : i < length xs = slice_get_within xs i x e in
    let it : get_or xs i x ≡ x = get_or_from_slice_get xs i x x e in
    take_more xs i x within ∙ ap (λ y. take i xs ++ y ∷ []) it

-- a number that fails the test is passed
passed : (p : ℕ → Bool) (n : ℕ) (ns : List ℕ) → p n ≡ false → find p (n ∷ ns) ≡ find p ns
passed p n ns h = ap (λ t. cond t (Some n) (find p ns)) h

pub find_later : (p : ℕ → Bool) (n m : ℕ) → n < m → p n ≡ false → find p (range_with_len n (m - n)) ≡ find p (range_with_len (n + 1) (m - (n + 1)))
find_later p n m l h =
    let e : m - n ≡ suc (m - (n + 1)) = omega arith in
    ap (λ k. find p (range_with_len n k)) e ∙ passed p n _ h

-- the last element that passes a test, where the very last one does
pub last_hit : (p : Entry → Bool) (o : Option Entry) (xs : List Entry) (x : Entry) → p x ≡ true → last_or o (filter p (xs ++ x ∷ [])) ≡ Some x
last_hit p o [] x h = ap (λ t. last_or o (cond t (x ∷ []) [])) h
last_hit p o (y ∷ ys) x h = grind (arith, last_hit p (Some y) ys x h, last_hit p o ys x h)
