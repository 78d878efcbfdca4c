-- The youngest writer of a register, under the changes of the entries.
use Rattle.std.proofs.Common.{◌≡◌, ◌≢◌, ◌<◌, ◌≤◌, ◌+◌, ◌==◌, ◌&&◌, not, ◌++◌, ℕ, Bool, true, false, if◌then◌else◌, cond, Option, Some, None, List, [], ◌∷◌, take, drop, map, inl, inr, refl, sym, ap, ◌∙◌, subst, arith}
use Rattle.std.specs.Prelude.{filter}
use Rattle.std.specs.List.{last_or, AllByRecursion}
use Rattle.std.specs.Option.{option_map, option_map_or}
use Rattle.std.proofs.lemmas.Bool.{eq-eqb, ne_eqb}
use Rattle.std.proofs.lemmas.List.{take-append-drop}
use Rattle.rv32_table.specs.declared.instr.Instr.{Instr}
use Rattle.rv32_table.specs.Instr.{target_of, rd_field}
use Rattle.rv32_table.specs.Table.{row_line}
use Rattle.xif_session.specs.declared.fact.Response.{Response}
use Rattle.cycle_spec.specs.declared.entry.Entry.{Entry}
use Rattle.cycle_spec.specs.declared.entry.EntryKind.{EntryKind}
use Rattle.cycle_spec.specs.declared.entry.EntryKind.TheVariants.{Local, Unknown, Nowhere}
use Rattle.cycle_spec.specs.Flight.{is_unknown_kind, has_seq, may_write, may_write_kind, may_write_word, with_response, count_through}
use Rattle.flight_table.specs.Table.{writer_of}
use Rattle.flight_table.specs.Index.{Rises, first_target, first_target_by, forgotten}
use Rattle.flight_table.proofs.Scans.{last_hit}
use Rattle.flight_table.proofs.Order.{at_least, youngest, Youngest, older_is_youngest, behind_cut}

-- ---- a new youngest entry

pub last_miss : (p : Entry → Bool) (o : Option Entry) (xs : List Entry) (x : Entry) → p x ≡ false → last_or o (filter p (xs ++ x ∷ [])) ≡ last_or o (filter p xs)
last_miss p o [] x h = ap (λ t. last_or o (cond t (x ∷ []) [])) h
last_miss p o (y ∷ ys) x h = grind (arith, last_miss p (Some y) ys x h, last_miss p o ys x h)

pub writer_pushed : (dual_write : Bool) (es : List Entry) (e : Entry) (r : ℕ) → writer_of dual_write (es ++ e ∷ []) r ≡ (if may_write dual_write r e then Some e.seq else writer_of dual_write es r)
writer_pushed dual_write es e r = go (may_write dual_write r e) refl
  where
    go : (t : Bool) → may_write dual_write r e ≡ t → writer_of dual_write (es ++ e ∷ []) r ≡ (if t then Some e.seq else writer_of dual_write es r)
    go true q = ap (λ o. option_map (λ (x : Entry). x.seq) o) (last_hit (may_write dual_write r) None es e q)
    go false q = ap (λ o. option_map (λ (x : Entry). x.seq) o) (last_miss (may_write dual_write r) None es e q)

-- ---- the oldest is gone

other_is_kept : (a b : ℕ) → b < a → forgotten b (Some a) ≡ Some a
other_is_kept a b l = ap (λ t. if t then None else Some a) (ne_eqb a b (λ q. absurd (omega (arith, q))))

pub writer_dropped : (dual_write : Bool) (least next : ℕ) (e : Entry) (es : List Entry) (r : ℕ) → Rises least (e ∷ es) next → writer_of dual_write es r ≡ forgotten e.seq (writer_of dual_write (e ∷ es) r)
writer_dropped dual_write least next e es r h =
    go (p e) refl (youngest p (e.seq + 1) es (at_least (e.seq + 1) (e.seq + 1) next es (omega arith) h.1))
  where
    p : Entry → Bool
    p = may_write dual_write r

    seq : Option Entry → Option ℕ
    seq o = option_map (λ (x : Entry). x.seq) o

    whole : (t : Bool) → p e ≡ t → forgotten e.seq (writer_of dual_write (e ∷ es) r) ≡ forgotten e.seq (seq (last_or None (cond t (e ∷ filter p es) (filter p es))))
    whole t q = ap (λ b. forgotten e.seq (seq (last_or None (cond b (e ∷ filter p es) (filter p es))))) q

    go : (t : Bool) → p e ≡ t → Youngest p (e.seq + 1) es → writer_of dual_write es r ≡ forgotten e.seq (writer_of dual_write (e ∷ es) r)
    go true q (inl n) =
        ap (λ xs. seq (last_or None xs)) n
        ∙ sym (whole true q ∙ ap (λ xs. forgotten e.seq (seq (last_or (Some e) xs))) n ∙ ap (λ t. if t then None else Some e.seq) (eq-eqb e.seq e.seq refl))
    go true q (inr x) =
        let l : e.seq + 1 ≤ x.0.seq = x.1.0 in
        ap seq (x.1.1 None)
        ∙ sym (whole true q ∙ ap (λ o. forgotten e.seq (seq o)) (x.1.1 (Some e)) ∙ other_is_kept x.0.seq e.seq (omega arith))
    go false q (inl n) =
        ap (λ xs. seq (last_or None xs)) n
        ∙ sym (whole false q ∙ ap (λ xs. forgotten e.seq (seq (last_or None xs))) n)
    go false q (inr x) =
        let l : e.seq + 1 ≤ x.0.seq = x.1.0 in
        ap seq (x.1.1 None)
        ∙ sym (whole false q ∙ ap (λ o. forgotten e.seq (seq o)) (x.1.1 None) ∙ other_is_kept x.0.seq e.seq (omega arith))

-- ---- younger ones are gone

some_is : (a b : ℕ) → Some a ≡ Some b → a ≡ b
some_is a b h = cc

pub writer_cut : (dual_write : Bool) (s least next : ℕ) (es : List Entry) (r : ℕ) → Rises least es next
    → ((w : ℕ) → writer_of dual_write es r ≡ Some w → w ≤ s) → writer_of dual_write (take (count_through s es) es) r ≡ writer_of dual_write es r
writer_cut dual_write s least next es r h older =
    ap (λ (o : Option Entry). option_map (λ (x : Entry). x.seq) o)
    (older_is_youngest p (s + 1) kept (drop (count_through s es) es) (behind_cut s least next es h)
    (λ w q.
    let l : w.seq ≤ s = older w.seq (ap (λ (o : Option Entry). option_map (λ (x : Entry). x.seq) o) (sym (ap (λ xs. last_or None (filter p xs)) parts) ∙ q)) in
    omega arith)
    ∙ ap (λ xs. last_or None (filter p xs)) parts)
  where
    p : Entry → Bool
    p = may_write dual_write r

    kept : List Entry
    kept = take (count_through s es) es

    parts : kept ++ drop (count_through s es) es ≡ es
    parts = take-append-drop (count_through s es) es

-- ---- entries change

pub writer_mapped_from : (p : Entry → Bool) (f : Entry → Entry) → ((e : Entry) → (f e).seq ≡ e.seq) → (es : List Entry) → AllByRecursion (λ e. p (f e) ≡ p e) es
    → (o q : Option Entry) → option_map (λ (x : Entry). x.seq) o ≡ option_map (λ (x : Entry). x.seq) q
    → option_map (λ (x : Entry). x.seq) (last_or o (filter p (map f es))) ≡ option_map (λ (x : Entry). x.seq) (last_or q (filter p es))
writer_mapped_from p f k [] a o q h = h
writer_mapped_from p f k (e ∷ es) a o q h =
    go (p e) refl (writer_mapped_from p f k es a.1 (Some (f e)) (Some e) (ap (λ n. Some n) (k e))) (writer_mapped_from p f k es a.1 o q h)
  where
    seq : Option Entry → Option ℕ
    seq x = option_map (λ (y : Entry). y.seq) x

    go : (t : Bool) → p e ≡ t
        → seq (last_or (Some (f e)) (filter p (map f es))) ≡ seq (last_or (Some e) (filter p es))
        → seq (last_or o (filter p (map f es))) ≡ seq (last_or q (filter p es))
        → seq (last_or o (cond (p (f e)) (f e ∷ filter p (map f es)) (filter p (map f es)))) ≡ seq (last_or q (cond (p e) (e ∷ filter p es) (filter p es)))
    go true t x y =
        ap (λ b. seq (last_or o (cond b (f e ∷ filter p (map f es)) (filter p (map f es))))) (a.0 ∙ t)
        ∙ x ∙ sym (ap (λ b. seq (last_or q (cond b (e ∷ filter p es) (filter p es)))) t)
    go false t x y =
        ap (λ b. seq (last_or o (cond b (f e ∷ filter p (map f es)) (filter p (map f es))))) (a.0 ∙ t)
        ∙ y ∙ sym (ap (λ b. seq (last_or q (cond b (e ∷ filter p es) (filter p es)))) t)

pub writer_mapped : (dual_write : Bool) (f : Entry → Entry) → ((e : Entry) → (f e).seq ≡ e.seq) → (es : List Entry) (r : ℕ)
    → AllByRecursion (λ e. may_write dual_write r (f e) ≡ may_write dual_write r e) es → writer_of dual_write (map f es) r ≡ writer_of dual_write es r
writer_mapped dual_write f k es r a = writer_mapped_from (may_write dual_write r) f k es a None None refl

-- what an entry may write is by its kind, its word and its response
pub same_writes : (dual_write : Bool) (r : ℕ) (a b : Entry) → b.kind ≡ a.kind → b.word ≡ a.word → b.response ≡ a.response → may_write dual_write r b ≡ may_write dual_write r a
same_writes dual_write r a b k w s =
    ap (λ t. not (r == 0) && t) (ap (λ kind. may_write_kind dual_write kind b r) k ∙ by_kind a.kind)
  where
    by_kind : (kind : EntryKind) → may_write_kind dual_write kind b r ≡ may_write_kind dual_write kind a r
    by_kind (Local i) = refl
    by_kind Unknown = ap (λ response. may_write_word dual_write response (rd_field b.word) r) s ∙ ap (λ word. may_write_word dual_write a.response (rd_field word) r) w
    by_kind Nowhere = refl

-- ---- which registers an entry may write

target_is : (i : Instr) (r : ℕ) → r ≢ i.rd → option_map_or (λ rd. rd == r) (target_of i) false ≡ false
target_is i r n = go (row_line i.row).writes (i.rd == 0)
  where
    go : (writes zero : Bool) → option_map_or (λ rd. rd == r) (if writes then (if zero then None else Some i.rd) else None) false ≡ false
    go true true = refl
    go true false = ne_eqb i.rd r (λ q. n (sym q))
    go false zero = refl

word_target : (dual_write : Bool) (response : Option Response) (rd r : ℕ) → r ≢ rd → r ≢ rd + 1 → may_write_word dual_write response rd r ≡ false
word_target dual_write None rd r n m = grind (arith, ne_eqb r rd n, ne_eqb r (rd + 1) m)
word_target dual_write (Some response) rd r n m = grind (arith, ne_eqb r rd n, ne_eqb r (rd + 1) m)

pub no_target : (dual_write : Bool) (r : ℕ) (e : Entry) → r ≢ first_target e → r ≢ first_target e + 1 → may_write dual_write r e ≡ false
no_target dual_write r e n m = ap (λ t. not (r == 0) && t) (by_kind e.kind n m) ∙ never (not (r == 0))
  where
    never : (t : Bool) → (t && false) ≡ false
    never true = refl
    never false = refl

    by_kind : (kind : EntryKind) → r ≢ first_target_by kind e.word → r ≢ first_target_by kind e.word + 1 → may_write_kind dual_write kind e r ≡ false
    by_kind (Local i) n m = target_is i r n
    by_kind Unknown n m = word_target dual_write e.response (rd_field e.word) r n m
    by_kind Nowhere n m = refl

-- the oldest is gone, and doesn't write the register
pub writer_passed : (dual_write : Bool) (e : Entry) (es : List Entry) (r : ℕ) → may_write dual_write r e ≡ false → writer_of dual_write (e ∷ es) r ≡ writer_of dual_write es r
writer_passed dual_write e es r none =
    ap (λ t. option_map (λ (x : Entry). x.seq) (last_or None (cond t (e ∷ filter (may_write dual_write r) es) (filter (may_write dual_write r) es)))) none

-- a response changes what its entry may write, and only that
one_answered : (dual_write : Bool) (s : ℕ) (response : Response) (r : ℕ) (x e : Entry) → r ≢ first_target x → r ≢ first_target x + 1 → (has_seq s e ≡ true → e ≡ x)
    → may_write dual_write r (with_response s response e) ≡ may_write dual_write r e
one_answered dual_write s response r x e n m alone = go (has_seq s e) refl
  where
    go : (t : Bool) → has_seq s e ≡ t → may_write dual_write r (with_response s response e) ≡ may_write dual_write r e
    go true q =
        let it : e ≡ x = alone q in
        let n' : r ≢ first_target e = subst (λ y. r ≢ first_target y) (sym it) n in
        let m' : r ≢ first_target e + 1 = subst (λ y. r ≢ first_target y + 1) (sym it) m in
        no_target dual_write r (with_response s response e) n' m' ∙ sym (no_target dual_write r e n' m')
    go false q = same_writes dual_write r e (with_response s response e) refl refl (ap (λ t. if t then Some response else e.response) q)

pub all_answered : (dual_write : Bool) (s : ℕ) (response : Response) (r : ℕ) (x : Entry) → r ≢ first_target x → r ≢ first_target x + 1 → (es : List Entry) → AllByRecursion (λ e. has_seq s e ≡ true → e ≡ x) es
    → AllByRecursion (λ e. may_write dual_write r (with_response s response e) ≡ may_write dual_write r e) es
all_answered dual_write s response r x n m [] a = tt
all_answered dual_write s response r x n m (e ∷ es) a = (one_answered dual_write s response r x e n m a.0, all_answered dual_write s response r x n m es a.1)

pub none_answered : (dual_write : Bool) (s : ℕ) (response : Response) (r : ℕ) (es : List Entry) → AllByRecursion (λ e. has_seq s e ≡ false) es
    → AllByRecursion (λ e. may_write dual_write r (with_response s response e) ≡ may_write dual_write r e) es
none_answered dual_write s response r [] a = tt
none_answered dual_write s response r (e ∷ es) a =
    (same_writes dual_write r e (with_response s response e) refl refl (ap (λ t. if t then Some response else e.response) a.0), none_answered dual_write s response r es a.1)
