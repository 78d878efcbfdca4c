-- The index under the calls of the table.
use Rattle.std.proofs.Common.{◌≡◌, ◌≢◌, ◌<◌, ◌≤◌, ◌+◌, ◌++◌, ◌⊎◌, ℕ, zero, suc, Bool, true, false, if◌then◌else◌, Option, Some, None, List, [], ◌∷◌, length, take, drop, map, slice_get, replicate, ⊎_elim, refl, sym, ap, ◌∙◌, subst, arith}
use Rattle.std.specs.Prelude.{find, filter}
use Rattle.std.specs.Option.{option_map}
use Rattle.std.specs.List.{AllByRecursion, last_or}
use Rattle.std.proofs.lemmas.Grind.{common_steps}
use Rattle.std.proofs.lemmas.List.{length_push, length-map}
use Rattle.xif_session.specs.declared.fact.Response.{Response}
use Rattle.cycle_spec.specs.declared.entry.Entry.{Entry}
use Rattle.cycle_spec.specs.Flight.{has_seq, older_than, count_through, may_write, youngest_writer, with_response}
use Rattle.flight_table.specs.declared.change.Change.{Change}
use Rattle.flight_table.specs.declared.change.Change.TheVariants as change
use Rattle.flight_table.specs.Change.{changed, keeps_response}
use Rattle.flight_table.specs.Table.{Table, writer_of}
use Rattle.flight_table.specs.Index.{Rises, IsIndex, IsKept, first_target, forgotten}
use Rattle.flight_table.proofs.Order.{rises_push, rises_take, rises_behind, rises_map, older_than_youngest, found_youngest, named_alone, none_named}
use Rattle.flight_table.proofs.Indexed.{writer_pushed, writer_dropped, writer_passed, writer_cut, writer_mapped, same_writes, all_answered, none_answered}
use Rattle.flight_table.proofs.Slots.{MendedOr, ForgottenOr}

-- ---- what is read by it

has_number : (o : Option Entry) (n : ℕ) → option_map (λ (e : Entry). e.seq) o ≡ Some n → (w : Entry) × ((o ≡ Some w) × (w.seq ≡ n))
has_number None n h = absurd (clash n h)
  where
    clash : (n : ℕ) → None ≡ Some n → ⊥
    clash n h = cc
has_number (Some w) n h = (w, (refl, is w.seq n h))
  where
    is : (a b : ℕ) → Some a ≡ Some b → a ≡ b
    is a b h = cc

has_none : (o : Option Entry) → option_map (λ (e : Entry). e.seq) o ≡ None → o ≡ None
has_none None h = refl
has_none (Some w) h = absurd (clash w.seq h)
  where
    clash : (n : ℕ) → Some n ≡ None → ⊥
    clash n h = cc

pub read_none : (dual_write : Bool) (s least next : ℕ) (es : List Entry) (r : ℕ) → Rises least es next → writer_of dual_write es r ≡ None → youngest_writer dual_write (older_than s es) r ≡ None
read_none dual_write s least next es r h q =
    let none : youngest_writer dual_write es r ≡ None = has_none (youngest_writer dual_write es r) q in
    older_than_youngest (may_write dual_write r) s least next es h (λ w k. absurd (clash w (sym none ∙ k))) ∙ none
  where
    clash : (w : Entry) → None ≡ Some w → ⊥
    clash w h = cc

pub read_some : (dual_write : Bool) (s least next : ℕ) (es : List Entry) (r n : ℕ) → Rises least es next → writer_of dual_write es r ≡ Some n → n < s → youngest_writer dual_write (older_than s es) r ≡ find (has_seq n) es
read_some dual_write s least next es r n h q l =
    let it = has_number (youngest_writer dual_write es r) n q in
    let found : find (has_seq n) es ≡ Some it.0 = subst (λ k. find (has_seq k) es ≡ Some it.0) it.1.1 (found_youngest (may_write dual_write r) least next es it.0 h it.1.0) in
    older_than_youngest (may_write dual_write r) s least next es h (λ w k. subst (λ m. m < s) (sym it.1.1 ∙ ap (λ (x : Entry). x.seq) (is it.0 w (sym it.1.0 ∙ k))) l)
    ∙ it.1.0 ∙ sym found
  where
    is : (a b : Entry) → Some a ≡ Some b → a ≡ b
    is a b h = cc

-- ---- how it is kept

pub kept_push : (dual_write : Bool) (es : List Entry) (e : Entry) (old new : List (Option ℕ)) → IsIndex dual_write es old
    → ((r : ℕ) → r < 32 → slice_get new r ≡ (if may_write dual_write r e then Some (Some e.seq) else slice_get old r)) → IsIndex dual_write (es ++ e ∷ []) new
kept_push dual_write es e old new i n r l = n r l ∙ go (may_write dual_write r e) ∙ sym (ap (λ w. Some w) (writer_pushed dual_write es e r))
  where
    go : (t : Bool) → (if t then Some (Some e.seq) else slice_get old r) ≡ Some (if t then Some e.seq else writer_of dual_write es r)
    go true = refl
    go false = i r l

pub kept_drop : (dual_write : Bool) (least next : ℕ) (e : Entry) (es : List Entry) (old new : List (Option ℕ)) → Rises least (e ∷ es) next → IsIndex dual_write (e ∷ es) old
    → ((r : ℕ) → r < 32 → ForgottenOr dual_write e old new r) → IsIndex dual_write es new
kept_drop dual_write least next e es old new h i m r l =
    ⊎_elim
    (λ q. q ∙ ap (λ o. option_map (forgotten e.seq) o) (i r l) ∙ ap (λ w. Some w) (sym (writer_dropped dual_write least next e es r h)))
    (λ q. q.0 ∙ i r l ∙ ap (λ w. Some w) (writer_passed dual_write e es r q.1))
    (m r l)

pub kept_cut : (dual_write : Bool) (s least next : ℕ) (es : List Entry) (old new : List (Option ℕ)) → Rises least es next → IsIndex dual_write es old
    → ((r : ℕ) → r < 32 → MendedOr dual_write (take (count_through s es) es) s old new r) → IsIndex dual_write (take (count_through s es) es) new
kept_cut dual_write s least next es old new h i m r l =
    ⊎_elim
    (λ q. q)
    (λ q. q.0 ∙ i r l ∙ ap (λ w. Some w) (sym (writer_cut dual_write s least next es r h (λ w k. q.1 w (i r l ∙ ap (λ x. Some x) k)))))
    (m r l)

changed_seq : (c : Change) (s : ℕ) (e : Entry) → (changed c s e).seq ≡ e.seq
changed_seq (change.Response response) s e = refl
changed_seq change.Sent s e = refl
changed_seq change.Release s e = refl
changed_seq (change.Result write) s e = refl
changed_seq (change.Done write store next) s e = refl
changed_seq (change.Stop cause) s e = refl

changed_writes : (c : Change) → keeps_response c ≡ true → (dual_write : Bool) (r s : ℕ) (e : Entry) → may_write dual_write r (changed c s e) ≡ may_write dual_write r e
changed_writes (change.Response response) k dual_write r s e = absurd (clash k)
  where
    clash : false ≡ true → ⊥
    clash k = cc
changed_writes change.Sent k dual_write r s e = same_writes dual_write r e (changed change.Sent s e) refl refl refl
changed_writes change.Release k dual_write r s e = same_writes dual_write r e (changed change.Release s e) refl refl refl
changed_writes (change.Result write) k dual_write r s e = same_writes dual_write r e (changed (change.Result write) s e) refl refl refl
changed_writes (change.Done write store next) k dual_write r s e = same_writes dual_write r e (changed (change.Done write store next) s e) refl refl refl
changed_writes (change.Stop cause) k dual_write r s e = same_writes dual_write r e (changed (change.Stop cause) s e) refl refl refl

all_changed : (c : Change) → keeps_response c ≡ true → (dual_write : Bool) (r s : ℕ) (es : List Entry) → AllByRecursion (λ e. may_write dual_write r (changed c s e) ≡ may_write dual_write r e) es
all_changed c k dual_write r s [] = tt
all_changed c k dual_write r s (e ∷ es) = (changed_writes c k dual_write r s e, all_changed c k dual_write r s es)

pub kept_change : (c : Change) → keeps_response c ≡ true → (dual_write : Bool) (s : ℕ) (es : List Entry) (writers : List (Option ℕ)) → IsIndex dual_write es writers → IsIndex dual_write (map (changed c s) es) writers
kept_change c k dual_write s es writers i r l =
    i r l ∙ ap (λ w. Some w) (sym (writer_mapped dual_write (changed c s) (changed_seq c s) es r (all_changed c k dual_write r s es)))

pub rises_change : (c : Change) (s least next : ℕ) (es : List Entry) → Rises least es next → Rises least (map (changed c s) es) next
rises_change c s least next es h = rises_map (changed c s) (changed_seq c s) least next es h

answered_seq : (s : ℕ) (response : Response) (e : Entry) → (with_response s response e).seq ≡ e.seq
answered_seq s response e = refl

pub kept_unanswered : (dual_write : Bool) (s : ℕ) (response : Response) (es : List Entry) (writers : List (Option ℕ)) → find (has_seq s) es ≡ None → IsIndex dual_write es writers
    → IsIndex dual_write (map (with_response s response) es) writers
kept_unanswered dual_write s response es writers none i r l =
    i r l ∙ ap (λ w. Some w) (sym (writer_mapped dual_write (with_response s response) (answered_seq s response) es r (none_answered dual_write s response r es (none_named s es none))))

pub kept_answered : (dual_write : Bool) (s : ℕ) (response : Response) (least next : ℕ) (es : List Entry) (x : Entry) (old new : List (Option ℕ)) → Rises least es next → find (has_seq s) es ≡ Some x → IsIndex dual_write es old
    → ((r : ℕ) → r < 32 → (slice_get new r ≡ Some (writer_of dual_write (map (with_response s response) es) r)) ⊎ ((slice_get new r ≡ slice_get old r) × ((r ≢ first_target x) × (r ≢ first_target x + 1))))
    → IsIndex dual_write (map (with_response s response) es) new
kept_answered dual_write s response least next es x old new h found i m r l =
    ⊎_elim
    (λ q. q)
    (λ q.
    q.0 ∙ i r l
    ∙ ap (λ w. Some w) (sym (writer_mapped dual_write (with_response s response) (answered_seq s response) es r (all_answered dual_write s response r x q.1.0 q.1.1 es (named_alone s least next es x h found)))))
    (m r l)

-- ---- all that is kept

pub push_kept : (t : Table) (e : Entry) (old new : List (Option ℕ)) → IsKept t old → e.seq ≡ t.next_seq → length t.entries < t.window
    → ((r : ℕ) → r < 32 → slice_get new r ≡ (if may_write t.dual_write r e then Some (Some e.seq) else slice_get old r))
    → IsKept (record t { next_seq = t.next_seq + 1; entries = t.entries ++ e ∷ [] }) new
push_kept t e old new k s room n =
    let long : length (t.entries ++ e ∷ []) ≡ length t.entries + 1 = length_push t.entries e in
    record {
      room = omega (arith, long, room);
      window = k.window;
      rises = rises_push 0 t.next_seq t.entries e k.rises s;
      index = kept_push t.dual_write t.entries e old new k.index n;
    }

pub drop_kept : (t : Table) (e : Entry) (old new : List (Option ℕ)) → IsKept t old → t.entries ≡ e ∷ drop 1 t.entries
    → ((r : ℕ) → r < 32 → ForgottenOr t.dual_write e old new r) → IsKept (record t { entries = drop 1 t.entries }) new
drop_kept t e old new k parts m =
    let long : length t.entries ≡ length (drop 1 t.entries) + 1 = ap length parts ∙ omega arith in
    let rises : Rises 0 (e ∷ drop 1 t.entries) t.next_seq = subst (λ es. Rises 0 es t.next_seq) parts k.rises in
    record {
      room = omega (arith, long, k.room);
      window = k.window;
      rises = rises_behind 0 t.next_seq e (drop 1 t.entries) rises;
      index = kept_drop t.dual_write 0 t.next_seq e (drop 1 t.entries) old new rises (subst (λ es. IsIndex t.dual_write es old) parts k.index) m;
    }

pub cut_kept : (t : Table) (s n : ℕ) (old new : List (Option ℕ)) → IsKept t old → n ≡ count_through s t.entries
    → ((r : ℕ) → r < 32 → MendedOr t.dual_write (take n t.entries) s old new r)
    → IsKept (record t { entries = take n t.entries }) new
cut_kept t s n old new k same m =
    let short : length (take n t.entries) ≤ length t.entries = grind (arith, common_steps) in
    record {
      room = omega (arith, short, k.room);
      window = k.window;
      rises = rises_take n 0 t.next_seq t.entries k.rises;
      index =
          subst (λ i. IsIndex t.dual_write (take i t.entries) new) (sym same)
          (kept_cut t.dual_write s 0 t.next_seq t.entries old new k.rises k.index (subst (λ i. (r : ℕ) → r < 32 → MendedOr t.dual_write (take i t.entries) s old new r) same m));
    }

pub change_kept : (t : Table) (c : Change) (s : ℕ) (old new : List (Option ℕ)) → IsKept t old → IsIndex t.dual_write (map (changed c s) t.entries) new
    → IsKept (record t { entries = map (changed c s) t.entries }) new
change_kept t c s old new k i = record {
  room = subst (λ n. n ≤ t.window) (sym (length-map t.entries (changed c s))) k.room;
  window = k.window;
  rises = rises_change c s 0 t.next_seq t.entries k.rises;
  index = i;
}

pub none_kept : (t : Table) (writers : List (Option ℕ)) → t.window ≤ 32 → ((r : ℕ) → r < 32 → slice_get writers r ≡ Some None) → IsKept (record t { entries = [] }) writers
none_kept t writers w none = record {
  room = omega arith;
  window = w;
  rises = omega arith;
  index = none;
}

pub zero_is_none : (dual_write : Bool) (es : List Entry) → writer_of dual_write es 0 ≡ None
zero_is_none dual_write es = ap (λ xs. option_map (λ (e : Entry). e.seq) (last_or None xs)) (go es)
  where
    go : (es : List Entry) → filter (may_write dual_write 0) es ≡ []
    go [] = refl
    go (e ∷ es) = go es

pub nones : (n r : ℕ) → r < n → slice_get {X = Option ℕ} (replicate n None) r ≡ Some None
nones zero r l = absurd (omega arith)
nones (suc n) zero l = refl
nones (suc n) (suc r) l = nones n r (omega arith)
