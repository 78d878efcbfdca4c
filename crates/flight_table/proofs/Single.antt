-- A change of one entry, in the list of all.
use Rattle.std.proofs.Common.{◌≡◌, ◌<◌, ◌≤◌, ◌+◌, ◌||◌, ◌&&◌, not, ℕ, zero, suc, Bool, true, false, if◌then◌else◌, Some, List, [], ◌∷◌, length, map, set, slice_get, refl, sym, ap, ap₂, ◌∙◌, arith}
use Rattle.std.proofs.lemmas.Bool.{eqb-true, ne_eqb}
use Rattle.inorder_machine.specs.declared.stop.StopCause.TheVariants.{Illegal}
use Rattle.cycle_spec.specs.declared.entry.Entry.{Entry}
use Rattle.cycle_spec.specs.Flight.{has_seq, older_than}
use Rattle.flight_table.specs.declared.change.Change.{Change}
use Rattle.flight_table.specs.declared.change.Change.TheVariants as change
use Rattle.flight_table.specs.Change.{changed, is_release}
use Rattle.flight_table.specs.Index.{Rises}

or_false : (b : Bool) → (b || false) ≡ b
or_false true = refl
or_false false = refl

-- the entry of another number stays
other_stays : (c : Change) → is_release c ≡ false → (s : ℕ) (e : Entry) → has_seq s e ≡ false → changed c s e ≡ e
other_stays (change.Response response) k s e q =
    ap (λ t. record e { response = if t then Some response else e.response; stop = if t && not response.accept then Some Illegal else e.stop }) q
other_stays change.Sent k s e q =
    ap (λ t. record e { operands_sent = e.operands_sent || t }) q ∙ ap (λ b. record e { operands_sent = b }) (or_false e.operands_sent)
other_stays change.Release k s e q = absurd (clash k)
  where
    clash : true ≡ false → ⊥
    clash h = cc
other_stays (change.Result write) k s e q =
    ap (λ t. record e { done = e.done || t; write = if t then write else e.write }) q ∙ ap (λ b. record e { done = b }) (or_false e.done)
other_stays (change.Done write store next) k s e q =
    ap (λ t. record e { done = e.done || t; write = if t then write else e.write; store = if t then store else e.store; next = if t then next else e.next }) q
    ∙ ap (λ b. record e { done = b }) (or_false e.done)
other_stays (change.Stop cause) k s e q = ap (λ t. record e { stop = if t then Some cause else e.stop }) q

younger_stay : (c : Change) → is_release c ≡ false → (s least next : ℕ) (es : List Entry) → Rises least es next → s < least → map (changed c s) es ≡ es
younger_stay c k s least next [] h l = refl
younger_stay c k s least next (x ∷ es) h l =
    let m : least ≤ x.seq = h.0 in
    ap₂ (λ y ys. y ∷ ys) (other_stays c k s x (ne_eqb x.seq s (λ q. absurd (omega (arith, q, m, l)))))
    (younger_stay c k s (x.seq + 1) next es h.1 (omega arith))

is_same : (a b : Entry) → Some a ≡ Some b → a ≡ b
is_same a b h = cc

-- the entry behind those that are older than a number is the one of the number
pub one_changes : (c : Change) → is_release c ≡ false → (s least next : ℕ) (es : List Entry) (e : Entry) → Rises least es next → slice_get es (length (older_than s es)) ≡ Some e
    → map (changed c s) es ≡ set es (length (older_than s es)) (changed c e.seq e)
one_changes c k s least next [] e h found = absurd (clash found)
  where
    clash : slice_get {X = Entry} [] 0 ≡ Some e → ⊥
    clash q = cc
one_changes c k s least next (x ∷ es) e h found = go (has_seq s x) refl (λ q. one_changes c k s (x.seq + 1) next es e h.1 q) found
  where
    go : (t : Bool) → has_seq s x ≡ t
        → (slice_get es (length (older_than s es)) ≡ Some e → map (changed c s) es ≡ set es (length (older_than s es)) (changed c e.seq e))
        → slice_get (x ∷ es) (length (if t then [] else x ∷ older_than s es)) ≡ Some e
        → map (changed c s) (x ∷ es) ≡ set (x ∷ es) (length (if t then [] else x ∷ older_than s es)) (changed c e.seq e)
    go true q rest found =
        let it : x ≡ e = is_same x e found in
        let number : x.seq ≡ s = eqb-true x.seq s q in
        let same : s ≡ e.seq = sym number ∙ ap (λ (y : Entry). y.seq) it in
        ap₂ (λ y ys. y ∷ ys) (ap₂ (changed c) same it) (younger_stay c k s (x.seq + 1) next es h.1 (omega arith))
    go false q rest found = ap₂ (λ y ys. y ∷ ys) (other_stays c k s x q) (rest found)

-- where all are older than a number there is no entry of it
pub none_changes : (c : Change) → is_release c ≡ false → (s : ℕ) (es : List Entry) → length es ≤ length (older_than s es) → map (changed c s) es ≡ es
none_changes c k s [] l = refl
none_changes c k s (x ∷ es) l = go (has_seq s x) refl (λ m. none_changes c k s es m) l
  where
    go : (t : Bool) → has_seq s x ≡ t → (length es ≤ length (older_than s es) → map (changed c s) es ≡ es) → length (x ∷ es) ≤ length (if t then [] else x ∷ older_than s es) → map (changed c s) (x ∷ es) ≡ x ∷ es
    go true q rest l = absurd (omega arith)
    go false q rest l = ap₂ (λ y ys. y ∷ ys) (other_stays c k s x q) (rest (omega arith))

-- there is an entry at each place
pub entry_there : (es : List Entry) (i : ℕ) → i < length es → (e : Entry) × (slice_get es i ≡ Some e)
entry_there [] i l = absurd (omega arith)
entry_there (x ∷ es) zero l = (x, refl)
entry_there (x ∷ es) (suc i) l = entry_there es i (omega arith)
