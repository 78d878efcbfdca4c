-- How many entries there are up to one of a place.
use Rattle.std.proofs.Common.{◌≡◌, ◌≤◌, ◌+◌, ℕ, zero, suc, if◌then◌else◌, Some, List, [], ◌∷◌, length, slice_get, ap, ◌∙◌, arith}
use Rattle.std.proofs.lemmas.Bool.{eq-eqb, ne_eqb}
use Rattle.cycle_spec.specs.declared.entry.Entry.{Entry}
use Rattle.cycle_spec.specs.Flight.{older_than, count_through}
use Rattle.flight_table.specs.Index.{Rises}

some_is : (a b : Entry) → Some a ≡ Some b → a ≡ b
some_is a b h = cc

rises_at : (n least next : ℕ) (es : List Entry) (e : Entry) → Rises least es next → slice_get es n ≡ Some e → least ≤ e.seq
rises_at n least next [] e r h = absurd (clash h)
  where
    clash : slice_get [] n ≡ Some e → ⊥
    clash h = cc
rises_at zero least next (x ∷ es) e r h =
    let l : least ≤ x.seq = r.0 in
    let same : x.seq ≡ e.seq = ap (λ (y : Entry). y.seq) (some_is x e h) in
    omega arith
rises_at (suc n) least next (x ∷ es) e r h =
    let l : least ≤ x.seq = r.0 in
    let m : x.seq + 1 ≤ e.seq = rises_at n (x.seq + 1) next es e r.1 h in
    omega arith

older_at : (n least next : ℕ) (es : List Entry) (e : Entry) → Rises least es next → slice_get es n ≡ Some e → length (older_than e.seq es) ≡ n
older_at n least next [] e r h = absurd (clash h)
  where
    clash : slice_get [] n ≡ Some e → ⊥
    clash h = cc
older_at zero least next (x ∷ es) e r h =
    let same : x.seq ≡ e.seq = ap (λ (y : Entry). y.seq) (some_is x e h) in
    ap (λ t. length (if t then [] else x ∷ older_than e.seq es)) (eq-eqb x.seq e.seq same)
older_at (suc n) least next (x ∷ es) e r h =
    let m : x.seq + 1 ≤ e.seq = rises_at n (x.seq + 1) next es e r.1 h in
    ap (λ t. length (if t then [] else x ∷ older_than e.seq es)) (ne_eqb x.seq e.seq (λ q. absurd (omega (arith, q, m))))
    ∙ ap (λ k. suc k) (older_at n (x.seq + 1) next es e r.1 h)

-- the entries up to one of a place
pub counted_at : (n least next : ℕ) (es : List Entry) (e : Entry) → Rises least es next → slice_get es n ≡ Some e → count_through e.seq es ≡ n + 1
counted_at n least next es e r h = ap (λ k. k + 1) (older_at n least next es e r h)
