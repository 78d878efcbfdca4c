-- The registers that wait behind entries.
use Rattle.std.proofs.Common.{◌≡◌, ◌<◌, ◌++◌, ℕ, zero, suc, Bool, true, false, ◌||◌, not, if◌then◌else◌, Some, None, List, [], ◌∷◌, slice_get, replicate, refl, sym, ap, ap₂, ◌∙◌, arith}
use Rattle.std.specs.List.{list_any}
use Rattle.std.proofs.lemmas.List.Folds.{list_any-append}
use Rattle.cycle_spec.specs.declared.entry.Entry.{Entry}
use Rattle.cycle_spec.specs.declared.entry.Operand.TheVariants.{Here, NotYet}
use Rattle.cycle_spec.specs.Flight.{may_write, is_here, value_in, operand_from, operand_behind}
use Rattle.flight_table.specs.Older.{AreWaits}
use Rattle.flight_table.proofs.Scans.{last_hit}
use Rattle.flight_table.proofs.Indexed.{last_miss}

falses : (n r : ℕ) → r < n → slice_get {X = Bool} (replicate n false) r ≡ Some false
falses zero r l = absurd (omega arith)
falses (suc n) zero l = refl
falses (suc n) (suc r) l = falses n r (omega arith)

-- behind no entry none waits
pub none_waits : (dual_write : Bool) (registers : List ℕ) → AreWaits dual_write registers [] (replicate 32 false)
none_waits dual_write registers r l = falses 32 r l

here_if : (t : Bool) (value : ℕ) → is_here (if t then Here value else NotYet) ≡ t
here_if true value = refl
here_if false value = refl

-- with one more entry
pub waits_more : (dual_write : Bool) (registers : List ℕ) (es : List Entry) (e : Entry) (old new : List Bool) → AreWaits dual_write registers es old
    → ((r : ℕ) → r < 32 → slice_get new r ≡ (if may_write dual_write r e then Some (not e.done) else slice_get old r)) → AreWaits dual_write registers (es ++ e ∷ []) new
waits_more dual_write registers es e old new a n r l = n r l ∙ go (may_write dual_write r e) refl
  where
    go : (t : Bool) → may_write dual_write r e ≡ t → (if t then Some (not e.done) else slice_get old r) ≡ Some (not (is_here (operand_behind dual_write registers (es ++ e ∷ []) r)))
    go true q =
        sym (ap (λ o. Some (not (is_here (operand_from registers o r)))) (last_hit (may_write dual_write r) None es e q)
        ∙ ap (λ t. Some (not t)) (here_if e.done (value_in e.write r)))
    go false q = a r l ∙ sym (ap (λ o. Some (not (is_here (operand_from registers o r)))) (last_miss (may_write dual_write r) None es e q))

pub any_more : (test : Entry → Bool) (es : List Entry) (e : Entry) (old new : Bool) → old ≡ list_any test es → new ≡ test e → (old || new) ≡ list_any test (es ++ e ∷ [])
any_more test es e old new h k =
    ap₂ (λ a b. a || b) h (k ∙ last (test e)) ∙ sym (list_any-append test es (e ∷ []))
  where
    last : (t : Bool) → t ≡ (t || false)
    last true = refl
    last false = refl
