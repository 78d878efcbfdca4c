-- An entry that reads no register makes the same of any lanes.
use Rattle.std.proofs.Common.{if◌then◌else◌, ◌≡◌, ◌++◌, ◌+◌, ◌/◌, ◌%◌, ◌^◌, ℕ, suc, Bool, true, false, Option, Some, None, IfSome, IsSomeAnd, List, [], ◌∷◌, map, find, slice_get, refl, sym, ap, ◌∙◌, arith}
use Rattle.std.specs.List.{enumerate_from, flat_map}
use Rattle.std.specs.Option.{option_map}
use Rattle.std.proofs.Math.Nat.{zero-div}
use Rattle.xif_base.specs.declared.params.Params.{Params}
use Rattle.xif_base.specs.Params.{IsInRange}
use Rattle.xif_base.specs.Flags.{even_bit, odd_bit}
use Rattle.coproc_config.specs.declared.operation.Entry.{Entry}
use Rattle.coproc_config.specs.declared.accept.Hit.{Hit}
use Rattle.coproc_config.specs.Set.{UnitTable, Place, place_of, places_of, places}
use Rattle.coproc_config.specs.Accept.{takes, hit_at, hit_of, entry_in, entry_at, HasFlag, HasFlagsOf}
use Rattle.coproc_config.specs.Laws.{AgreeOn}
use Rattle.coproc_config.proofs.Unread.{unread}
use Rattle.cycle_spec.specs.Engine.{register_read_of, outcome_by}

-- ---- the places of a set name its entries

abbrev Each : (Place → Type 0) → List Place → Type 0
Each P [] = Unit {0}
Each P (x ∷ xs) = P x × Each P xs

each_append : (P : Place → Type 0) (xs ys : List Place) → Each P xs → Each P ys → Each P (xs ++ ys)
each_append P [] ys a b = b
each_append P (x ∷ xs) ys a b = (a.0, each_append P xs ys a.1 b)

each_weaker : (P Q : Place → Type 0) → ((x : Place) → P x → Q x) → (xs : List Place) → Each P xs → Each Q xs
each_weaker P Q h [] a = tt
each_weaker P Q h (x ∷ xs) a = (h x a.0, each_weaker P Q h xs a.1)

-- a place of a unit, whose entries are numbered from one on
record InUnit (unit from : ℕ) (entries : List Entry) (x : Place) : Type 0 where
  unit_is : x.unit ≡ unit
  at : ℕ
  entry_is : x.entry ≡ from + at
  there : slice_get entries at ≡ Some x.row

in_unit : (k : ℕ) (unit : UnitTable) (from : ℕ) (entries : List Entry) → Each (InUnit k from entries) (map (place_of (k, unit)) (enumerate_from from entries))
in_unit k unit from [] = tt
in_unit k unit from (e ∷ entries) = (
  record { unit_is = refl; at = 0; entry_is = omega arith; there = refl },
  each_weaker (InUnit k (from + 1) entries) (InUnit k from (e ∷ entries)) (λ x h. let i = h.entry_is in record { unit_is = h.unit_is; at = suc h.at; entry_is = omega (arith, i); there = h.there }) _ (in_unit k unit (from + 1) entries),
)

-- a place of a set, whose units are numbered from one on
record InSet (from : ℕ) (units : List UnitTable) (x : Place) : Type 0 where
  at : ℕ
  unit_is : x.unit ≡ from + at
  unit : UnitTable
  there : slice_get units at ≡ Some unit
  row_is : slice_get unit.entries x.entry ≡ Some x.row

in_set : (from : ℕ) (units : List UnitTable) → Each (InSet from units) (flat_map places_of (enumerate_from from units))
in_set from [] = tt
in_set from (u ∷ units) =
    each_append (InSet from (u ∷ units)) _ _
    (each_weaker (InUnit from 0 u.entries) (InSet from (u ∷ units)) (λ x h. let i = h.entry_is in let z : h.at ≡ x.entry = omega (arith, i) in record { at = 0; unit_is = h.unit_is ∙ omega arith; unit = u; there = refl; row_is = ap (slice_get u.entries) (sym z) ∙ h.there }) _ (in_unit from u 0 u.entries))
    (each_weaker (InSet (from + 1) units) (InSet from (u ∷ units)) (λ x h. let i = h.unit_is in record { at = suc h.at; unit_is = omega (arith, i); unit = h.unit; there = h.there; row_is = h.row_is }) _ (in_set (from + 1) units))

record Found (p : Place → Bool) (P : Place → Type 0) (x : Place) : Type 0 where
  passes : p x ≡ true
  holds : P x

found : (p : Place → Bool) (P : Place → Type 0) (xs : List Place) → Each P xs → IfSome (find p xs) (Found p P)
found p P [] a = tt
found p P (x ∷ xs) a = go (p x) refl (found p P xs a.1)
  where
    go : (t : Bool) → p x ≡ t → IfSome (find p xs) (Found p P) → IfSome (if t then Some x else find p xs) (Found p P)
    go true q r = record { passes = q; holds = a.0 }
    go false q r = r

pub hit_flags : (set : List UnitTable) (params : Params) (word : ℕ) → IfSome (hit_of set params word) (λ hit. HasFlagsOf (entry_at set hit) params word hit)
hit_flags set params word = go (find (λ x. takes params word x.row) (places set)) (found (λ x. takes params word x.row) (InSet 0 set) (places set) (in_set 0 set))
  where
    go : (o : Option Place) → IfSome o (Found (λ x. takes params word x.row) (InSet 0 set)) → IfSome (option_map (hit_at params) o) (λ hit. HasFlagsOf (entry_at set hit) params word hit)
    go None f = tt
    go (Some x) f =
        let h = f.holds in
        let i = h.unit_is in
        let z : x.unit ≡ h.at = omega (arith, i) in
        record {
          entry = x.row;
          there = ap (λ k. entry_in (slice_get set k) x.entry) z ∙ ap (λ o. entry_in o x.entry) h.there ∙ h.row_is;
          taken = f.passes;
          reads = refl;
          writes = refl;
        }

-- ---- no half counts

no_flag : (flags bit : ℕ) → flags ≡ 0 → HasFlag flags bit → ⊥
no_flag flags bit z h = let q : 0 / 2 ^ bit % 2 ≡ 1 = ap (λ f. f / 2 ^ bit % 2) (sym z) ∙ h in let d : 0 / 2 ^ bit ≡ 0 = zero-div (2 ^ bit) in let r : 0 % 2 ≡ 1 = ap (λ n. n % 2) (sym d) ∙ q in cc

none_agree : (params : Params) (flags : ℕ) (xs ys : List ℕ) → flags ≡ 0 → AgreeOn params flags xs ys
none_agree params flags xs ys z = record { low = λ n h. absurd (no_flag flags (even_bit params n) z h); high = λ n h. absurd (high (odd_bit params n) h) }
  where
    high : (o : Option ℕ) → IsSomeAnd o (HasFlag flags) → ⊥
    high None h = h
    high (Some bit) h = no_flag flags bit z h

pub any_lanes : (params : Params) (set : List UnitTable) (word : ℕ) (state : List (List ℕ)) (xs ys : List ℕ) → IsInRange params → register_read_of (hit_of set params word) ≡ 0
    → outcome_by set (hit_of set params word) state xs ≡ outcome_by set (hit_of set params word) state ys
any_lanes params set word state xs ys range z = go (hit_of set params word) (hit_flags set params word) z
  where
    go : (o : Option Hit) → IfSome o (λ hit. HasFlagsOf (entry_at set hit) params word hit) → register_read_of o ≡ 0 → outcome_by set o state xs ≡ outcome_by set o state ys
    go None f z = refl
    go (Some hit) f z = unread set params word hit state xs ys range f (none_agree params hit.register_read.0 xs ys z)
