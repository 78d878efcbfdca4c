-- What it says of a set that no check of it fails.
use Rattle.std.proofs.Common.{◌≡◌, ◌≤◌, ℕ, Bool, true, false, List, [], ◌∷◌, length, Result, Ok, Err, IsOk, ◌↔◌, nat_le, cond, ◌++◌, ◌==◌, bit_and, Some, slice_get, refl, sym, ap, ◌∙◌, arith}
use Rattle.std.specs.List.{flat_map, enumerate_from}
use Rattle.std.proofs.lemmas.Bool.Decides.{nat_tests}
use Rattle.std.proofs.lemmas.List.Folds.{flat_map-map}
use Rattle.xif_base.specs.Checks.{first_failing}
use Rattle.coproc_config.specs.Set.{UnitTable, place_of, places_of}
use Rattle.coproc_config.specs.Check.{fault, unit_checks, entry_checks, has_accumulator, has_field, size_checks, all_entry_checks, checks, IsLawful}
use Rattle.coproc_config.specs.declared.check.SetFault.{SetFault}
use Rattle.coproc_config.specs.declared.check.SetCause.TheVariants.{TooManyUnits, BadMask, BadAccumulator, BadField}
use Rattle.coproc_config.specs.declared.operation.Entry.{Entry}
use Rattle.coproc_config.specs.Table.{operation_line}
use Rattle.coproc_config.proofs.Checks.{first_failing-parts, each, flat_map-flat_map}

pub entries-within : (i : ℕ) (unit : UnitTable) → first_failing (unit_checks (i, unit)) ≡ Ok tt → length unit.entries ≤ 32
entries-within i unit h = grind (arith, nat_tests)

-- what is left to check of a set of few units
pub checks-few : (units : List UnitTable) → length units ≤ 8 → first_failing (checks units) ≡ first_failing (size_checks units ++ all_entry_checks units)
checks-few units h =
    let few : nat_le (length units) 8 ≡ true = grind (arith, nat_tests) in
    ap (λ b. cond b (first_failing (size_checks units ++ all_entry_checks units)) (Err (fault TooManyUnits 0 0))) few

-- a check that has the first fault is Ok where there is none
pub lawful-from_first : (r : Result Unit SetFault) (units : List UnitTable) → r ≡ first_failing (checks units) → IsOk r ↔ IsLawful units
lawful-from_first (Ok u) units e = (λ h. sym e, λ h. refl)
lawful-from_first (Err f) units e = (λ h. cc, λ h. cc)

passes-first : {F : Type 0} (b : Bool) (e : F) (xs : List (Bool × F)) → first_failing ((b, e) ∷ xs) ≡ Ok tt → (b ≡ true) × (first_failing xs ≡ Ok tt)
passes-first true e xs h = (refl, h)
passes-first false e xs h = cc

all-three : {F : Type 0} (a b c : Bool) (e f g : F) → first_failing ((a, e) ∷ (b, f) ∷ (c, g) ∷ []) ≡ Ok tt → (a ≡ true) × (b ≡ true) × (c ≡ true)
all-three a b c e f g h =
    let first = passes-first a e ((b, f) ∷ (c, g) ∷ []) h in
    let second = passes-first b f ((c, g) ∷ []) first.1 in
    let third = passes-first c g [] second.1 in
    (first.0, second.0, third.0)

sizes-pass : (units : List UnitTable) → IsLawful units → (nat_le (length units) 8 ≡ true) × (first_failing (size_checks units) ≡ Ok tt) × (first_failing (all_entry_checks units) ≡ Ok tt)
sizes-pass units lawful =
    let all = passes-first (nat_le (length units) 8) (fault TooManyUnits 0 0) (size_checks units ++ all_entry_checks units) lawful in
    let parts = first_failing-parts (size_checks units) (all_entry_checks units) all.1 in
    (all.0, parts.0, parts.1)

pub entries-few : (units : List UnitTable) (i : ℕ) (unit : UnitTable) → IsLawful units → slice_get units i ≡ Some unit → length unit.entries ≤ 32
entries-few units i unit lawful found = entries-within i unit (each unit_checks units i unit (sizes-pass units lawful).1 found)

-- what an entry of a lawful set names is there
pub record HasNamed (accumulators : ℕ) (e : Entry) : Type 0 where
  pub accumulator : has_accumulator (operation_line e.op).names e.acc accumulators ≡ true
  pub bits : has_field (operation_line e.op).names e.low e.len ≡ true

pub entry-named : (units : List UnitTable) (i j : ℕ) (unit : UnitTable) (e : Entry) → IsLawful units → slice_get units i ≡ Some unit → slice_get unit.entries j ≡ Some e → HasNamed unit.accumulators e
entry-named units i j unit e lawful found listed =
    let all = (sizes-pass units lawful).2 in
    let of_unit : first_failing (flat_map entry_checks (places_of (i, unit))) ≡ Ok tt =
    each (λ u. flat_map entry_checks (places_of u)) units i unit (ap first_failing (sym (flat_map-flat_map entry_checks places_of (enumerate_from 0 units))) ∙ all) found in
    let of_entry : first_failing (entry_checks (place_of (i, unit) (j, e))) ≡ Ok tt =
    each (λ entry. entry_checks (place_of (i, unit) entry)) unit.entries j e (ap first_failing (sym (flat_map-map entry_checks (place_of (i, unit)) (enumerate_from 0 unit.entries))) ∙ of_unit) listed in
    let pass = all-three (bit_and e.matched e.mask == e.matched) (has_accumulator (operation_line e.op).names e.acc unit.accumulators) (has_field (operation_line e.op).names e.low e.len) (fault BadMask i j) (fault BadAccumulator i j) (fault BadField i j) of_entry in
    record { accumulator = pass.1; bits = pass.2 }
