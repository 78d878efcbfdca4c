-- Entries that are added to the last unit of a set.
use Rattle.std.proofs.Common.{◌≡◌, ◌<◌, ◌+◌, ◌-◌, ℕ, List, [], ◌∷◌, ◌++◌, length, length-append, take, get_or, ap, sym, ◌∙◌, arith}
use Rattle.std.proofs.Math.Seq.{set-append_seam, get_or-append_seam}
use Rattle.std.proofs.lemmas.List.{take_more}
use Rattle.coproc_config.specs.Set.{UnitTable, new_unit, with_entry, with_last_entry}
use Rattle.coproc_config.specs.declared.operation.Entry.{Entry}

abbrev pub unit_of : ℕ → List Entry → UnitTable
unit_of accumulators entries = record { accumulators = accumulators; entries = entries }

last_entry : (us : List UnitTable) (u : UnitTable) (e : Entry) → with_last_entry (us ++ u ∷ []) e ≡ us ++ with_entry u e ∷ []
last_entry us u e =
    let last : length (us ++ u ∷ []) - 1 ≡ length us = omega (arith, length-append us (u ∷ [])) in
    rw (last, get_or-append_seam us u [] (new_unit 0), set-append_seam us u [] (with_entry u e))

-- one more entry of a list is added
pub grown : (new set us : List UnitTable) (accumulators : ℕ) (es : List Entry) (i : ℕ) (d : Entry) → i < length es → new ≡ with_last_entry set (get_or es i d)
    → set ≡ us ++ unit_of accumulators (take i es) ∷ [] → new ≡ us ++ unit_of accumulators (take (i + 1) es) ∷ []
grown new set us accumulators es i d h one so_far =
    one
    ∙ ap (λ s. with_last_entry s (get_or es i d)) so_far
    ∙ last_entry us (unit_of accumulators (take i es)) (get_or es i d)
    ∙ ap (λ xs. us ++ unit_of accumulators xs ∷ []) (sym (take_more es i d h))
