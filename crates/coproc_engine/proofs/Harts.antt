-- The uses of a hart, beside those of the others.
use Rattle.std.proofs.Common.{◌≡◌, ◌<◌, ◌+◌, ◌++◌, ℕ, Bool, List, [], ◌∷◌, length, take, drop, get_or, set, refl, sym, ap, ap₂, ◌∙◌, arith}
use Rattle.std.proofs.lemmas.Bool.Decides.{nat_tests}
use Rattle.std.proofs.lemmas.List.{drop_more, drop-set-lt, take_more_set, append_assoc}
use Rattle.coproc_config.specs.Set.{UnitTable}
use Rattle.cycle_spec.specs.declared.use_of.Use.{Use}
use Rattle.cycle_spec.specs.Engine.{is_complete, outcome_of, ready_uses, units_behind, ready_in_harts, units_in_harts}

-- the uses that are ready of one hart change nothing of another one
pub units_other : (set : List UnitTable) (test : Use → Bool) (cycle g h : ℕ) (s t : List (List ℕ)) (us : List Use) → g < h → units_behind set test h t (ready_uses set cycle g s us) ≡ units_behind set test h t us
units_other set test cycle g h s t [] l = refl
units_other set test cycle g h s t (u ∷ us) l =
    let passed = units_other set test cycle g h s t us l in
    let applied = units_other set test cycle g h s (outcome_of set t u).state us l in
    let ready = units_other set test cycle g h (outcome_of set s u).state t us l in
    grind (arith, nat_tests)

pub units_in_other : (set : List UnitTable) (cycle g h : ℕ) (s : List (List ℕ)) (states : List (List (List ℕ))) (us : List Use) → g < h → units_in_harts set h states (ready_uses set cycle g s us) ≡ units_in_harts set h states us
units_in_other set cycle g h s [] us l = refl
units_in_other set cycle g h s (t ∷ states) us l =
    ap₂ (λ x xs. x ∷ xs) (units_other set is_complete cycle g h s t us l) (units_in_other set cycle g (h + 1) s states us (omega arith))

-- one more hart: its state is the next of the list
pub uses_more : (table : List UnitTable) (cycle i : ℕ) (units : List (List (List ℕ))) (now d : List (List ℕ)) (us : List Use) → i < length units → ready_in_harts table cycle i (drop i units) us ≡ ready_in_harts table cycle (i + 1) (drop (i + 1) (set units i now)) (ready_uses table cycle i (get_or units i d) us)
uses_more table cycle i units now d us l =
    ap (λ states. ready_in_harts table cycle i states us) (drop_more units i d l)
    ∙ ap (λ states. ready_in_harts table cycle (i + 1) states (ready_uses table cycle i (get_or units i d) us)) (sym (drop-set-lt (i + 1) units i now (omega arith)))

pub units_more : (table : List UnitTable) (cycle i : ℕ) (units : List (List (List ℕ))) (d : List (List ℕ)) (us : List Use) → i < length units → take i units ++ units_in_harts table i (drop i units) us ≡ take (i + 1) (set units i (units_behind table is_complete i (get_or units i d) us)) ++ units_in_harts table (i + 1) (drop (i + 1) (set units i (units_behind table is_complete i (get_or units i d) us))) (ready_uses table cycle i (get_or units i d) us)
units_more table cycle i units d us l =
    let state = get_or units i d in
    let now = units_behind table is_complete i state us in
    ap (λ states. take i units ++ units_in_harts table i states us) (drop_more units i d l)
    ∙ ap (λ rest. take i units ++ now ∷ rest) (sym (units_in_other table cycle i (i + 1) state (drop (i + 1) units) us (omega arith)))
    ∙ sym (append_assoc (take i units) (now ∷ []) _)
    ∙ ap₂ (λ front rest. front ++ units_in_harts table (i + 1) rest (ready_uses table cycle i state us)) (sym (take_more_set units i now l)) (sym (drop-set-lt (i + 1) units i now (omega arith)))
