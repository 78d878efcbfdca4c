-- Other readings of ready cycles and accumulators.
use Rattle.std.proofs.Common.{if◌then◌else◌, ◌≡◌, ◌==◌, ◌&&◌, not, max, ℕ, Bool, true, false, Option, Some, None, List, [], ◌∷◌, refl, sym, ap, ap₂, ◌∙◌, arith}
use Rattle.std.specs.Prelude.{is_some}
use Rattle.xif_base.specs.declared.params.Params.{Params}
use Rattle.coproc_config.specs.Set.{UnitTable}
use Rattle.engine_history.specs.Lives.{Life, is_accepted, is_killed, without_killed}
use Rattle.engine_history.specs.Told.{later, complete_cycle, counts, all_complete, ready_cycle, is_ready, all_ready, outcome_told, units_told}
use Rattle.engine_history.proofs.Tests.{counts_hart}

-- ---- all are ready with the cycle with which all are complete

later_again : (a b : Option ℕ) → later (later a b) b ≡ later a b
later_again None b = refl
later_again (Some a) None = refl
later_again (Some a) (Some b) = ap Some (again a b)
  where
    again : (a b : ℕ) → max (max a b) b ≡ max a b
    again a b = grind arith

pub all_are : (hart : ℕ) (ls : List Life) → all_ready hart ls ≡ all_complete hart ls
all_are hart [] = refl
all_are hart (l ∷ ls) = go (counts hart l) refl (all_are hart ls)
  where
    ready : counts hart l ≡ true → ready_cycle l ls ≡ later (complete_cycle l) (all_complete hart ls)
    ready c =
        let h : l.key.hart ≡ hart = counts_hart hart l c in
        ap (λ k. if counts k l then later (complete_cycle l) (all_complete k ls) else None) h
        ∙ ap (λ t. if t then later (complete_cycle l) (all_complete hart ls) else None) c

    go : (t : Bool) → counts hart l ≡ t → all_ready hart ls ≡ all_complete hart ls → (if t then later (ready_cycle l ls) (all_ready hart ls) else all_ready hart ls) ≡ (if t then later (complete_cycle l) (all_complete hart ls) else all_complete hart ls)
    go true c r = ap₂ later (ready c) r ∙ later_again (complete_cycle l) (all_complete hart ls)
    go false c r = r

-- ---- a killed use leaves nothing

none : (a b : Bool) → (a && (b && false)) ≡ false
none true true = refl
none true false = refl
none false b = refl

killed_passed : (hart : ℕ) (l : Life) → is_killed l ≡ true → counts hart l ≡ false
killed_passed hart l k = ap (λ t. (l.key.hart == hart) && (is_accepted l && not t)) k ∙ none (l.key.hart == hart) (is_accepted l)

complete_without : (hart : ℕ) (ls : List Life) → all_complete hart (without_killed ls) ≡ all_complete hart ls
complete_without hart [] = refl
complete_without hart (l ∷ ls) = go (is_killed l) refl (complete_without hart ls)
  where
    go : (t : Bool) → is_killed l ≡ t → all_complete hart (without_killed ls) ≡ all_complete hart ls → all_complete hart (if not t then l ∷ without_killed ls else without_killed ls) ≡ (if counts hart l then later (complete_cycle l) (all_complete hart ls) else all_complete hart ls)
    go true k r = r ∙ ap (λ t. if t then later (complete_cycle l) (all_complete hart ls) else all_complete hart ls) (sym (killed_passed hart l k))
    go false k r = ap (λ o. if counts hart l then later (complete_cycle l) o else o) r

ready_without : (l : Life) (ls : List Life) → ready_cycle l (without_killed ls) ≡ ready_cycle l ls
ready_without l ls = ap (λ o. if counts l.key.hart l then later (complete_cycle l) o else None) (complete_without l.key.hart ls)

pub units_without : (params : Params) (set : List UnitTable) (hart : ℕ) (ls : List Life) → units_told params set hart (without_killed ls) ≡ units_told params set hart ls
units_without params set hart [] = refl
units_without params set hart (l ∷ ls) = go (is_killed l) refl (units_without params set hart ls)
  where
    never : is_killed l ≡ true → is_ready l ls ≡ false
    never k = ap (λ t. is_some (if t then later (complete_cycle l) (all_complete l.key.hart ls) else None)) (killed_passed l.key.hart l k)

    no_and : (a : Bool) → (a && false) ≡ false
    no_and true = refl
    no_and false = refl

    go : (t : Bool) → is_killed l ≡ t → units_told params set hart (without_killed ls) ≡ units_told params set hart ls
        → units_told params set hart (if not t then l ∷ without_killed ls else without_killed ls)
        ≡ (if (l.key.hart == hart) && is_ready l ls then (outcome_told params set (units_told params set hart ls) l).state else units_told params set hart ls)
    go true k r = r ∙ ap (λ t. if t then (outcome_told params set (units_told params set hart ls) l).state else units_told params set hart ls) (sym (ap (λ x. (l.key.hart == hart) && x) (never k) ∙ no_and (l.key.hart == hart)))
    go false k r = ap₂ (λ x s. if (l.key.hart == hart) && is_some x then (outcome_told params set s l).state else s) (ready_without l ls) r
