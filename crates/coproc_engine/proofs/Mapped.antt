-- A loop that changes each use.
use Rattle.std.proofs.Common.{◌≡◌, ◌<◌, ◌+◌, ◌++◌, ℕ, suc, zero, List, [], ◌∷◌, length, take, drop, map, get_or, set, ap, ◌∙◌, arith}
use Rattle.std.proofs.lemmas.Grind.{common_steps}
use Rattle.cycle_spec.specs.declared.use_of.Use.{Use}

mapped_suc : (f : Use → Use) (us : List Use) (i : ℕ) (d : Use) → i < length us → set (map f (take i us) ++ drop i us) i (f (get_or (map f (take i us) ++ drop i us) i d)) ≡ map f (take (suc i) us) ++ drop (suc i) us
mapped_suc f [] i d h = grind arith
mapped_suc f (u ∷ us) zero d h = grind (arith, common_steps)
mapped_suc f (u ∷ us) (suc i) d h = ap (λ l. f u ∷ l) (mapped_suc f us i d (omega arith))

-- one more use is changed
pub mapped_more : (f : Use → Use) (us now : List Use) (i : ℕ) (d : Use) → i < length us → now ≡ map f (take i us) ++ drop i us → set now i (f (get_or now i d)) ≡ map f (take (i + 1) us) ++ drop (i + 1) us
mapped_more f us now i d h e =
    let next : suc i ≡ i + 1 = omega arith in
    ap (λ l. set l i (f (get_or l i d))) e ∙ mapped_suc f us i d h ∙ ap (λ n. map f (take n us) ++ drop n us) next
