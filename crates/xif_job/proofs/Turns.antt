-- Reading the items of an array one after the other, as a loop does.
use Rattle.std.proofs.Common.{◌≡◌, List, [], ◌∷◌, ◌++◌, append_assoc, Result, Ok, Err, refl, sym, ap}
use Rattle.xif_job.specs.declared.field.JobFault.{JobFault}
use Rattle.xif_job.specs.Outcome.{◌>>=◌}

-- what was read before, and what is still read
abbrev pub with_front : {A : Type 0} → List A → Result (List A) JobFault → Result (List A) JobFault
with_front front read = read >>= λ xs. Ok (front ++ xs)

-- one item more was read
pub front_on : {A : Type 0} (front : List A) (x : A) (read : Result (List A) JobFault)
    → with_front front (read >>= λ xs. Ok (x ∷ xs)) ≡ with_front (front ++ x ∷ []) read
front_on front x (Ok xs) = ap (λ l. Ok l) (sym (append_assoc front (x ∷ []) xs))
front_on front x (Err e) = refl
