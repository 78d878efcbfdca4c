-- Lists in which one item is put.
use Rattle.std.proofs.Common.{◌≡◌, ◌≢◌, ◌-◌, ◌<◌, ◌==◌, ℕ, zero, suc, Bool, true, false, List, length, set, get_or, replicate, refl, sym, subst, arith}
use Rattle.std.proofs.lemmas.List.{get_or-set_other}
use Rattle.std.proofs.lemmas.Grind.{get_or-set_at}
use Rattle.std.proofs.lemmas.Bool.{eqb-true}
use Rattle.std.proofs.lemmas.Bool.Decides.{nat_tests}

each_by : {X : Type 0} (P : X → Type 0) (xs : List X) (i k : ℕ) (y d : X) (b : Bool) → (k == i) ≡ b → i < length xs → P (get_or xs k d) → P y → P (get_or (set xs i y) k d)
each_by P xs i k y d true e h p q = subst P (sym (get_or-set_at xs i k y d (eqb-true k i e) h)) q
each_by P xs i k y d false e h p q =
    let apart : k ≢ i = grind (arith, nat_tests) in
    subst P (sym (get_or-set_other xs i k y d apart)) p

-- what holds of each item and of the new one
pub each_set : {X : Type 0} (P : X → Type 0) (xs : List X) (i : ℕ) (y d : X) → i < length xs → ((k : ℕ) → P (get_or xs k d)) → P y → (k : ℕ) → P (get_or (set xs i y) k d)
each_set P xs i y d h p q k = each_by P xs i k y d (k == i) refl h (p k) q

-- what holds of an item that fills a list
pub each_replicate : {X : Type 0} (P : X → Type 0) (n : ℕ) (x : X) → P x → (k : ℕ) → P (get_or (replicate n x) k x)
each_replicate P zero x p k = p
each_replicate P (suc n) x p zero = p
each_replicate P (suc n) x p (suc k) = each_replicate P n x p k
