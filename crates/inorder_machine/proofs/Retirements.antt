-- How far the in-order machine comes within a budget.
use Rattle.std.proofs.Common.{◌≡◌, ◌+◌, ◌<◌, ◌≤◌, ◌==◌, ℕ, suc, zero, cond, Option, Some, None, refl, sym, ap, ◌∙◌, ⊎_elim, arith, add-one}
use Rattle.std.specs.Option.{option_and_then, is_some, unwrap_or}
use Rattle.std.proofs.lemmas.Bool.{cases_lt}
use Rattle.std.proofs.lemmas.Bool.Decides.{nat_tests}
use Rattle.inorder_machine.specs.declared.stop.StopCause.{StopCause}
use Rattle.inorder_machine.specs.Machine.{Extension, State, next_step}
use Rattle.inorder_machine.specs.After.{next_state, after, retired_within, last_within, stop_of, stop_within}

-- one retirement more
pub after-more : (x : Extension) → (n : ℕ) (s t : State) → after x n s ≡ Some t → after x (n + 1) s ≡ next_state x t
after-more x n s t e = rw add-one (ap (option_and_then (next_state x)) e)

-- behind a stop there is no state
after-past : (x : Extension) → (m n : ℕ) (s t : State) → after x n s ≡ Some t → next_state x t ≡ None → n < m → after x m s ≡ None
after-past x zero n s t e stop h = absurd (omega arith)
after-past x (suc m) n s t e stop h =
    ⊎_elim
    (λ (below : n < m). ap (option_and_then (next_state x)) (after-past x m n s t e stop below))
    (λ (at : m ≤ n).
    let same : m ≡ n = omega arith in
    ap (λ k. option_and_then (next_state x) (after x k s)) same ∙ ap (option_and_then (next_state x)) e ∙ stop)
    (cases_lt n m)

-- no stop within the budget
pub retired_within-full : (x : Extension) → (n : ℕ) (s t : State) → after x n s ≡ Some t → retired_within x n s ≡ n
retired_within-full x zero s t e = refl
retired_within-full x (suc n) s t e = ap (λ o. cond (is_some o) (suc n) (retired_within x n s)) e

-- a stop within the budget
pub retired_within-stopped : (x : Extension) → (budget n : ℕ) (s t : State) → after x n s ≡ Some t → next_state x t ≡ None → n ≤ budget → retired_within x budget s ≡ n
retired_within-stopped x zero n s t e stop h = omega arith
retired_within-stopped x (suc budget) n s t e stop h =
    ⊎_elim
    (λ (below : n < suc budget).
    ap (λ o. cond (is_some o) (suc budget) (retired_within x budget s)) (after-past x (suc budget) n s t e stop below)
    ∙ retired_within-stopped x budget n s t e stop (omega arith))
    (λ (at : suc budget ≤ n).
    let same : suc budget ≡ n = omega arith in
    ap (λ k. retired_within x k s) same ∙ retired_within-full x n s t e)
    (cases_lt n (suc budget))

-- where and how a run within a budget ends
pub record Ends (x : Extension) (budget n : ℕ) (s t : State) (stop : Option StopCause) : Type 0 where
  pub retired : n ≡ retired_within x budget s
  pub last : t ≡ last_within x budget s
  pub stop_is : stop ≡ stop_within x budget s

ends : (x : Extension) → (budget n : ℕ) (s t : State) (stop : Option StopCause) → after x n s ≡ Some t → n ≡ retired_within x budget s → cond (n == budget) None (stop_of (next_step x t)) ≡ stop → Ends x budget n s t stop
ends x budget n s t stop e same how =
    let last : t ≡ last_within x budget s = sym (ap (λ k. unwrap_or (after x k s) s) (sym same) ∙ ap (λ o. unwrap_or o s) e) in
    record {
      retired = same;
      last = last;
      stop_is = sym how ∙ ap (λ k. cond (k == budget) None (stop_of (next_step x t))) same ∙ ap (λ u. cond (retired_within x budget s == budget) None (stop_of (next_step x u))) last;
    }

-- by its budget
pub ends-full : (x : Extension) → (n : ℕ) (s t : State) → after x n s ≡ Some t → Ends x n n s t None
ends-full x n s t e = ends x n n s t None e (sym (retired_within-full x n s t e)) (grind (arith, nat_tests))

-- by an instruction that doesn't retire
pub ends-early : (x : Extension) → (budget n : ℕ) (s t : State) → after x n s ≡ Some t → next_state x t ≡ None → n < budget → Ends x budget n s t (stop_of (next_step x t))
ends-early x budget n s t e stop h = ends x budget n s t (stop_of (next_step x t)) e (sym (retired_within-stopped x budget n s t e stop (omega arith))) (grind (arith, nat_tests))
