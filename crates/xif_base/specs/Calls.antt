-- Only for the shelf and the output in memory: calls of one kind by their numbers, from 0 on, of
-- which some fail.
use Rattle.std.specs.Prelude.{◌==◌, ℕ, Bool, List, refl}
use Rattle.std.specs.List.{list_any}
use Rattle.std.specs.Coded.{Coded, code_by, coded×, coded_ℕ, coded_list}
use Rattle.xif_base.specs.Faults.{raised}

-- the numbers of the calls that fail, and the number of the next call
pub record CallPlan : Type 0 where
  pub failing : List ℕ
  pub next : ℕ

-- no call was made yet
abbrev pub first_call : List ℕ → CallPlan
first_call numbers = record { failing = numbers; next = 0 }

-- the next call fails: its number is listed
abbrev pub is_failing : CallPlan → Bool
is_failing plan = list_any (λ number. number == plan.next) plan.failing

-- one call later: a number at its largest value stays
abbrev pub after_call : CallPlan → CallPlan
after_call plan = record plan { next = raised plan.next }

-- it is stored as the pair of its fields
abbrev pub call_plan_code : Coded CallPlan
call_plan_code =
    code_by (List ℕ × ℕ) (coded× (coded_list coded_ℕ) coded_ℕ)
    (λ plan. (plan.failing, plan.next))
    (λ t. record { failing = t.0; next = t.1 })
    (λ _. refl)
