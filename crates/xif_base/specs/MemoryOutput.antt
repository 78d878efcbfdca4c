-- Only for the output in memory: what it holds, and what a call does to it.
use Rattle.std.specs.Prelude.{◌++◌, ℕ, List, [], if◌then◌else◌, refl}
use Rattle.std.specs.Coded.{Coded, code_by, coded×, coded_ℕ, coded_list}
use Rattle.xif_base.specs.Faults.{raised}
use Rattle.xif_base.specs.Calls.{CallPlan, first_call, is_failing, after_call, call_plan_code}

-- The bytes put so far, the largest number of bytes that a call moves, the plan of the puts, and
-- how many of them failed.
pub record OutputState : Type 0 where
  pub bytes : List ℕ
  pub grain : ℕ
  pub puts : CallPlan
  pub faults : ℕ

-- no byte, no call, no fault
abbrev pub new_output : ℕ → List ℕ → OutputState
new_output grain puts = record { bytes = []; grain = grain; puts = first_call puts; faults = 0 }

-- one put later, which moved this piece: the count of faults rose if the put failed
abbrev pub after_put : OutputState → List ℕ → OutputState
after_put s piece = record s {
  bytes = s.bytes ++ piece;
  puts = after_call s.puts;
  faults = if is_failing s.puts then raised s.faults else s.faults;
}

-- it is stored as the tuple of its fields
abbrev pub output_state_code : Coded OutputState
output_state_code =
    code_by (List ℕ × (ℕ × (CallPlan × ℕ)))
    (coded× (coded_list coded_ℕ) (coded× coded_ℕ (coded× call_plan_code coded_ℕ)))
    (λ s. (s.bytes, (s.grain, (s.puts, s.faults))))
    (λ t. record { bytes = t.0; grain = t.1.0; puts = t.1.1.0; faults = t.1.1.1 })
    (λ _. refl)
