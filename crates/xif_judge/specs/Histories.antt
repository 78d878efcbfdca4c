-- Which histories are legal, and the first fault of one that isn't. The cycles are numbered from 0,
-- in all sessions and between them.
use Rattle.std.specs.Prelude.{◌≡◌, ℕ, List, [], ◌∷◌, ◌++◌, length, IsTrue, Option, Some, None}
use Rattle.std.specs.Option.{option_map, option_or}
use Rattle.xif_base.specs.declared.params.Params.{Params}
use Rattle.xif_signals.specs.declared.rule.Rule.{Rule}
use Rattle.xif_signals.specs.declared.sample.Quad.{Quad}
use Rattle.xif_signals.specs.Quad.{is_in_session}
use Rattle.xif_session.specs.Legal.{IsBefore}
use Rattle.xif_judge.specs.declared.verdict.Fault.{Fault}
use Rattle.xif_judge.specs.declared.verdict.Verdict.{Verdict}
use Rattle.xif_judge.specs.Rules.{HoldsAt}
use Rattle.xif_judge.specs.Faults.{reported, fault_now}

-- No rule fails: in each cycle that is in a session every rule holds.
abbrev pub IsLegal : Params → List (List Quad) → Type 0
IsLegal params [] = Unit {0}
IsLegal params (sample ∷ older) =
    (IsTrue (is_in_session sample params) → (rule : Rule) → HoldsAt params rule older sample)
    × IsLegal params older

-- The first fault of a history: no rule fails before its cycle; in its cycle its rule fails, and
-- every rule before it holds.
pub record IsFirst (params : Params) (history : List (List Quad)) (verdict : Verdict) : Type 0 where
  pub newer : List (List Quad)
  pub sample : List Quad
  pub older : List (List Quad)
  pub parts : history ≡ newer ++ sample ∷ older
  pub cycle : verdict.cycle ≡ length older
  pub legal : IsLegal params older
  pub within : IsTrue (is_in_session sample params)
  pub fails : ¬ HoldsAt params verdict.rule older sample
  pub earlier : (rule : Rule) → IsBefore rule verdict.rule → HoldsAt params rule older sample
  -- its channel and its key are those of its rule
  pub place : reported params verdict.rule older sample
      ≡ Some (record { rule = verdict.rule; channel = verdict.channel; key = verdict.key })

-- ---- the first fault as a function

abbrev pub verdict_on : ℕ → Fault → Verdict
verdict_on cycle fault =
    record { cycle = cycle; rule = fault.rule; channel = fault.channel; key = fault.key }

-- That of the older part, else that of the newest cycle. As many cycles as the older part has come
-- before that one.
abbrev pub first_fault : Params → List (List Quad) → Option Verdict
first_fault params [] = None
first_fault params (sample ∷ older) =
    option_or (first_fault params older)
    (option_map (verdict_on (length older)) (fault_now params older sample))
