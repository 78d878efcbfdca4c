-- Which rule is reported of a cycle.
use Rattle.std.proofs.Common.{◌≡◌, ◌<◌, ◌≤◌, List, Option, Some, None, refl, sym, subst, arith, inl, inr}
use Rattle.std.specs.Prelude.{◌↔◌, ◌⊎◌, IsTrue}
use Rattle.std.proofs.lemmas.Bool.{cases_lt}
use Rattle.xif_base.specs.declared.params.Params.{Params}
use Rattle.xif_base.specs.Params.{IsInRange}
use Rattle.xif_signals.specs.declared.sample.Quad.{Quad}
use Rattle.xif_signals.specs.declared.rule.Rule.{Rule}
use Rattle.xif_signals.specs.Quad.{is_in_session}
use Rattle.xif_session.specs.Legal.{IsBefore, rule_number}
use Rattle.xif_session.proofs.Places.{same_number}
use Rattle.xif_judge.specs.declared.verdict.Fault.{Fault}
use Rattle.xif_judge.specs.Rules.{HoldsAt}
use Rattle.xif_judge.specs.Faults.{fault_now, Reports}
use Rattle.xif_judge.proofs.Now.{IsFault, now_none, now_fault}

module _ (params : Params) (older : List (List Quad)) (sample : List Quad) (range : IsInRange params) (rule : Rule) where
  -- it is the first rule that fails
  abbrev FailsFirst : Type 0
  FailsFirst =
      IsTrue (is_in_session sample params) × (¬ HoldsAt params rule older sample)
      × ((earlier : Rule) → IsBefore earlier rule → HoldsAt params earlier older sample)

  fails_first : (found : Option Fault) → fault_now params older sample ≡ found → Reports found rule → FailsFirst
  fails_first None e r = absurd r
  fails_first (Some fault) e r =
      let f = (now_fault params older sample range fault).0 e in (
        f.within,
        subst (λ other. ¬ HoldsAt params other older sample) r f.fails,
        λ earlier l. f.earlier earlier (subst (λ other. IsBefore earlier other) (sym r) l),
      )

  -- it is the rule of the fault
  first_is : (fault : Fault) → IsFault params older sample fault → FailsFirst → fault.rule ≡ rule
  first_is fault f h = go (cases_lt (rule_number fault.rule) (rule_number rule)) (cases_lt (rule_number rule) (rule_number fault.rule))
    where
      go : (rule_number fault.rule < rule_number rule) ⊎ (rule_number rule ≤ rule_number fault.rule) → (rule_number rule < rule_number fault.rule) ⊎ (rule_number fault.rule ≤ rule_number rule) → fault.rule ≡ rule
      go (inl l) k = absurd (f.fails (h.2 fault.rule l))
      go (inr l) (inl k) = absurd (h.1 (f.earlier rule k))
      go (inr l) (inr k) = same_number fault.rule rule (omega arith)

  is_reported : (found : Option Fault) → fault_now params older sample ≡ found → FailsFirst → Reports found rule
  is_reported None e h = absurd (h.1 ((now_none params older sample range).0 e h.0 rule))
  is_reported (Some fault) e h = first_is fault ((now_fault params older sample range fault).0 e) h

  pub rule_reported : Reports (fault_now params older sample) rule ↔ FailsFirst
  rule_reported = (
    λ r. fails_first (fault_now params older sample) refl r,
    λ h. is_reported (fault_now params older sample) refl h,
  )
