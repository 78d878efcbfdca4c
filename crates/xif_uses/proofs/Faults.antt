-- The first fault of a list of rules, rule by rule, as a side of the judge finds it: a check of
-- each rule, and a return at the first one that fails.
use Rattle.std.proofs.Common.{◌≡◌, ◌∙◌, Bool, true, false, not, if◌then◌else◌, Option, Some, None, List, [], ◌∷◌, refl, ap}
use Rattle.std.specs.Prelude.{Result, Ok, Err, find}
use Rattle.std.specs.Option.{option_map}
use Rattle.xif_base.specs.declared.params.Params.{Params}
use Rattle.xif_signals.specs.declared.bus.Bus.{Bus}
use Rattle.xif_signals.specs.declared.rule.Rule.{Rule}
use Rattle.xif_session.specs.declared.fault.Fault.{Fault}
use Rattle.xif_session.specs.Facts.{Past}
use Rattle.xif_session.specs.Tests.{keeps, fault_of, first_fault_in, answer_of}

-- what a check of a rule returns
abbrev pub outcome : Bool → Fault → Result Unit Fault
outcome test fault = if test then Ok tt else Err fault

module _ (params : Params) (p : Past) (b : Bus) where
  abbrev answer : List Rule → Result Unit Fault
  answer rules = answer_of (first_fault_in rules params p b)

  next : (rule : Rule) (rules : List Rule) (t : Bool) → keeps params rule p b ≡ t → answer (rule ∷ rules) ≡ (if t then answer rules else Err (fault_of params rule p b))
  next rule rules t e = ap (λ x. answer_of (option_map (λ r. fault_of params r p b) (if not x then Some rule else find (λ r. not (keeps params r p b)) rules))) e ∙ go t
    where
      go : (t : Bool) → answer_of (option_map (λ r. fault_of params r p b) (if not t then Some rule else find (λ r. not (keeps params r p b)) rules)) ≡ (if t then answer rules else Err (fault_of params rule p b))
      go true = refl
      go false = refl

  -- its rule holds
  pub holds : (rule : Rule) (rules : List Rule) (t : Bool) (f : Fault) (r : Result Unit Fault) → t ≡ keeps params rule p b → r ≡ outcome t f → r ≡ Ok tt → answer (rule ∷ rules) ≡ answer rules
  holds rule rules true f r e h k = next rule rules true (cc)
  holds rule rules false f r e h k = cc

  -- its rule fails
  pub fails : (rule : Rule) (rules : List Rule) (t : Bool) (f : Fault) (r : Result Unit Fault) (fault : Fault) → t ≡ keeps params rule p b → f ≡ fault_of params rule p b → r ≡ outcome t f → r ≡ Err fault → answer (rule ∷ rules) ≡ Err fault
  fails rule rules true f r fault e g h k = cc
  fails rule rules false f r fault e g h k = let n = next rule rules false (cc) in cc

  -- and it is the last one
  pub ends : (rule : Rule) (t : Bool) (f : Fault) (r : Result Unit Fault) → t ≡ keeps params rule p b → f ≡ fault_of params rule p b → r ≡ outcome t f → answer (rule ∷ []) ≡ r
  ends rule true f r e g h = let n = next rule [] true (cc) in cc
  ends rule false f r e g h = let n = next rule [] false (cc) in cc
