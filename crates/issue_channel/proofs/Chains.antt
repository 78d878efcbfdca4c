-- The first fault of a list of rules, rule by rule.
use Rattle.std.proofs.Common.{◌≡◌, ◌++◌, not, Bool, true, false, if◌then◌else◌, Some, List, [], ◌∷◌, refl, sym, ap, ◌∙◌}
use Rattle.std.specs.Prelude.{find, Result, Ok, Err}
use Rattle.std.specs.Option.{option_map}
use Rattle.xif_base.specs.declared.params.Params.{Params}
use Rattle.xif_signals.specs.declared.bus.Bus.{Bus}
use Rattle.xif_signals.specs.declared.rule.Rule.{Rule}
use Rattle.xif_session.specs.declared.fault.Fault.{Fault}
use Rattle.xif_session.specs.Facts.{Past}
use Rattle.xif_session.specs.Tests.{keeps, fault_of, first_fault_in, answer_of}

-- what a check of a test answers
abbrev pub answer_by : Bool → Fault → Result Unit Fault
answer_by holds fault = if holds then Ok tt else Err fault

abbrev pub then_answer : Result Unit Fault → Result Unit Fault → Result Unit Fault
then_answer (Ok x) later = later
then_answer (Err fault) later = Err fault

pub chain : (rule : Rule) (rules : List Rule) (params : Params) (p : Past) (b : Bus)
    → answer_of (first_fault_in (rule ∷ rules) params p b) ≡ then_answer (answer_by (keeps params rule p b) (fault_of params rule p b)) (answer_of (first_fault_in rules params p b))
chain rule rules params p b = go (keeps params rule p b)
  where
    go : (t : Bool) → answer_of (option_map (λ rule. fault_of params rule p b) (if not t then Some rule else find (λ rule. not (keeps params rule p b)) rules))
        ≡ then_answer (answer_by t (fault_of params rule p b)) (answer_of (first_fault_in rules params p b))
    go true = refl
    go false = refl

-- a check that passed goes on to the rest
pub passes : (rule : Rule) (rules : List Rule) (params : Params) (p : Past) (b : Bus) (holds : Bool) (answer : Result Unit Fault) (u : Unit)
    → holds ≡ keeps params rule p b → answer ≡ answer_by holds (fault_of params rule p b) → answer ≡ Ok u
    → answer_of (first_fault_in rules params p b) ≡ answer_of (first_fault_in (rule ∷ rules) params p b)
passes rule rules params p b holds answer u t a o =
    sym (chain rule rules params p b ∙ ap (λ r. then_answer r (answer_of (first_fault_in rules params p b))) (ap (λ t. answer_by t (fault_of params rule p b)) (sym t) ∙ sym a ∙ o))

-- one that failed gives the fault
pub fails : (rule : Rule) (rules : List Rule) (params : Params) (p : Past) (b : Bus) (holds : Bool) (answer : Result Unit Fault) (fault : Fault)
    → holds ≡ keeps params rule p b → answer ≡ answer_by holds (fault_of params rule p b) → answer ≡ Err fault
    → Err fault ≡ answer_of (first_fault_in (rule ∷ rules) params p b)
fails rule rules params p b holds answer fault t a o =
    sym (chain rule rules params p b ∙ ap (λ r. then_answer r (answer_of (first_fault_in rules params p b))) (ap (λ t. answer_by t (fault_of params rule p b)) (sym t) ∙ sym a ∙ o))

-- the last one
pub ends : (rule : Rule) (params : Params) (p : Past) (b : Bus) (holds : Bool) (answer : Result Unit Fault)
    → holds ≡ keeps params rule p b → answer ≡ answer_by holds (fault_of params rule p b)
    → answer ≡ answer_of (first_fault_in (rule ∷ []) params p b)
ends rule params p b holds answer t a = a ∙ ap (λ t. answer_by t (fault_of params rule p b)) t ∙ go (keeps params rule p b) ∙ sym (chain rule [] params p b)
  where
    go : (t : Bool) → answer_by t (fault_of params rule p b) ≡ then_answer (answer_by t (fault_of params rule p b)) (Ok tt)
    go true = refl
    go false = refl

-- rules in two parts
pub parts : (first later : List Rule) (params : Params) (p : Past) (b : Bus)
    → answer_of (first_fault_in (first ++ later) params p b) ≡ then_answer (answer_of (first_fault_in first params p b)) (answer_of (first_fault_in later params p b))
parts [] later params p b = refl
parts (rule ∷ rules) later params p b =
    chain rule (rules ++ later) params p b
    ∙ ap (then_answer (answer_by (keeps params rule p b) (fault_of params rule p b))) (parts rules later params p b)
    ∙ go (keeps params rule p b)
    ∙ ap (λ r. then_answer r (answer_of (first_fault_in later params p b))) (sym (chain rule rules params p b))
  where
    go : (t : Bool) → then_answer (answer_by t (fault_of params rule p b)) (then_answer (answer_of (first_fault_in rules params p b)) (answer_of (first_fault_in later params p b)))
        ≡ then_answer (then_answer (answer_by t (fault_of params rule p b)) (answer_of (first_fault_in rules params p b))) (answer_of (first_fault_in later params p b))
    go true = refl
    go false = refl
