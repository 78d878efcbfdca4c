-- G5 asks for responses and operands, which a decision leaves alone.
use Rattle.std.proofs.Common.{◌≡◌, ◌&&◌, ◌==◌, not, Bool, true, false, ℕ, Option, Some, None, [], ◌∷◌, refl, sym, ap, ◌∙◌, subst}
use Rattle.std.specs.Prelude.{Result, Ok, Err}
use Rattle.std.specs.Option.{option_map}
use Rattle.xif_base.specs.declared.params.Key.{Key}
use Rattle.xif_base.specs.declared.params.Params.{Params}
use Rattle.xif_signals.specs.declared.bus.Bus.{Bus}
use Rattle.xif_signals.specs.declared.rule.Rule.TheVariants.{G5}
use Rattle.xif_session.specs.declared.fact.Fact.{Fact}
use Rattle.xif_session.specs.declared.fault.Fault.{Fault}
use Rattle.xif_session.specs.Facts.{Past, Facts, named, answered_on, given_on, decided_from, with_decision, effective_start, now}
use Rattle.xif_session.specs.Tests.{if_use, has_operands, keeps_G5_issue, keeps_G5_register, fault_by_key, first_fault_in, answer_of}
use Rattle.xif_uses.specs.Table.{Table, IsKey, Represents, facts_in}
use Rattle.issue_channel.proofs.Chains.{answer_by, then_answer, chain}

abbrev pub got : Option Fact → Bool
got found = if_use (λ fact. has_operands fact.response fact.operands) found

-- a decision changes none of it
got_decided : (start : Option ℕ) (hart : ℕ) (kill : Bool) (facts : Facts) (key : Key) → got (decided_from start hart kill facts key) ≡ got (facts key)
got_decided None hart kill facts key = refl
got_decided (Some start) hart kill facts key = go (facts key)
  where
    go : (found : Option Fact) → got (option_map (with_decision (hart == key.hart) start kill) found) ≡ got found
    go None = refl
    go (Some fact) = refl

-- what the table says of a key is what the facts by the cycle say
pub got_now : (table : Table) (params : Params) (p : Past) (b : Bus) (key used : Key) (answer : Bool) → Represents table params (given_on b (answered_on b (named p b))) → IsKey table.params key → used ≡ key
    → answer ≡ got (facts_in table used) → answer ≡ got (now p b key)
got_now table params p b key used answer r k u e =
    e ∙ ap (λ key. got (facts_in table key)) u
    ∙ ap got (r.uses key (subst (λ q. IsKey q key) r.same k))
    ∙ sym (got_decided (effective_start p b) b.commit_hartid b.commit_kill (given_on b (answered_on b (named p b))) key)

-- G5 of the issue key comes before that of the register key
two_keys : (params : Params) (p : Past) (b : Bus) → then_answer (answer_by (keeps_G5_issue p b) (fault_by_key G5 true b)) (answer_by (keeps_G5_register p b) (fault_by_key G5 false b))
    ≡ answer_of (first_fault_in (G5 ∷ []) params p b)
two_keys params p b = go (keeps_G5_issue p b) (keeps_G5_register p b) ∙ sym (chain G5 [] params p b)
  where
    go : (x y : Bool) → then_answer (answer_by x (fault_by_key G5 true b)) (answer_by y (fault_by_key G5 false b)) ≡ then_answer (answer_by (x && y) (fault_by_key G5 (not x) b)) (Ok tt)
    go true true = refl
    go true false = refl
    go false y = refl

then_by : (p : Past) (b : Bus) (holds : Bool) (answer found later : Result Unit Fault) → holds ≡ keeps_G5_issue p b → answer ≡ answer_by holds (fault_by_key G5 true b) → answer ≡ found
    → then_answer found later ≡ then_answer (answer_by (keeps_G5_issue p b) (fault_by_key G5 true b)) later
then_by p b holds answer found later t a o = ap (λ r. then_answer r later) (sym o ∙ a ∙ ap (λ t. answer_by t (fault_by_key G5 true b)) t)

pub fails_G5 : (params : Params) (p : Past) (b : Bus) (holds : Bool) (answer : Result Unit Fault) (fault : Fault)
    → holds ≡ keeps_G5_issue p b → answer ≡ answer_by holds (fault_by_key G5 true b) → answer ≡ Err fault → Err fault ≡ answer_of (first_fault_in (G5 ∷ []) params p b)
fails_G5 params p b holds answer fault t a o =
    then_by p b holds answer (Err fault) (answer_by (keeps_G5_register p b) (fault_by_key G5 false b)) t a o ∙ two_keys params p b

pub ends_G5 : (params : Params) (p : Past) (b : Bus) (holds : Bool) (answer : Result Unit Fault) (u : Unit) (holds' : Bool) (answer' : Result Unit Fault)
    → holds ≡ keeps_G5_issue p b → answer ≡ answer_by holds (fault_by_key G5 true b) → answer ≡ Ok u
    → holds' ≡ keeps_G5_register p b → answer' ≡ answer_by holds' (fault_by_key G5 false b) → answer' ≡ answer_of (first_fault_in (G5 ∷ []) params p b)
ends_G5 params p b holds answer u holds' answer' t a o t' a' =
    a' ∙ ap (λ t. answer_by t (fault_by_key G5 false b)) t'
    ∙ then_by p b holds answer (Ok u) (answer_by (keeps_G5_register p b) (fault_by_key G5 false b)) t a o ∙ two_keys params p b
