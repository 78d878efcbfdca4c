-- A judge that had no fault so far represents the history with one cycle more.
use Rattle.std.proofs.Common.{◌≡◌, ◌+◌, ℕ, List, ◌∷◌, length, Option, Some, None, Ok, Err, refl, sym, ap, ◌∙◌, subst, arith}
use Rattle.std.specs.Option.{option_map}
use Rattle.xif_base.specs.declared.params.Params.{Params}
use Rattle.xif_signals.specs.declared.sample.Quad.{Quad}
use Rattle.xif_judge.specs.declared.verdict.Fault.{Fault}
use Rattle.xif_judge.specs.declared.verdict.Verdict.{Verdict}
use Rattle.xif_judge.specs.Rules.{past_at}
use Rattle.xif_judge.specs.Faults.{fault_now}
use Rattle.xif_judge.specs.Histories.{verdict_on, first_fault}
use Rattle.xif_judge.specs.Judging.{SessionJudging, HasFollowed, Judging, Represents, fault_answer}

no_fault : (found : Option Fault) → fault_answer found ≡ Ok tt → found ≡ None
no_fault None e = refl
no_fault (Some fault) e = cc

some_fault : (found : Option Fault) (fault : Fault) → fault_answer found ≡ Err fault → found ≡ Some fault
some_fault None fault e = cc
some_fault (Some other) fault e = cc

none_some : {A B : Type 0} (o : Option A) (x : A) → o ≡ Some x → o ≡ None → B
none_some o x e f = cc

module _ (judge : Judging) (params : Params) (history : List (List Quad)) (sample : List Quad) (r : Represents judge params history) (none : judge.verdict ≡ None) where
  pub followed : HasFollowed judge.session judge.params (past_at judge.params history)
  followed = subst (λ (x : Params). HasFollowed judge.session x (past_at x history)) (sym r.same) (r.session none)

  fault_is : (found : Option Fault) → fault_now judge.params history sample ≡ found → first_fault params (sample ∷ history) ≡ option_map (verdict_on (length history)) found
  fault_is found e =
      let before : first_fault params history ≡ None = sym r.verdict ∙ none in
      let now : fault_now params history sample ≡ found = ap (λ (x : Params). fault_now x history sample) (sym r.same) ∙ e in
      rw (before, now) refl

  pub first_ok : Ok tt ≡ fault_answer (fault_now judge.params history sample) → first_fault params (sample ∷ history) ≡ None
  first_ok e = fault_is None (no_fault (fault_now judge.params history sample) (sym e))

  pub first_err : (fault : Fault) → Err fault ≡ fault_answer (fault_now judge.params history sample) → first_fault params (sample ∷ history) ≡ Some (verdict_on judge.cycles fault)
  first_err fault e =
      fault_is (Some fault) (some_fault (fault_now judge.params history sample) fault (sym e))
      ∙ ap (λ (n : ℕ). Some (verdict_on n fault)) (sym r.cycles)

  count : judge.cycles + 1 ≡ length (sample ∷ history)
  count = let e = r.cycles in omega arith

  pub step_ok : (session : SessionJudging) → HasFollowed session judge.params (past_at judge.params (sample ∷ history)) → Ok tt ≡ fault_answer (fault_now judge.params history sample)
      → Represents (record { params = judge.params; cycles = judge.cycles + 1; verdict = judge.verdict; session = session }) params (sample ∷ history)
  step_ok session h e = record {
    same = r.same;
    cycles = count;
    verdict = none ∙ sym (first_ok e);
    session = λ _. subst (λ (x : Params). HasFollowed session x (past_at x (sample ∷ history))) r.same h;
  }

  pub step_err : (session : SessionJudging) (fault : Fault) (verdict : Verdict) → verdict ≡ verdict_on judge.cycles fault → Err fault ≡ fault_answer (fault_now judge.params history sample)
      → Represents (record { params = judge.params; cycles = judge.cycles + 1; verdict = Some verdict; session = session }) params (sample ∷ history)
  step_err session fault verdict v e = record {
    same = r.same;
    cycles = count;
    verdict = ap Some v ∙ sym (first_err fault e);
    session = λ n. none_some (Some verdict) verdict refl n;
  }
