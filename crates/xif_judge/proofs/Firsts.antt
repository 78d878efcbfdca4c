-- The first fault of a history against the rules in its cycles.
use Rattle.std.proofs.Common.{◌≡◌, List, [], ◌∷◌, ◌++◌, length, Option, Some, None, refl, sym, ap, ◌∙◌, subst}
use Rattle.std.specs.Prelude.{◌↔◌}
use Rattle.std.specs.Option.{option_map, option_or}
use Rattle.xif_base.specs.declared.params.Params.{Params}
use Rattle.xif_base.specs.Params.{IsInRange}
use Rattle.xif_signals.specs.declared.sample.Quad.{Quad}
use Rattle.xif_judge.specs.declared.verdict.Fault.{Fault}
use Rattle.xif_judge.specs.declared.verdict.Verdict.{Verdict}
use Rattle.xif_judge.specs.Faults.{fault_now}
use Rattle.xif_judge.specs.Histories.{verdict_on, first_fault, IsLegal, IsFirst}
use Rattle.xif_judge.proofs.Now.{now_none, now_fault}

some_is : {A : Type 0} (x y : A) → Some x ≡ Some y → x ≡ y
some_is x y e = cc

module _ (params : Params) (range : IsInRange params) where
  -- ---- no fault

  none_legal_by : (sample : List Quad) (older : List (List Quad)) (so_far : Option Verdict) (fault : Option Fault) → first_fault params older ≡ so_far → fault_now params older sample ≡ fault
      → (first_fault params older ≡ None → IsLegal params older)
      → option_or so_far (option_map (verdict_on (length older)) fault) ≡ None → IsLegal params (sample ∷ older)
  none_legal_by sample older None None e f legal q = ((now_none params older sample range).0 f, legal e)
  none_legal_by sample older None (Some fault) e f legal q = cc
  none_legal_by sample older (Some verdict) fault e f legal q = cc

  of_none : (history : List (List Quad)) → first_fault params history ≡ None → IsLegal params history
  of_none [] e = tt
  of_none (sample ∷ older) e = none_legal_by sample older (first_fault params older) (fault_now params older sample) refl refl (of_none older) e

  of_legal : (history : List (List Quad)) → IsLegal params history → first_fault params history ≡ None
  of_legal [] h = refl
  of_legal (sample ∷ older) h = rw (of_legal older h.1, (now_none params older sample range).1 h.0) refl

  pub none_legal : (history : List (List Quad)) → (first_fault params history ≡ None) ↔ IsLegal params history
  none_legal history = (of_none history, of_legal history)

  -- ---- the first fault

  -- with a newer cycle it stays the first
  one_newer : (sample : List Quad) (older : List (List Quad)) (verdict : Verdict) → IsFirst params older verdict → IsFirst params (sample ∷ older) verdict
  one_newer sample older verdict f = record {
    newer = sample ∷ f.newer;
    sample = f.sample;
    older = f.older;
    parts = ap (λ samples. sample ∷ samples) f.parts;
    cycle = f.cycle;
    legal = f.legal;
    within = f.within;
    fails = f.fails;
    earlier = f.earlier;
    place = f.place;
  }

  is_newest : (sample : List Quad) (older : List (List Quad)) (fault : Fault) → first_fault params older ≡ None → fault_now params older sample ≡ Some fault
      → IsFirst params (sample ∷ older) (verdict_on (length older) fault)
  is_newest sample older fault none e =
      let f = (now_fault params older sample range fault).0 e in
      record {
        newer = [];
        sample = sample;
        older = older;
        parts = refl;
        cycle = refl;
        legal = of_none older none;
        within = f.within;
        fails = f.fails;
        earlier = f.earlier;
        place = f.place;
      }

  first_by : (sample : List Quad) (older : List (List Quad)) (so_far : Option Verdict) (fault : Option Fault) (verdict : Verdict) → first_fault params older ≡ so_far → fault_now params older sample ≡ fault
      → (first_fault params older ≡ Some verdict → IsFirst params older verdict)
      → option_or so_far (option_map (verdict_on (length older)) fault) ≡ Some verdict → IsFirst params (sample ∷ older) verdict
  first_by sample older (Some other) fault verdict e f before q = one_newer sample older verdict (before (e ∙ q))
  first_by sample older None (Some fault) verdict e f before q =
      subst (IsFirst params (sample ∷ older)) (some_is _ _ q) (is_newest sample older fault e f)
  first_by sample older None None verdict e f before q = cc

  of_some : (history : List (List Quad)) (verdict : Verdict) → first_fault params history ≡ Some verdict → IsFirst params history verdict
  of_some [] verdict e = cc
  of_some (sample ∷ older) verdict e =
      first_by sample older (first_fault params older) (fault_now params older sample) verdict refl refl (of_some older verdict) e

  stays : (newer rest : List (List Quad)) (verdict : Verdict) → first_fault params rest ≡ Some verdict → first_fault params (newer ++ rest) ≡ Some verdict
  stays [] rest verdict e = e
  stays (sample ∷ newer) rest verdict e = rw (stays newer rest verdict e) refl

  of_first : (history : List (List Quad)) (verdict : Verdict) → IsFirst params history verdict → first_fault params history ≡ Some verdict
  of_first history verdict f =
      let fault : Fault = record { rule = verdict.rule; channel = verdict.channel; key = verdict.key } in
      let none = of_legal f.older f.legal in
      let now = (now_fault params f.older f.sample range fault).1 (record { within = f.within; fails = f.fails; earlier = f.earlier; place = f.place }) in
      let newest : first_fault params (f.sample ∷ f.older) ≡ Some (verdict_on (length f.older) fault) = rw (none, now) refl in
      let here : verdict_on (length f.older) fault ≡ verdict = ap (λ cycle. verdict_on cycle fault) (sym f.cycle) in
      ap (first_fault params) f.parts ∙ stays f.newer (f.sample ∷ f.older) verdict (newest ∙ ap Some here)

  pub first_is : (history : List (List Quad)) (verdict : Verdict) → (first_fault params history ≡ Some verdict) ↔ IsFirst params history verdict
  first_is history verdict = (of_some history verdict, of_first history verdict)
