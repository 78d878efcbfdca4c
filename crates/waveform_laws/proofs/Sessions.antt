-- The first fault of the samples of buses is that of the session of these buses.
use Rattle.std.proofs.Common.{◌≡◌, true, if◌then◌else◌, List, [], ◌∷◌, map, length, Option, Some, None, refl, sym, ap, ap₂, ◌∙◌}
use Rattle.std.specs.Prelude.{◌↔◌}
use Rattle.std.specs.List.{AllByRecursion}
use Rattle.std.specs.Option.{option_map, option_or}
use Rattle.xif_base.specs.declared.params.Params.{Params}
use Rattle.xif_base.specs.Params.{IsInRange}
use Rattle.xif_signals.specs.declared.bus.Bus.{Bus}
use Rattle.xif_signals.specs.Quad.{is_in_session}
use Rattle.xif_signals.specs.Bus.{sample_of, bus_of, FitsWidths}
use Rattle.xif_signals.specs.Known.{known_of}
use Rattle.xif_signals.proofs.ReadsBack.{bus_of-sample_of, known_of-sample_of}
use Rattle.xif_session.specs.Facts.{past_of}
use Rattle.xif_session.specs.Legal.{HoldsAll, IsLegalSession}
use Rattle.xif_session.specs.Tests.{bus_fault}
use Rattle.xif_session.proofs.Places.{none_holds}
use Rattle.xif_judge.specs.Rules.{session_of, past_at}
use Rattle.xif_judge.specs.Faults.{with_key, fault_by, fault_now}
use Rattle.xif_judge.specs.Histories.{verdict_on, first_fault}

none-left : {A B : Type 0} (f : A → B) (o : Option A) → option_map f o ≡ None → o ≡ None
none-left f None e = refl
none-left f (Some x) e = cc

or-none : {A : Type 0} (a b : Option A) → option_or a b ≡ None → (a ≡ None) × (b ≡ None)
or-none None b e = (refl, e)
or-none (Some x) b e = cc

module _ (params : Params) (range : IsInRange params) where
  in-session : (b : Bus) → is_in_session (sample_of b) params ≡ true
  in-session b = refl

  -- the buses of the session
  buses-back : (session : List Bus) → AllByRecursion (FitsWidths params) session → session_of params (map sample_of session) ≡ session
  buses-back [] h = refl
  buses-back (b ∷ session) h =
      ap (λ t. if t then bus_of (sample_of b) params ∷ session_of params (map sample_of session) else []) (in-session b)
      ∙ ap₂ (λ x xs. x ∷ xs) (bus_of-sample_of b params range h.0) (buses-back session h.1)

  -- the fault of a cycle
  fault-now : (b : Bus) (session : List Bus) → FitsWidths params b → AllByRecursion (FitsWidths params) session
      → fault_now params (map sample_of session) (sample_of b) ≡ option_map with_key (bus_fault params (past_of session) b)
  fault-now b session h hs =
      ap (λ t. if t then fault_by params (past_at params (map sample_of session)) (known_of (sample_of b) params) else None) (in-session b)
      ∙ ap (λ r. fault_by params (past_at params (map sample_of session)) r) (known_of-sample_of b params range h)
      ∙ ap (λ s. option_map with_key (bus_fault params (past_of s) b)) (buses-back session hs)

  holds-of : (b : Bus) (session : List Bus) → FitsWidths params b → AllByRecursion (FitsWidths params) session
      → fault_now params (map sample_of session) (sample_of b) ≡ None → HoldsAll params (past_of session) b
  holds-of b session h hs e =
      (none_holds params (past_of session) b range).0 (none-left with_key (bus_fault params (past_of session) b) (sym (fault-now b session h hs) ∙ e))

  none-of : (b : Bus) (session : List Bus) → FitsWidths params b → AllByRecursion (FitsWidths params) session
      → HoldsAll params (past_of session) b → fault_now params (map sample_of session) (sample_of b) ≡ None
  none-of b session h hs k =
      fault-now b session h hs ∙ ap (option_map with_key) ((none_holds params (past_of session) b range).1 k)

  legal-of : (session : List Bus) → AllByRecursion (FitsWidths params) session → first_fault params (map sample_of session) ≡ None → IsLegalSession params session
  legal-of [] h e = tt
  legal-of (b ∷ session) h e =
      let parts = or-none (first_fault params (map sample_of session)) (option_map (verdict_on (length (map sample_of session))) (fault_now params (map sample_of session) (sample_of b))) e in
      (holds-of b session h.0 h.1 (none-left (verdict_on (length (map sample_of session))) (fault_now params (map sample_of session) (sample_of b)) parts.1), legal-of session h.1 parts.0)

  of-legal : (session : List Bus) → AllByRecursion (FitsWidths params) session → IsLegalSession params session → first_fault params (map sample_of session) ≡ None
  of-legal [] h k = refl
  of-legal (b ∷ session) h k =
      ap₂ (λ x y. option_or x (option_map (verdict_on (length (map sample_of session))) y)) (of-legal session h.1 k.1) (none-of b session h.0 h.1 k.0)

  pub first_legal : (session : List Bus) → AllByRecursion (FitsWidths params) session → (first_fault params (map sample_of session) ≡ None) ↔ IsLegalSession params session
  first_legal session h = (legal-of session h, of-legal session h)
