-- Before the first cycle.
use Rattle.std.proofs.Common.{◌≡◌, ◌≤◌, ℕ, List, [], All, length, replicate, ◌+◌, ◌∷◌, refl, ap, ◌∙◌}
use Rattle.std.specs.Prelude.{nat_eq}
use Rattle.std.specs.List.{IsDistinct}
use Rattle.std.proofs.lemmas.List.{length-replicate}
use Rattle.std.proofs.lemmas.List.Elements.{All-nil}
use Rattle.xif_base.specs.declared.params.Params.{Params}
use Rattle.xif_signals.specs.declared.signal.Signal.TheVariants.{ResultData, ResultWe}
use Rattle.xif_signals.specs.Signal.{width_of}
use Rattle.coproc_config.specs.Set.{UnitTable}
use Rattle.coproc_config.specs.State.{IsStateOf, zeros}
use Rattle.coproc_engine.specs.Fits.{HasEntry, IsKey, IsNarrow, AreUses, AreUnits, ahead_in_harts, room_of}

none_same : IsDistinct nat_eq []
unfolding IsDistinct
none_same = tt

pub no_uses : (p : Params) (set : List UnitTable) (room : ℕ) → room_of p ≤ room → AreUses p set [] room
no_uses p set room h = record {
  entries = All-nil (HasEntry set);
  narrow = All-nil (IsNarrow (width_of ResultWe p) (width_of ResultData p));
  keys = record { each = All-nil (IsKey p); distinct = none_same };
  fits = h;
}

pub new_units : (p : Params) (set : List UnitTable) (units : List (List (List ℕ))) → units ≡ replicate p.num_harts (zeros set) → All (IsStateOf set) units → AreUnits p set units
new_units p set units e s = record { harts = ap (λ us. length us) e ∙ length-replicate p.num_harts (zeros set); states = s }

pub new_ahead : (set : List UnitTable) (hart : ℕ) (units : List (List (List ℕ))) → units ≡ ahead_in_harts set hart units []
new_ahead set hart [] = refl
new_ahead set hart (state ∷ units) = ap (λ states. state ∷ states) (new_ahead set (hart + 1) units)
