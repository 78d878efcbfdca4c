-- The steps of the engine, but for the ends of uses and for what the units make of them.
use Rattle.std.proofs.Common.{if◌then◌else◌, ◌≡◌, ◌+◌, ◌&&◌, ◌||◌, not, ℕ, Bool, true, false, Option, Some, None, List, [], ◌∷◌, map, filter, refl, ap, ap₂, ◌∙◌}
use Rattle.std.specs.Option.{option_map}
use Rattle.std.specs.List.{last_or, list_any}
use Rattle.xif_base.specs.declared.params.Key.{Key}
use Rattle.coproc_config.specs.Set.{UnitTable}
use Rattle.xif_signals.specs.declared.bus.CopOut.{CopOut}
use Rattle.xif_signals.specs.declared.bus.CpuIn.{CpuIn}
use Rattle.xif_session.specs.Facts.{same_key}
use Rattle.cycle_spec.specs.declared.use_of.Use.{Use}
use Rattle.cycle_spec.specs.Engine as spec
use Rattle.engine_history.specs.Told.{plain}

-- ---- a change of each use, beside `plain`

pub plain_map : (g : Use → Use) → ((u : Use) → plain (g u) ≡ g (plain u)) → (us : List Use) → map plain (map g us) ≡ map g (map plain us)
plain_map g h [] = refl
plain_map g h (u ∷ us) = ap₂ (λ x xs. x ∷ xs) (h u) (plain_map g h us)

pub plain_drop : (g : Use → Use) → ((u : Use) → plain (g u) ≡ plain u) → (us : List Use) → map plain (map g us) ≡ map plain us
plain_drop g h [] = refl
plain_drop g h (u ∷ us) = ap₂ (λ x xs. x ∷ xs) (h u) (plain_drop g h us)

-- ---- what a key names

filter_plain : (key : Key) (us : List Use) → filter (spec.has_key key) (map plain us) ≡ map plain (filter (spec.has_key key) us)
filter_plain key [] = refl
filter_plain key (u ∷ us) = go (same_key u.key key) (filter_plain key us)
  where
    go : (t : Bool) → filter (spec.has_key key) (map plain us) ≡ map plain (filter (spec.has_key key) us)
        → (if t then plain u ∷ filter (spec.has_key key) (map plain us) else filter (spec.has_key key) (map plain us)) ≡ map plain (if t then u ∷ filter (spec.has_key key) us else filter (spec.has_key key) us)
    go true r = ap (λ xs. plain u ∷ xs) r
    go false r = r

last_plain : (d : Option Use) (us : List Use) → last_or (option_map plain d) (map plain us) ≡ option_map plain (last_or d us)
last_plain d [] = refl
last_plain d (u ∷ us) = last_plain (Some u) us

pub latest_plain : (key : Key) (us : List Use) → spec.latest key (map plain us) ≡ option_map plain (spec.latest key us)
latest_plain key us = ap (last_or None) (filter_plain key us) ∙ last_plain None (filter (spec.has_key key) us)

pub any_plain : (p : Use → Bool) → ((u : Use) → p (plain u) ≡ p u) → (us : List Use) → list_any p (map plain us) ≡ list_any p us
any_plain p h [] = refl
any_plain p h (u ∷ us) = ap₂ (λ a b. a || b) (h u) (any_plain p h us)

-- ---- the units change nothing that is plain

ready_plain : (set : List UnitTable) (cycle hart : ℕ) (state : List (List ℕ)) (us : List Use) → map plain (spec.ready_uses set cycle hart state us) ≡ map plain us
ready_plain set cycle hart state [] = refl
ready_plain set cycle hart state (u ∷ us) =
    go (not (spec.is_next hart u)) (spec.is_complete u) (ready_plain set cycle hart state us) (ready_plain set cycle hart (spec.outcome_of set state u).state us)
  where
    passed : List Use
    passed = spec.ready_uses set cycle hart state us

    applied : List Use
    applied = spec.ready_uses set cycle hart (spec.outcome_of set state u).state us

    go : (s t : Bool) → map plain passed ≡ map plain us → map plain applied ≡ map plain us
        → map plain (if s then u ∷ passed else if t then spec.with_ready cycle (spec.outcome_of set state u).result u ∷ applied else u ∷ us) ≡ plain u ∷ map plain us
    go true t p a = ap (λ xs. plain u ∷ xs) p
    go false true p a = ap (λ xs. plain u ∷ xs) a
    go false false p a = refl

pub harts_plain : (set : List UnitTable) (cycle hart : ℕ) (states : List (List (List ℕ))) (us : List Use) → map plain (spec.ready_in_harts set cycle hart states us) ≡ map plain us
harts_plain set cycle hart [] us = refl
harts_plain set cycle hart (state ∷ states) us =
    harts_plain set cycle (hart + 1) states (spec.ready_uses set cycle hart state us) ∙ ready_plain set cycle hart state us

-- ---- nor do the ends

pub end_plain : (offered : Option Use) (cop : CopOut) (input : CpuIn) (us : List Use) → map plain (spec.end_step offered cop input us) ≡ map plain us
end_plain offered cop input us = go (cop.result_valid && input.result_ready) offered
  where
    go : (t : Bool) (o : Option Use) → map plain (if t then spec.ended o us else us) ≡ map plain us
    go true None = refl
    go true (Some u) = plain_drop (spec.with_end u.start) (λ x. refl) us
    go false o = refl
