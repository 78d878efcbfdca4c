-- What the tests of a use say of its life.
use Rattle.std.proofs.Common.{◌≡◌, ◌==◌, ℕ, Bool, true, false, Option, Some, None, refl}
use Rattle.std.specs.Option.{option_map_or}
use Rattle.std.proofs.lemmas.Bool.{eqb-true}
use Rattle.xif_session.specs.Facts.{verdict_of}
use Rattle.xif_session.specs.Facts as facts
use Rattle.xif_session.proofs.Options.{both-true}
use Rattle.engine_history.specs.Lives.{Life, Verdict}
use Rattle.engine_history.specs.Told.{decision_told, counts}

pub killed_told : (v : Option Verdict) → facts.is_killed (decision_told v) ≡ option_map_or (λ (v : Verdict). v.kill) v false
killed_told None = refl
killed_told (Some v) = go v.kill
  where
    go : (k : Bool) → facts.is_killed (verdict_of k) ≡ k
    go true = refl
    go false = refl

pub counts_hart : (hart : ℕ) (l : Life) → counts hart l ≡ true → l.key.hart ≡ hart
counts_hart hart l h = eqb-true l.key.hart hart (both-true (l.key.hart == hart) _ h).0
