-- What an engine keeps of one hart, and of which engines the laws speak.
use Rattle.std.specs.Prelude.{◌≡◌, ℕ, ◌==◌, ◌&&◌, ◌||◌, Bool, true, IsSome, List, filter}
use Rattle.xif_base.specs.declared.params.Params.{Params}
use Rattle.coproc_config.specs.Set.{UnitTable}
use Rattle.xif_drive.specs.Scripts.{Lists}
use Rattle.xif_signals.specs.declared.bus.Bus.{Bus}
use Rattle.xif_session.specs.Facts.{same_key, result_key, is_taken}
use Rattle.cycle_spec.specs.declared.use_of.Use.{Use}
use Rattle.cycle_spec.specs.State.{Engine}
use Rattle.cycle_lists.specs.Lists.{Each}
use Rattle.engine_history.specs.Runs.{HasRun}

-- An engine that began new and has served cores, whichever they are and of whichever harts, cycle
-- by cycle.
pub record HasServed (e : Engine) : Type 0 where
  pub params : Params
  pub set : List UnitTable
  pub script : Lists
  -- the buses of its cycles, the newest first
  pub session : List Bus
  pub run : HasRun params set script session e

abbrev pub is_of : (hart : ℕ) → Use → Bool
is_of hart u = u.key.hart == hart

-- the uses of a hart that an engine keeps, in the order of their starts
abbrev pub uses_of : Engine → (hart : ℕ) → List Use
uses_of e hart = filter (is_of hart) e.uses

-- a use after a cycle in which no core of its hart takes part: it ends if its result is taken
-- (CV-X-IF 1.0.0, "Result interface")
abbrev pub after_result : Bus → Use → Use
after_result b u = record u {
  finished = u.finished || (is_taken b && same_key u.key (result_key b));
}

-- each result of a hart that is ready was taken
abbrev pub AreTaken : Engine → (hart : ℕ) → Type 0
AreTaken e hart = Each (λ u. IsSome u.ready → u.finished ≡ true) (uses_of e hart)
