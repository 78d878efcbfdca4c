-- The core keeps its rules in each cycle beside any coprocessor that keeps its own: what this asks for
-- of the words that it refuses is struck out first.
use Rattle.std.proofs.Common.{◌<◌, ℕ, if◌then◌else◌, List, [], ◌∷◌, map, ap, ◌∙◌, subst}
use Rattle.xif_base.specs.declared.params.Params.{Params}
use Rattle.xif_base.specs.Params.{IsInRange}
use Rattle.xif_image.specs.Region.{Region}
use Rattle.xif_drive.specs.Scripts.{Lists}
use Rattle.xif_signals.specs.declared.bus.Bus.{Bus}
use Rattle.xif_signals.specs.declared.bus.CopOut.{CopOut}
use Rattle.xif_session.specs.Legal.{CoreKeeps, EngineKeeps, EachCycle}
use Rattle.cycle_spec.specs.State.{Core, new_core}
use Rattle.cycle_spec.specs.Core.{core_clock}
use Rattle.cycle_lists.specs.Lists.{Each}
use Rattle.trace_laws.specs.Driven.{bus_with, seen_with}
use Rattle.trace_laws.specs.Sessions.{HasBytes}
use Rattle.core_laws.specs.Answered.{Answered, First, Cycled, Drained, Resumed}
use Rattle.core_laws.proofs.Cycle.{IsPlain}
use Rattle.core_laws.proofs.Halves.{plain-half}
use Rattle.core_laws.proofs.Plain.{plain_core, choices-plain}
use Rattle.core_laws.proofs.PlainSteps.{plain_cop, plain_bus, bus-plain, clock-plain}
use Rattle.core_laws.proofs.PlainFacts.{engine-plain, core-unplain}

all-plain : (session : List Bus) → Each IsPlain (map plain_bus session)
all-plain [] = tt
all-plain (b ∷ session) = (λ h. ap (λ t. if t then b.issue_register_read else 0) h, all-plain session)

module _ (params : Params) (script : Lists) (window : ℕ) (memory : Region) (entry hart : ℕ) (range : IsInRange params) (bytes : HasBytes memory) (below : hart < params.num_harts) where
  abbrev first : Core
  first = new_core params script window memory entry

  -- the same cycles, with it struck out
  answered-plain : (w : Core) (session : List Bus) → Answered hart first w session → Answered hart first (plain_core w) (map plain_bus session)
  answered-plain _ _ First = First
  answered-plain _ _ (Cycled w session answer cop wide x s) =
      subst (λ y. Answered hart first y (plain_bus (bus_with hart w cop) ∷ map plain_bus session)) (clock-plain answer w cop)
      (subst (λ b. Answered hart first (core_clock answer (plain_core w) (seen_with (plain_core w) (plain_cop cop))) (b ∷ map plain_bus session)) (bus-plain hart w cop)
      (Cycled (plain_core w) (map plain_bus session) answer (plain_cop cop) wide (answered-plain w session x) (ap (λ ch. ch.stop) (choices-plain w) ∙ s)))
  answered-plain _ _ (Drained w session x) = Drained (plain_core w) (map plain_bus session) (answered-plain w session x)
  answered-plain _ _ (Resumed w session x) = Resumed (plain_core w) (map plain_bus session) (answered-plain w session x)

  pub core-half : (w : Core) (session : List Bus) → Answered hart first w session → EachCycle (EngineKeeps params) session → (cop : CopOut) → EachCycle (CoreKeeps params) (bus_with hart w cop ∷ session)
  core-half w session x e cop =
      let k = plain-half params script window memory entry hart range bytes below (plain_core w) (map plain_bus session) (answered-plain w session x) (engine-plain params session e) (all-plain session) (plain_cop cop) in
      core-unplain params (bus_with hart w cop ∷ session) (subst (λ b. EachCycle (CoreKeeps params) (b ∷ map plain_bus session)) (bus-plain hart w cop) k)
