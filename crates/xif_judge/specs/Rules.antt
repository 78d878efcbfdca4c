-- Which rule holds in a cycle, by its sample and by the samples before it. A history is a list of
-- samples, one a cycle, the newest first.
use Rattle.std.specs.Prelude.{if◌then◌else◌, List, [], ◌∷◌, IsTrue}
use Rattle.xif_base.specs.declared.params.Params.{Params}
use Rattle.xif_signals.specs.declared.sample.Quad.{Quad}
use Rattle.xif_signals.specs.declared.bus.Bus.{Bus}
use Rattle.xif_signals.specs.declared.rule.Channel.{Channel}
use Rattle.xif_signals.specs.declared.rule.Rule.{Rule}
use Rattle.xif_signals.specs.declared.rule.Rule.TheVariants.{K1, K2}
use Rattle.xif_signals.specs.Quad.{is_in_session}
use Rattle.xif_signals.specs.Bus.{bus_of}
use Rattle.xif_signals.specs.Known.{holds_k1, holds_k2}
use Rattle.xif_session.specs.Facts.{Past, past_of}
use Rattle.xif_session.specs.Legal.{Holds}

-- The buses of the session that a history ends with, the newest first: those since the last cycle
-- that is in no session.
abbrev pub session_of : Params → List (List Quad) → List Bus
session_of params [] = []
session_of params (sample ∷ older) =
    if is_in_session sample params then bus_of sample params ∷ session_of params older else []

-- what came before a cycle in its session
abbrev pub past_at : Params → (older : List (List Quad)) → Past
past_at params older = past_of (session_of params older)

-- K1: of each channel, valid is known, and ready where valid is 1 (CV-X-IF 1.0.0, "Handshake
-- rules").
abbrev pub HoldsK1 : Params → List Quad → Type 0
HoldsK1 params sample = (channel : Channel) → IsTrue (holds_k1 sample params channel)

-- K2: of each channel whose valid is 1, what it carries is known (CV-X-IF 1.0.0, "Issue interface",
-- "Register interface", "Commit interface", "Result interface").
abbrev pub HoldsK2 : Params → List Quad → Type 0
HoldsK2 params sample = (channel : Channel) → IsTrue (holds_k2 sample params channel)

-- A rule holds in a cycle. K1 and K2 are about its sample alone, the other rules about the bus of
-- the sample and what came before it in the session. Where K1 and K2 hold, `bus_of` has the values
-- of all that counts.
abbrev pub HoldsAt : Params → Rule → (older : List (List Quad)) → List Quad → Type 0
HoldsAt params K1 older sample = HoldsK1 params sample
HoldsAt params K2 older sample = HoldsK2 params sample
HoldsAt params rule older sample = Holds params rule (past_at params older) (bus_of sample params)
