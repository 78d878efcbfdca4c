-- The transactions of one channel with valid and ready (CV-X-IF 1.0.0, "Handshake rules").
use Rattle.std.specs.Prelude.{◌&&◌, not, Bool, false, if◌then◌else◌, Option, Some, None}
use Rattle.std.specs.Option.{option_map_or}
use Rattle.xif_base.specs.declared.params.Key.{Key}
use Rattle.xif_session.specs.Facts.{same_key}
use Rattle.xif_uses.specs.declared.handshake.Phase.{Phase}
use Rattle.xif_uses.specs.declared.handshake.Phase.TheVariants.{Idle, Starts, Continues}

-- the key of a transaction that waits for ready
abbrev pub waiting_key : (valid ready : Bool) → Key → Option Key
waiting_key valid ready key = if valid && not ready then Some key else None

-- What a cycle is: a transaction continues where one waited for the same key.
abbrev pub phase_of : Option Key → (valid : Bool) → Key → Phase
phase_of waiting valid key =
    if valid then (if option_map_or (λ last. same_key last key) waiting false then Continues
    else Starts) else Idle
