-- Internal: how the places of a table are kept.
use Rattle.std.specs.Prelude.{◌==◌, ℕ, if◌then◌else◌, Option, None}
use Rattle.xif_uses.specs.declared.entry.Use.{Use}
use Rattle.xif_uses.specs.declared.places.Slot.{Slot}

-- what a place holds, where it was written in this session
abbrev pub live : (session written : ℕ) → Option Use → Option Use
live session written latest = if written == session then latest else None

abbrev pub empty_slot : Slot
empty_slot = record { session = 0; latest = None }
