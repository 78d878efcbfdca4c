-- Internal: what the steps of a cycle are told of the session, and what they do to the table.
use Rattle.std.specs.Prelude.{◌≡◌, if◌then◌else◌, IsTrue, IsSomeAnd, None}
use Rattle.std.specs.Option.{option_map}
use Rattle.xif_base.specs.declared.params.Key.{Key}
use Rattle.xif_base.specs.declared.params.Params.{Params}
use Rattle.xif_signals.specs.declared.bus.Bus.{Bus}
use Rattle.xif_session.specs.Facts.{Past, issue_key, register_key, issue_continues}
use Rattle.xif_uses.specs.declared.handshake.Phase.{Phase}
use Rattle.xif_uses.specs.declared.handshake.Phase.TheVariants.{Idle, Starts, Continues}
use Rattle.xif_uses.specs.Table.{Table, IsKey, use_of}

-- what a cycle is to the issue transactions of a session
abbrev pub issue_phase : Past → Bus → Phase
issue_phase p b =
    if b.issue_valid then (if issue_continues p b then Continues else Starts) else Idle

-- what the channels carry is under keys of the interface
pub record HasKeys (params : Params) (b : Bus) : Type 0 where
  pub issue : IsTrue b.issue_valid → IsKey params (issue_key b)
  pub register : IsTrue b.register_valid → IsKey params (register_key b)

-- the use that is offered registers hasn't got them yet
abbrev pub AwaitsOperands : Table → Bus → Type 0
AwaitsOperands table b =
    IsTrue b.register_valid
    → IsSomeAnd (use_of table (register_key b)) (λ latest. latest.operands ≡ None)

-- the keys have uses with the same starts
pub record SameStarts (old new : Table) : Type 0 where
  pub params : new.params ≡ old.params
  pub starts : (key : Key) → IsKey old.params key
      → option_map (λ latest. latest.start) (use_of new key)
      ≡ option_map (λ latest. latest.start) (use_of old key)
