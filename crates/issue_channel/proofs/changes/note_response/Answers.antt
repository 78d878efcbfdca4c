use Rattle.std.proofs.Common.{◌≡◌, None}
use Rattle.xif_session.specs.Facts.{register_key}
use Rattle.xif_uses.specs.Table.{with_answer}
use Rattle.issue_channel.proofs.Opens.{some_set}
use Rattle.issue_channel.proofs.changes.note_response.Goals as goal

pub returns-then-is_issued-clause-awaits : goal.returns-then-is_issued-clause-awaits
returns-then-is_issued-clause-awaits c v =
    some_set (λ latest. latest.operands ≡ None) c.args.uses.now c.response.new.self c.key.result (register_key c.args.bus.now) (with_answer c.response_on.result) c.response.ensures.latest (λ u h. h)
    (c.requires.keys.register v) (c.requires.awaits v)
