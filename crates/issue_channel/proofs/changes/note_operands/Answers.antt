use Rattle.std.proofs.Common.{refl}
use Rattle.xif_uses.specs.Table.{with_flags}
use Rattle.issue_channel.proofs.Opens.{open_same, same_set}
use Rattle.issue_channel.proofs.changes.note_operands.Goals as goal

pub returns-then-is_given-clause-offered : goal.returns-then-is_given-clause-offered
returns-then-is_given-clause-offered c key h =
    let f = with_flags c.from_bits_retain-flags.result in
    open_same c.args.uses.now c.operands.new.self c.key.result key f c.operands.ensures.latest (λ u. refl) (same_set c.args.uses.now c.operands.new.self c.key.result f c.operands.ensures.latest (λ u. refl)) h
