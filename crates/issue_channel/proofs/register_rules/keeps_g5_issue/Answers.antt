use Rattle.std.proofs.Common.{◌≡◌, ◌∙◌, true, sym, ap, rules}
use Rattle.xif_signals.specs.Known.{when}
use Rattle.xif_session.specs.Facts.{issue_key, is_issued, now}
use Rattle.xif_session.proofs.Options.{both-true}
use Rattle.issue_channel.proofs.Operands.{got, got_now}
use Rattle.issue_channel.proofs.register_rules.keeps_g5_issue.Goals as goal

pub returns-else-not-is_issued : goal.returns-else-not-is_issued
returns-else-not-is_issued c params p r =
    let b = c.args.bus.now in
    let s : is_issued b ≡ true = search rules in
    got_now c.args.uses.now params p b (issue_key b) c.key.result c.has_operands.result r (c.requires.issue (both-true b.issue_valid b.issue_ready s).0) c.key.ensures c.has_operands.ensures
    ∙ sym (ap (λ t. when t (got (now p b (issue_key b)))) s)
