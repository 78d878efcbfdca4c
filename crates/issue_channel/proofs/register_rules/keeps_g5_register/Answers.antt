use Rattle.std.proofs.Common.{◌≡◌, ◌∙◌, true, sym, ap, rules}
use Rattle.xif_signals.specs.Known.{when}
use Rattle.xif_session.specs.Facts.{register_key, is_given, now}
use Rattle.xif_session.proofs.Options.{both-true}
use Rattle.issue_channel.proofs.Operands.{got, got_now}
use Rattle.issue_channel.proofs.register_rules.keeps_g5_register.Goals as goal

pub returns-else-not-is_given : goal.returns-else-not-is_given
returns-else-not-is_given c params p r =
    let b = c.args.bus.now in
    let s : is_given b ≡ true = search rules in
    got_now c.args.uses.now params p b (register_key b) c.key.result c.has_operands.result r (c.requires.register (both-true b.register_valid b.register_ready s).0) c.key.ensures c.has_operands.ensures
    ∙ sym (ap (λ t. when t (got (now p b (register_key b)))) s)
