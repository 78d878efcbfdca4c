use Rattle.std.proofs.Common.{◌≡◌, ◌∙◌, rules}
use Rattle.std.specs.Prelude.{Err}
use Rattle.issue_channel.proofs.Operands.{fails_G5, ends_G5}
use Rattle.issue_channel.proofs.register_rules.check_operands.Goals as goal

pub returns-in_err-check_by_key : goal.returns-in_err-check_by_key
returns-in_err-check_by_key c params p r =
    let e : c.from_residual.result ≡ Err c.in_err-check_by_key.field-0.0 = search rules in
    e ∙ fails_G5 params p c.args.bus.now c.keeps_g5_issue.result c.check_by_key.result c.in_err-check_by_key.field-0.0 (c.keeps_g5_issue.ensures params p r) c.check_by_key.ensures c.in_err-check_by_key.was

pub returns : goal.returns
returns c params p r =
    ends_G5 params p c.args.bus.now c.keeps_g5_issue.result c.check_by_key.result c.in_ok-check_by_key.field-0 c.keeps_g5_register.result c.check_by_key-2.result
    (c.keeps_g5_issue.ensures params p r) c.check_by_key.ensures c.in_ok-check_by_key.was (c.keeps_g5_register.ensures params p r) c.check_by_key-2.ensures
