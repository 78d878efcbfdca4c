use Rattle.std.proofs.Common.{rules}
use Rattle.xif_session.specs.Tests.{has_hart}
use Rattle.xif_judge.proofs.hart_rule.lost_channel.Goals as goal

pub returns : goal.returns
returns c =
    c.first_failing.ensures (has_hart c.args.params.now c.args.bus.now) (λ channel held post. search rules)
