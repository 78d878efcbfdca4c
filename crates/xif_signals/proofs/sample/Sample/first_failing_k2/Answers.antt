use Rattle.std.proofs.Common.{rules}
use Rattle.xif_signals.specs.Known.{holds_k2}
use Rattle.xif_signals.proofs.sample.Sample.first_failing_k2.Goals as goal

pub returns : goal.returns
returns c =
    c.first_failing.ensures (holds_k2 c.args.self.now c.args.params.now) (λ channel held post. search rules)
