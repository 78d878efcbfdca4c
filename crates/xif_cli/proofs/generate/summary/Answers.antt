use Rattle.std.proofs.Common.{◌≡◌, ◌∙◌}
use Rattle.std.proofs.lemmas.Result.{IfOk-weaker}
use Rattle.cycle_spec.specs.Run.{run_of}
use Rattle.xif_cli.specs.Simulated.{never}
use Rattle.xif_cli.proofs.Predicted.{summary-is, generated-is}
use Rattle.xif_cli.proofs.generate.summary.Goals as goal

pub returns : goal.returns
returns c = IfOk-weaker c.summary_of.result _ _ (λ text is.
    is ∙ summary-is c.in_ok-ran.ran.simulation c.in_ok-ran.ran.counts (run_of never c.in_ok-setup.setup c.new.result) c.in_ok-ran.ensures.end c.in_ok-ran.ensures.counts
    ∙ generated-is c.args.seed c.args.count c.in_ok-setup.setup c.new.result c.in_ok-setup.ensures.setup) c.summary_of.ensures
