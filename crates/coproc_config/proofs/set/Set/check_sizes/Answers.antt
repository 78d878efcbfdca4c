use Rattle.std.proofs.Common.{sym, ◌∙◌}
use Rattle.std.proofs.lemmas.Result.{err_from_is_err_and}
use Rattle.coproc_config.specs.Check.{unit_checks}
use Rattle.coproc_config.proofs.Checks.{passed, failed}
use Rattle.coproc_config.proofs.set.Set.check_sizes.Goals as goal

pub returns-in_err-check_sizes : goal.returns-in_err-check_sizes
returns-in_err-check_sizes c =
    let p = err_from_is_err_and c.from_residual.result c.from_residual.ensures.1 in
    rw (p.1, p.2) (sym (c.loop-i.invariant ∙ failed unit_checks c.args.self.now c.loop-i.i c.get.result.now c.in_err-check_sizes.field-0.0 c.get.ensures (sym c.in_err-check_sizes.ensures)))

pub loop-i-preserved : goal.loop-i-preserved
loop-i-preserved c = c.loop-i.invariant ∙ passed unit_checks c.args.self.now c.loop-i.i c.get.result.now c.get.ensures (sym c.in_ok-check_sizes.ensures)
