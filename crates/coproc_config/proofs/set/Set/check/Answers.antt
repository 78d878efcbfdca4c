use Rattle.std.proofs.Common.{◌≤◌, length, sym, ◌∙◌, arith}
use Rattle.std.proofs.lemmas.Result.{err_from_is_err_and}
use Rattle.coproc_config.specs.Check.{size_checks, all_entry_checks}
use Rattle.coproc_config.proofs.Checks.{first_failing-append-ok, first_failing-append-err}
use Rattle.coproc_config.proofs.Sizes.{checks-few, lawful-from_first}
use Rattle.coproc_config.proofs.set.Set.check.Goals as goal

pub returns-in_err-check_sizes-clause-first : goal.returns-in_err-check_sizes-clause-first
returns-in_err-check_sizes-clause-first c =
    let units = c.args.self.now in
    let few : length c.args.self.now ≤ 8 = omega arith in
    let p = err_from_is_err_and c.from_residual.result c.from_residual.ensures.1 in
    rw (p.1, p.2) (sym (checks-few units few ∙ first_failing-append-err (size_checks units) (all_entry_checks units) c.in_err-check_sizes.field-0.0 (sym c.in_err-check_sizes.ensures)))

pub returns-in_err-check_sizes-clause-lawful : goal.returns-in_err-check_sizes-clause-lawful
returns-in_err-check_sizes-clause-lawful c = lawful-from_first c.from_residual.result c.args.self.now (returns-in_err-check_sizes-clause-first c)

pub returns-clause-first : goal.returns-clause-first
returns-clause-first c =
    let units = c.args.self.now in
    let few : length c.args.self.now ≤ 8 = omega arith in
    c.check_entries.ensures ∙ sym (checks-few units few ∙ first_failing-append-ok (size_checks units) (all_entry_checks units) (sym c.in_ok-check_sizes.ensures))

pub returns-clause-lawful : goal.returns-clause-lawful
returns-clause-lawful c = lawful-from_first c.check_entries.result c.args.self.now (returns-clause-first c)
