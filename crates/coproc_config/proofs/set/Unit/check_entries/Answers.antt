use Rattle.std.proofs.Common.{ℕ, Bool, List, Result, ap, sym, ◌∙◌}
use Rattle.std.specs.List.{enumerate_from}
use Rattle.std.proofs.lemmas.Result.{err_from_is_err_and}
use Rattle.std.proofs.lemmas.List.Folds.{flat_map-map}
use Rattle.xif_base.specs.Checks.{first_failing}
use Rattle.coproc_config.specs.declared.check.SetFault.{SetFault}
use Rattle.coproc_config.specs.declared.operation.Entry.{Entry}
use Rattle.coproc_config.specs.Set.{UnitTable, place_of}
use Rattle.coproc_config.specs.Check.{entry_checks}
use Rattle.coproc_config.proofs.Checks.{passed, failed}
use Rattle.coproc_config.proofs.set.Unit.check_entries.Goals as goal

abbrev checks_of : ℕ → UnitTable → ℕ × Entry → List (Bool × SetFault)
checks_of n unit entry = entry_checks (place_of (n, unit) entry)

-- the tests of an entry, in a unit with so many accumulators
abbrev tests : ℕ → ℕ → Entry → ℕ → Result Unit SetFault
tests unit entry row accumulators =
    first_failing (entry_checks (record { unit = unit; entry = entry; accumulators = accumulators; row = row }))

pub loop-i-init : goal.loop-i-init
loop-i-init c = ap first_failing (flat_map-map entry_checks (place_of (c.args.unit, c.args.self.now)) (enumerate_from 0 c.args.self.now.entries))

pub returns-in_err-check : goal.returns-in_err-check
returns-in_err-check c =
    let p = err_from_is_err_and c.from_residual.result c.from_residual.ensures.1 in
    let same = ap (tests c.args.unit c.loop-i.i c.get.result.now) (ap (λ u. u.accumulators) c.self.view_is) in
    rw (p.1, p.2) (sym (c.loop-i.invariant ∙ failed (checks_of c.args.unit c.args.self.now) c.args.self.now.entries c.loop-i.i c.get.result.now c.in_err-check.field-0.0 c.get.ensures (sym same ∙ sym c.in_err-check.ensures)))

pub loop-i-preserved : goal.loop-i-preserved
loop-i-preserved c =
    let same = ap (tests c.args.unit c.loop-i.i c.get.result.now) (ap (λ u. u.accumulators) c.self.view_is) in
    c.loop-i.invariant ∙ passed (checks_of c.args.unit c.args.self.now) c.args.self.now.entries c.loop-i.i c.get.result.now c.get.ensures (sym same ∙ sym c.in_ok-check.ensures)
