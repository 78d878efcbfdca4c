use Rattle.std.proofs.Common.{ℕ, Bool, List, ap, sym, ◌∙◌}
use Rattle.std.specs.List.{flat_map, enumerate_from}
use Rattle.std.proofs.lemmas.Result.{err_from_is_err_and}
use Rattle.xif_base.specs.Checks.{first_failing}
use Rattle.coproc_config.specs.declared.check.SetFault.{SetFault}
use Rattle.coproc_config.specs.Set.{UnitTable, places_of}
use Rattle.coproc_config.specs.Check.{unit_checks, entry_checks}
use Rattle.coproc_config.proofs.Checks.{passed, failed, each, flat_map-flat_map}
use Rattle.coproc_config.proofs.Sizes.{entries-within}
use Rattle.coproc_config.proofs.set.Set.check_entries.Goals as goal

abbrev checks_in : ℕ × UnitTable → List (Bool × SetFault)
checks_in unit = flat_map entry_checks (places_of unit)

pub loop-i-init : goal.loop-i-init
loop-i-init c = ap first_failing (flat_map-flat_map entry_checks places_of (enumerate_from 0 c.args.self.now))

pub check_entries-requires : goal.check_entries-requires
check_entries-requires c = entries-within c.loop-i.i c.get.result.now (each unit_checks c.args.self.now c.loop-i.i c.get.result.now c.requires.sizes c.get.ensures)

pub returns-in_err-check_entries : goal.returns-in_err-check_entries
returns-in_err-check_entries c =
    let p = err_from_is_err_and c.from_residual.result c.from_residual.ensures.1 in
    rw (p.1, p.2) (sym (c.loop-i.invariant ∙ failed checks_in c.args.self.now c.loop-i.i c.get.result.now c.in_err-check_entries.field-0.0 c.get.ensures (sym c.in_err-check_entries.ensures)))

pub loop-i-preserved : goal.loop-i-preserved
loop-i-preserved c = c.loop-i.invariant ∙ passed checks_in c.args.self.now c.loop-i.i c.get.result.now c.get.ensures (sym c.in_ok-check_entries.ensures)
