use Rattle.std.proofs.Common.{◌≡◌, Some, slice_get, refl, sym, ap, ◌∙◌}
use Rattle.coproc_config.specs.Table.{operation_line}
use Rattle.coproc_config.specs.Accept.{entry_at}
use Rattle.coproc_config.proofs.Hits.{entry_at-unit}
use Rattle.coproc_config.proofs.Sizes.{entry-named}
use Rattle.coproc_config.proofs.States.{accumulator-there, IsStateOf-with_accumulator}
use Rattle.coproc_config.proofs.set.Set.apply.Goals as goal

pub get-q-requires : goal.get-q-requires
get-q-requires c =
    let units = c.args.self.now in
    let unit = c.get.result.now in
    let e = c.get-entry.result.now in
    let found : slice_get units c.args.hit.now.unit ≡ Some unit = ap (slice_get units) (sym c.from.ensures) ∙ c.get.ensures in
    let named = entry-named units c.from.result c.from-2.result unit e c.requires.lawful c.get.ensures c.get-entry.ensures in
    accumulator-there units c.args.state.now c.args.hit.now.unit unit e.acc (operation_line e.op).names c.requires.state found named.accumulator (sym c.names.ensures ∙ c.in-Accumulator.is)

pub put-requires : goal.put-requires
put-requires c =
    let units = c.args.self.now in
    let unit = c.get.result.now in
    let e = c.get-entry.result.now in
    let found : slice_get units c.args.hit.now.unit ≡ Some unit = ap (slice_get units) (sym c.from.ensures) ∙ c.get.ensures in
    let named = entry-named units c.from.result c.from-2.result unit e c.requires.lawful c.get.ensures c.get-entry.ensures in
    accumulator-there units c.args.state.now c.args.hit.now.unit unit e.acc (operation_line e.op).names c.requires.state found named.accumulator (sym c.names.ensures ∙ c.in-Accumulator.is)

pub result-requires-in-Field : goal.result-requires-in-Field
result-requires-in-Field c =
    (entry-named c.args.self.now c.from.result c.from-2.result c.get.result.now c.get-entry.result.now c.requires.lawful c.get.ensures c.get-entry.ensures).bits

pub returns-in-Accumulator-clause-fits : goal.returns-in-Accumulator-clause-fits
returns-in-Accumulator-clause-fits c = rw c.put.ensures.value (IsStateOf-with_accumulator c.args.self.now c.args.state.now c.args.hit.now.unit c.get-entry.result.now.acc c.accumulator.result c.requires.state)

pub returns-in-Accumulator-clause-others : goal.returns-in-Accumulator-clause-others
returns-in-Accumulator-clause-others c = λ u a other.
    let found : slice_get c.args.self.now c.args.hit.now.unit ≡ Some c.get.result.now = ap (slice_get c.args.self.now) (sym c.from.ensures) ∙ c.get.ensures in
    let there : entry_at c.args.self.now c.args.hit.now ≡ Some c.get-entry.result.now =
    entry_at-unit c.args.self.now c.args.hit.now c.args.hit.now.unit c.get.result.now refl found
    ∙ ap (slice_get c.get.result.now.entries) (sym c.from-2.ensures)
    ∙ c.get-entry.ensures in
    c.put.ensures.others u a (λ same. other (rw there (sym c.names.ensures ∙ c.in-Accumulator.is, same.0, same.1)))
