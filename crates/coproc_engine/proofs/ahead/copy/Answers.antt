use Rattle.std.proofs.Common.{◌≡◌, length, slice_set, List, [], ℕ, ap, sym, subst, ◌∙◌}
use Rattle.std.proofs.Math.Seq.{map-set_same}
use Rattle.coproc_config.specs.Set.{UnitTable}
use Rattle.coproc_config.specs.State.{IsStateOf, accumulators_of}
use Rattle.coproc_engine.proofs.Copied.{copied_more, state-length, accumulators-there}
use Rattle.coproc_engine.proofs.ahead.copy.Goals as goal

pub copy_unit-requires-clause-count : goal.copy_unit-requires-clause-count
copy_unit-requires-clause-count c =
    (accumulators-there c.args.set.now c.args.from.now c.loop-unit.unit c.get.result.now c.requires.from c.get.ensures).1
    ∙ ap (λ (u : UnitTable). u.accumulators) (sym c.behind-set.view_is)

pub copy_unit-requires-clause-old_count : goal.copy_unit-requires-clause-old_count
copy_unit-requires-clause-old_count c =
    (accumulators-there c.args.set.now c.loop-unit.state c.loop-unit.unit c.get.result.now c.loop-unit.invariant.fits c.get.ensures).1
    ∙ ap (λ (u : UnitTable). u.accumulators) (sym c.behind-set.view_is)

pub loop-unit-preserved : goal.loop-unit-preserved
loop-unit-preserved c =
    let table = c.args.set.now in
    let i = c.loop-unit.unit in
    let from = c.args.from.now in
    let state = c.loop-unit.state in
    let there = accumulators-there table from i c.get.result.now c.requires.from c.get.ensures in
    let here = accumulators-there table state i c.get.result.now c.loop-unit.invariant.fits c.get.ensures in
    let same : length c.args.state.now ≡ length from = state-length table c.args.state.now c.requires.old ∙ sym (state-length table from c.requires.from) in
    let fits : IsStateOf table (slice_set state i (accumulators_of from i)) =
    map-set_same (λ (accumulators : List ℕ). length accumulators) state i (accumulators_of from i) [] (there.1 ∙ sym here.1) ∙ c.loop-unit.invariant.fits in
    record {
      copied = c.copy_unit.ensures ∙ copied_more from c.args.state.now state i [] there.0 same c.loop-unit.invariant.copied;
      fits = subst (λ state. IsStateOf table state) (sym c.copy_unit.ensures) fits;
    }
