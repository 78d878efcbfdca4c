use Rattle.std.proofs.Common.{◌<◌, ◌+◌, ◌++◌, length, take, drop, slice_set, ◌∙◌, ap, ap₂, sym, arith}
use Rattle.std.proofs.lemmas.List.Elements.{All-set}
use Rattle.std.proofs.Math.ListN.{length-set}
use Rattle.coproc_config.specs.State.{IsStateOf}
use Rattle.cycle_spec.specs.Engine.{ready_in_harts, units_in_harts}
use Rattle.coproc_engine.proofs.Harts.{uses_more, units_more}
use Rattle.coproc_engine.proofs.settle.settle.Goals as goal

pub loop-hart-preserved : goal.loop-hart-preserved
loop-hart-preserved c =
    let table = c.args.set.now in
    let cycle = c.args.cycle in
    let i = c.loop-hart.hart in
    let units = c.loop-hart.units in
    let now = c.settle_hart.new.state in
    let l : i < length units = omega (arith, c.loop-hart.auto.units, c.loop-hart-test.true) in
    record {
      uses = c.loop-hart.invariant.uses
          ∙ uses_more table cycle i units now _ c.loop-hart.uses l
          ∙ ap (λ us. ready_in_harts table cycle (i + 1) (drop (i + 1) (slice_set units i now)) us) (sym c.settle_hart.ensures.uses);
      units = c.loop-hart.invariant.units
          ∙ units_more table cycle i units _ c.loop-hart.uses l
          ∙ ap₂ (λ state us. take (i + 1) (slice_set units i state) ++ units_in_harts table (i + 1) (drop (i + 1) (slice_set units i state)) us) (sym c.settle_hart.ensures.state) (sym c.settle_hart.ensures.uses);
      states = All-set (IsStateOf table) units i now c.settle_hart.ensures.fits c.loop-hart.invariant.states;
      entries = c.settle_hart.ensures.kept;
      narrow = λ flags bits n. c.settle_hart.ensures.narrow flags bits (c.loop-hart.invariant.narrow flags bits n);
      count = length-set units i now ∙ c.loop-hart.invariant.count;
    }
