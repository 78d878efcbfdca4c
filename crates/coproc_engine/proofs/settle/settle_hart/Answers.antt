use Rattle.std.proofs.Common.{rules, arith}
use Rattle.std.proofs.lemmas.Grind.{common_steps}
use Rattle.std.proofs.lemmas.List.Elements.{All-set}
use Rattle.coproc_engine.specs.Fits.{IsNarrow}
use Rattle.coproc_engine.proofs.settle.settle_hart.Goals as goal

pub loop-i-preserved : goal.loop-i-preserved
loop-i-preserved c = record {
  uses = grind (arith, common_steps);
  state = grind (arith, common_steps);
  fits = search rules;
  entries = search rules;
  narrow = λ flags bits n.
      let was = c.loop-i.invariant.narrow flags bits n in
      All-set (IsNarrow flags bits) c.loop-i.uses c.loop-i.i c.ready_now.result (c.ready_now.ensures.narrow flags bits (search rules)) was;
}
