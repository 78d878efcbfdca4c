use Rattle.std.proofs.Common.{◌<◌, length, sym, ◌∙◌, arith}
use Rattle.coproc_engine.proofs.Starts.{start_hit, start_miss}
use Rattle.coproc_engine.proofs.find.latest_start.Goals.{then-same_key, else-same_key}
use Rattle.coproc_engine.proofs.find.latest_start.Goals as goal

pub loop-found-preserved : goal.loop-found-preserved
loop-found-preserved c =
    let us = c.args.uses.now in
    let i = c.loop-found.found-index in
    let lt : i < length us = omega arith in
    c.loop-found.invariant ∙ elim c.if-same_key.branch [
      | then-same_key w ↦ start_hit c.args.key us i c.loop-found.start c.if-same_key.start _ lt w.start-is (sym c.same_key.ensures ∙ w.if-same_key.true)
      | else-same_key w ↦ start_miss c.args.key us i c.loop-found.start c.if-same_key.start _ lt w.start-is (sym c.same_key.ensures ∙ w.if-same_key.false)
    ]
