use Rattle.std.proofs.Common.{map, sym, ◌∙◌, ap, arith, length-set}
use Rattle.std.proofs.lemmas.List.{take_all}
use Rattle.xif_signals.specs.Quad.{known_quad}
use Rattle.xif_signals.proofs.Lists.{map_more_set}
use Rattle.xif_signals.proofs.sample.Sample.of.Goals as goal

pub loop-index-preserved : goal.loop-index-preserved
loop-index-preserved c =
    let i = c.loop-index in (
      length-set i.quads i.index c.of.result ∙ i.invariant.0,
      map_more_set known_quad c.args.values i.quads i.index 0 c.of.result (omega arith) (omega arith) i.invariant.1 c.of.ensures,
    )

pub returns : goal.returns
returns c =
    let i = c.loop-index in
    sym (take_all i.index i.quads (omega arith)) ∙ i.invariant.1
    ∙ ap (map known_quad) (take_all i.index c.args.values (omega arith))
