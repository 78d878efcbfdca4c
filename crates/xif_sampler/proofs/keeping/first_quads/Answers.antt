use Rattle.std.proofs.Common.{[], map, sym, ◌∙◌, ap, arith, length-set}
use Rattle.std.proofs.lemmas.List.{take_all}
use Rattle.xif_sampler.specs.declared.source.Source.TheVariants.{Fixed}
use Rattle.xif_sampler.specs.Samples.{quad_by}
use Rattle.xif_signals.proofs.Lists.{map_more_set}
use Rattle.xif_sampler.proofs.keeping.first_quads.Goals as goal

pub loop-i-preserved : goal.loop-i-preserved
loop-i-preserved c =
    let i = c.loop-i in
    record {
      count = length-set i.quads i.i c.first_quad.result ∙ i.invariant.count;
      first = map_more_set (quad_by []) c.args.sources.now i.quads i.i (Fixed 0) c.first_quad.result (omega arith) (omega arith) i.invariant.first c.first_quad.ensures;
    }

pub returns : goal.returns
returns c =
    let i = c.loop-i in
    sym (take_all i.i i.quads (omega arith)) ∙ i.invariant.first ∙ ap (map (quad_by [])) (take_all i.i c.args.sources.now (omega arith))
