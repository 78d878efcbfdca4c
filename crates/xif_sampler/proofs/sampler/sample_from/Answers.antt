use Rattle.std.proofs.Common.{◌∙◌, drop, length-drop, arith}
use Rattle.std.proofs.lemmas.List.{take_all}
use Rattle.xif_sampler.proofs.sampler.sample_from.Goals as goal

pub returns : goal.returns
returns c =
    let quads = c.args.quads.now in
    c.from_quads.ensures ∙ c.copy_from_slice.ensures.after
    ∙ take_all 28 (drop 1 quads) (omega (arith, length-drop 1 quads, c.told-quads))
