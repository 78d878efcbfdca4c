use Rattle.std.proofs.Common.{◌≡◌, ◌∙◌, ◌∷◌, map, sym, ap, subst, arith}
use Rattle.vcd_text.specs.declared.item.Item.TheVariants.{Change}
use Rattle.xif_sampler.specs.Samples.{quad_by}
use Rattle.xif_sampler.specs.Keeping.{Sampling, Represents}
use Rattle.xif_sampler.proofs.History.{read}
use Rattle.xif_sampler.proofs.sampler.Sampler.change.Goals as goal

pub returns : goal.returns
returns c = λ sources h p.
    let P : Sampling → Type 0 = λ x. Represents x sources h in
    let s = subst P (sym c.self.view_is) p in
    let code = c.args.code in
    let digits = c.args.digits.now in
    let quads = c.change_quads.new.quads in
    let inside = c.self.inside in
    let f = quad_by (Change code digits ∷ h) in
    let now : quads ≡ map f inside.sources =
    read inside.sources h code digits inside.now quads (omega arith) c.change_quads.ensures.count (s.now ∙ ap (map (quad_by h)) (sym s.same)) c.change_quads.ensures.each in
    record {
      same = s.same;
      at = s.at;
      was = s.was;
      now = now ∙ ap (map f) s.same;
    }
