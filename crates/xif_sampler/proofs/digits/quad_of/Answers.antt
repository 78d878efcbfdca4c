use Rattle.std.proofs.Common.{ap, sym, ◌∙◌}
use Rattle.xif_signals.specs.Quad.{known_quad}
use Rattle.xif_sampler.proofs.Numbers.{quad_known}
use Rattle.xif_sampler.proofs.digits.quad_of.Goals as goal

pub returns-in-Some : goal.returns-in-Some
returns-in-Some c =
    ap known_quad c.bits_of.ensures ∙ sym (quad_known c.args.digits.now c.in-Some.number c.args.low c.args.width c.in-Some.ensures.some)
