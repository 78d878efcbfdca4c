use Rattle.std.proofs.Common.{◌∙◌, ap, map}
use Rattle.xif_signals.specs.Quad.{known_quad}
use Rattle.xif_signals.specs.Known.{known_of}
use Rattle.xif_signals.proofs.ReadsBack.{known_of-sample_of}
use Rattle.xif_signals.proofs.bus.Bus.sample.Goals as goal

pub returns-clause-reads_back : goal.returns-clause-reads_back
returns-clause-reads_back c = λ p in_range fits.
    ap (λ quads. known_of quads p) (c.of.ensures ∙ ap (λ values. map known_quad values) c.values.ensures)
    ∙ known_of-sample_of c.args.self.now p in_range fits
