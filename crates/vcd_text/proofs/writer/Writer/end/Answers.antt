use Rattle.std.proofs.Common.{◌≡◌, ◌++◌, ap, ◌∙◌}
use Rattle.vcd_text.specs.Written.{end_text}
use Rattle.vcd_text.specs.Writing.{Progress}
use Rattle.vcd_text.proofs.Pieces.{wrote_end}
use Rattle.vcd_text.proofs.writer.Writer.end.Goals as goal

pub returns : goal.returns
returns c = λ buses text h.
    let cycles : c.self.inside.cycles ≡ c.args.self.now.cycles = ap (λ (w : Progress). w.cycles) c.self.view_is in
    wrote_end c.args.self.now buses text _ (c.in_ok-put_end.ensures ∙ ap (λ t. t ++ end_text c.self.inside.cycles) c.new-text.ensures.items ∙ ap end_text cycles) h
