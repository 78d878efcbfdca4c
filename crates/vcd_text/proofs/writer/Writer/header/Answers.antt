use Rattle.std.proofs.Common.{◌++◌, None, refl, ap, ◌∙◌}
use Rattle.vcd_text.specs.Written.{cycles_text, header_text}
use Rattle.vcd_text.proofs.writer.Writer.header.Goals as goal

pub returns-clause-wrote : goal.returns-clause-wrote
returns-clause-wrote c = record {
  count = refl;
  joined = λ more. ap (λ t. t ++ cycles_text c.self.inside.params 0 None more) (c.in_ok-put_header.ensures ∙ ap (λ t. t ++ header_text c.self.inside.params) c.new-text.ensures.items);
}
