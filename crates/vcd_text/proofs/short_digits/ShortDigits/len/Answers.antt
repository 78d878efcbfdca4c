use Rattle.std.proofs.Common.{◌∙◌, sym, ap, length}
use Rattle.vcd_text.proofs.Vectors.{length-digits_by}
use Rattle.vcd_text.proofs.short_digits.ShortDigits.len.Goals as goal

pub returns : goal.returns
returns c =
    sym (length-digits_by c.self.inside.count c.self.inside.aval c.self.inside.bval) ∙ ap length c.self.view_is
