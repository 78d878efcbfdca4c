use Rattle.vcd_text.proofs.WellFormed.{well-formed}
use Rattle.vcd_text.proofs.laws.reading_law.Goals as goal

pub returns : goal.returns
returns c = well-formed
