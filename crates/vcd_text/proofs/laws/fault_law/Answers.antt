use Rattle.vcd_text.proofs.Texts.{fault_of_front}
use Rattle.vcd_text.proofs.laws.fault_law.Goals as goal

pub returns : goal.returns
returns c = fault_of_front
