use Rattle.vcd_text.proofs.ReadsBack.{law}
use Rattle.vcd_text.proofs.read_back.written_texts_read_back.Goals as goal

pub returns : goal.returns
returns c = law
