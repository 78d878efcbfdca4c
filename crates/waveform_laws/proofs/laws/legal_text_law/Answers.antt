use Rattle.waveform_laws.proofs.Texts.{text_legal}
use Rattle.waveform_laws.proofs.laws.legal_text_law.Goals as goal

pub returns : goal.returns
returns c = λ params buses range fits few. text_legal params buses range fits few
