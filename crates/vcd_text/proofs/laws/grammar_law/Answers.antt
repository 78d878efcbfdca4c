use Rattle.vcd_text.proofs.PhraseRows.{row-reading, row-fault}
use Rattle.vcd_text.proofs.PhraseSplit.{reading-row, fault-row}
use Rattle.vcd_text.proofs.laws.grammar_law.Goals as goal

pub returns-clause-reading : goal.returns-clause-reading
returns-clause-reading c = λ text r. (reading-row text r, λ h. row-reading text h.0 r h.1)

pub returns-clause-fault : goal.returns-clause-fault
returns-clause-fault c = λ text f. (fault-row text f, λ h. row-fault text h.0 f h.1)
