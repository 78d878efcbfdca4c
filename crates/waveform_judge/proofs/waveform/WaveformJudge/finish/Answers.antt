use Rattle.std.proofs.Common.{sym, subst}
use Rattle.waveform_judge.specs.Represented.{WaveformJudging, Represents}
use Rattle.waveform_judge.proofs.waveform.WaveformJudge.finish.Goals as goal

pub returns-clause-judged : goal.returns-clause-judged
returns-clause-judged c = λ map params text p.
    let P : WaveformJudging → Type 0 = λ w. Represents w map params text in
    c.end_text.ensures.judged map params text (subst P (sym c.self.view_is) p)

pub returns-clause-fail : goal.returns-clause-fail
returns-clause-fail c = λ map params text p.
    let P : WaveformJudging → Type 0 = λ w. Represents w map params text in
    c.end_text.ensures.fail map params text (subst P (sym c.self.view_is) p)
