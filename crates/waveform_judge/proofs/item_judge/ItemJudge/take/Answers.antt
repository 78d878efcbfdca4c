use Rattle.std.proofs.Common.{sym, subst}
use Rattle.waveform_judge.specs.Represented.{ItemJudging, HasTaken}
use Rattle.waveform_judge.proofs.Taking.{took_item}
use Rattle.waveform_judge.proofs.item_judge.ItemJudge.take.Goals as goal

pub returns-in-Found-clause-taken : goal.returns-in-Found-clause-taken
returns-in-Found-clause-taken c = λ map params variables items p.
    let P : ItemJudging → Type 0 = λ x. HasTaken x map params variables items in
    took_item _ c.judge_sample.new.self c.in-Found.sampler c.take-sample.new.self map params variables items c.args.item.now c.take-sample.result
    (subst P (sym c.self.view_is) p) c.in-Found.is c.judge_sample.ensures.signals c.judge_sample.ensures.same c.take-sample.ensures.represents c.take-sample.ensures.sample
    c.judge_sample.ensures.judged
