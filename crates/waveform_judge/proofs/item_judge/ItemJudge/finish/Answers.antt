use Rattle.std.proofs.Common.{◌∙◌, sym, ap, subst}
use Rattle.waveform_judge.specs.declared.item_judge.ItemJudge.TheInside.{Inside}
use Rattle.xif_judge.specs.Judging as judge
use Rattle.waveform_judge.specs.Represented.{ItemJudging, HasTaken}
use Rattle.waveform_judge.proofs.Taking.{ends_found, not_awaited}
use Rattle.waveform_judge.proofs.item_judge.ItemJudge.finish.Goals.{in-Awaited, in-Found}
use Rattle.waveform_judge.proofs.item_judge.ItemJudge.finish.Goals as goal

pub returns : goal.returns
returns c = λ map params variables items p.
    let P : ItemJudging → Type 0 = λ x. HasTaken x map params variables items in
    let q = subst P (sym c.self.view_is) p in
    elim c.match-self.branch [
      | in-Awaited w ↦ absurd (not_awaited _ map params variables items q w.in-Awaited.is)
      | in-Found w ↦
          let same = w.self-inside-is in
          ends_found _ c.judge_sample.new.self w.in-Found.sampler map params variables items c.match-self.sample c.cycles.result c.verdict.result q w.in-Found.is
          (λ sources h stands. w.sample-is ∙ w.finish-sample.ensures.sample sources h stands)
          (λ r h j. c.judge_sample.ensures.judged r h (subst (λ (k : judge.Judging). judge.Represents k r h) (sym (ap (λ (y : Inside). y.judge) same)) j))
          (c.cycles.ensures ∙ ap (λ (x : ItemJudging). x.judge.cycles) c.self-2.view_is) (c.verdict.ensures ∙ ap (λ (x : ItemJudging). x.judge.verdict) c.self-2.view_is)
    ]
