use Rattle.std.proofs.Common.{Err, sym, ap, subst, ◌∙◌}
use Rattle.xif_judge.specs.Judging.{Judging, Represents, answer_of}
use Rattle.xif_judge.proofs.Steps.{followed, first_ok, first_err, step_ok, step_err}
use Rattle.xif_judge.proofs.judge.Judge.step.Goals as goal

pub returns-in-Ok-clause-represents : goal.returns-in-Ok-clause-represents
returns-in-Ok-clause-represents c = λ params history r.
    let q = subst (λ (j : Judging). Represents j params history) (sym c.self.view_is) r in
    let h = followed _ params history c.args.sample.now q c.in_default.is in
    step_ok _ params history c.args.sample.now q c.in_default.is c.judge_cycle.new.session
    (c.in-Ok.ensures.followed history h) (sym c.in-Ok.is ∙ c.judge_cycle.ensures.fault history h)

pub returns-in-Ok-clause-answer : goal.returns-in-Ok-clause-answer
returns-in-Ok-clause-answer c = λ params history r.
    let q = subst (λ (j : Judging). Represents j params history) (sym c.self.view_is) r in
    let h = followed _ params history c.args.sample.now q c.in_default.is in
    ap answer_of (sym (first_ok _ params history c.args.sample.now q c.in_default.is (sym c.in-Ok.is ∙ c.judge_cycle.ensures.fault history h)))

pub returns-in-Err-clause-represents : goal.returns-in-Err-clause-represents
returns-in-Err-clause-represents c = λ params history r.
    let q = subst (λ (j : Judging). Represents j params history) (sym c.self.view_is) r in
    let h = followed _ params history c.args.sample.now q c.in_default.is in
    step_err _ params history c.args.sample.now q c.in_default.is c.judge_cycle.new.session c.in-Err.fault c.on-verdict.result c.on-verdict.ensures
    (sym c.in-Err.is ∙ c.judge_cycle.ensures.fault history h)

pub returns-in-Err-clause-answer : goal.returns-in-Err-clause-answer
returns-in-Err-clause-answer c = λ params history r.
    let q = subst (λ (j : Judging). Represents j params history) (sym c.self.view_is) r in
    let h = followed _ params history c.args.sample.now q c.in_default.is in
    ap Err c.on-verdict.ensures
    ∙ ap answer_of (sym (first_err _ params history c.args.sample.now q c.in_default.is c.in-Err.fault (sym c.in-Err.is ∙ c.judge_cycle.ensures.fault history h)))
