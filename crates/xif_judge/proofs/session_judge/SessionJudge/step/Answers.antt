use Rattle.std.proofs.Common.{◌+◌, ℕ, Ok, Err, sym, ap, subst, ◌∙◌}
use Rattle.std.proofs.lemmas.Result.{err_from_is_err_and}
use Rattle.xif_judge.specs.Judging.{SessionJudging, HasFollowed, CanJudge}
use Rattle.xif_judge.proofs.Sides.{fault_of_harts, fault_of_issue, fault_of_commit, answer_of_result, commit_inside, result_inside, follows_after, ready_after}
use Rattle.xif_judge.proofs.session_judge.SessionJudge.step.Goals as goal

pub returns-in_err-judge_harts-clause-fault : goal.returns-in_err-judge_harts-clause-fault
returns-in_err-judge_harts-clause-fault c = λ p h.
    let q = err_from_is_err_and c.from_residual.result c.from_residual.ensures.1 in
    q.1 ∙ ap Err q.2 ∙ fault_of_harts c.args.params.now p c.args.bus.now c.in_err-judge_harts.field-0.0 (sym (c.judge_harts.ensures.fault p) ∙ c.in_err-judge_harts.was)

pub returns-in_err-step-clause-fault : goal.returns-in_err-step-clause-fault
returns-in_err-step-clause-fault c = λ p h.
    let k = subst (λ (s : SessionJudging). HasFollowed s c.args.params.now p) (sym c.self.view_is) h in
    let q = err_from_is_err_and c.from_residual-in_err-step.result c.from_residual-in_err-step.ensures.1 in
    q.1 ∙ ap Err q.2 ∙ fault_of_issue c.args.params.now p c.args.bus.now c.in_err-step.field-0.0
    (sym (c.judge_harts.ensures.fault p) ∙ c.in_ok-judge_harts.was)
    (sym (c.step.ensures.fault c.args.params.now p k.follows (sym k.cycles)) ∙ c.in_err-step.was)

pub step-requires-2-clause-key : goal.step-requires-2-clause-key
step-requires-2-clause-key c = λ valid.
    let r = subst (λ (s : SessionJudging). CanJudge s c.args.params.now) (sym c.self.view_is) c.requires.ready in
    commit_inside c.args.params.now c.step.new.uses.params c.args.bus.now (c.step.ensures.params ∙ r.same) c.requires.widths c.in_ok-judge_harts.ensures.harts valid

pub returns-in_err-step-2-clause-fault : goal.returns-in_err-step-2-clause-fault
returns-in_err-step-2-clause-fault c = λ p h.
    let k = subst (λ (s : SessionJudging). HasFollowed s c.args.params.now p) (sym c.self.view_is) h in
    let q = err_from_is_err_and c.from_residual-in_err-step-2.result c.from_residual-in_err-step-2.ensures.1 in
    let issued = c.in_ok-step.ensures.follows c.args.params.now p k.follows (sym k.cycles) in
    q.1 ∙ ap Err q.2 ∙ fault_of_commit c.args.params.now p c.args.bus.now c.in_err-step-2.field-0.0
    (sym (c.judge_harts.ensures.fault p) ∙ c.in_ok-judge_harts.was)
    (sym (c.step.ensures.fault c.args.params.now p k.follows (sym k.cycles)) ∙ c.in_ok-step.was)
    (sym (c.step-2.ensures.fault c.args.params.now p issued) ∙ c.in_err-step-2.was)

pub step-requires-3 : goal.step-requires-3
step-requires-3 c = record {
  key = λ valid.
      let r = subst (λ (s : SessionJudging). CanJudge s c.args.params.now) (sym c.self.view_is) c.requires.ready in
      result_inside c.args.params.now c.step-2.new.uses.params c.args.bus.now (c.step-2.ensures.params ∙ c.step.ensures.params ∙ r.same) c.requires.widths c.in_ok-judge_harts.ensures.harts valid;
}

pub returns-in_err-step-3-clause-fault : goal.returns-in_err-step-3-clause-fault
returns-in_err-step-3-clause-fault c = λ p h.
    let k = subst (λ (s : SessionJudging). HasFollowed s c.args.params.now p) (sym c.self.view_is) h in
    let q = err_from_is_err_and c.from_residual-in_err-step-3.result c.from_residual-in_err-step-3.ensures.1 in
    let issued = c.in_ok-step.ensures.follows c.args.params.now p k.follows (sym k.cycles) in
    let decided = c.in_ok-step-2.ensures.follows c.args.params.now p issued in
    q.1 ∙ ap Err q.2 ∙ answer_of_result c.args.params.now p c.args.bus.now
    (sym (c.judge_harts.ensures.fault p) ∙ c.in_ok-judge_harts.was)
    (sym (c.step.ensures.fault c.args.params.now p k.follows (sym k.cycles)) ∙ c.in_ok-step.was)
    (sym (c.step-2.ensures.fault c.args.params.now p issued) ∙ c.in_ok-step-2.was)
    (Err c.in_err-step-3.field-0.0) (sym c.in_err-step-3.was ∙ c.step-3.ensures.fault c.args.params.now p k.last decided.facts)

pub returns-clause-fault : goal.returns-clause-fault
returns-clause-fault c = λ p h.
    let k = subst (λ (s : SessionJudging). HasFollowed s c.args.params.now p) (sym c.self.view_is) h in
    let issued = c.in_ok-step.ensures.follows c.args.params.now p k.follows (sym k.cycles) in
    let decided = c.in_ok-step-2.ensures.follows c.args.params.now p issued in
    answer_of_result c.args.params.now p c.args.bus.now
    (sym (c.judge_harts.ensures.fault p) ∙ c.in_ok-judge_harts.was)
    (sym (c.step.ensures.fault c.args.params.now p k.follows (sym k.cycles)) ∙ c.in_ok-step.was)
    (sym (c.step-2.ensures.fault c.args.params.now p issued) ∙ c.in_ok-step-2.was)
    (Ok tt) (sym c.in_ok-step-3.was ∙ c.step-3.ensures.fault c.args.params.now p k.last decided.facts)

pub returns-clause-followed : goal.returns-clause-followed
returns-clause-followed c = λ p h.
    let k = subst (λ (s : SessionJudging). HasFollowed s c.args.params.now p) (sym c.self.view_is) h in
    let issued = c.in_ok-step.ensures.follows c.args.params.now p k.follows (sym k.cycles) in
    let decided = c.in_ok-step-2.ensures.follows c.args.params.now p issued in
    record {
      follows = follows_after c.step-2.new.issue c.step-2.new.uses c.step-3.new.uses c.args.params.now p c.args.bus.now decided
          (c.in_ok-step-3.ensures.facts c.args.params.now p decided.facts);
      last = c.in_ok-step-3.ensures.last;
      cycles = ap (λ (n : ℕ). n + 1) k.cycles;
    }

pub returns-clause-ready : goal.returns-clause-ready
returns-clause-ready c =
    let r = subst (λ (s : SessionJudging). CanJudge s c.args.params.now) (sym c.self.view_is) c.requires.ready in
    record {
      same = c.step-3.ensures.params ∙ c.step-2.ensures.params ∙ c.step.ensures.params ∙ r.same;
      ready = ready_after c.step-2.new.issue c.step-2.new.uses c.step-3.new.uses (c.self.inside.cycles + 1) c.args.bus.now
          c.in_ok-step-3.ensures.taken c.in_ok-step-3.ensures.kept
          (c.in_ok-step-2.ensures.ready (c.self.inside.cycles + 1) c.in_ok-step.ensures.ready);
    }
