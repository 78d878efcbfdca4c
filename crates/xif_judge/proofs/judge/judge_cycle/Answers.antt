use Rattle.std.proofs.Common.{sym, ap, ◌∙◌}
use Rattle.std.proofs.lemmas.Result.{err_from_is_err_and}
use Rattle.std.proofs.Common.{Err}
use Rattle.xif_judge.specs.Rules.{past_at}
use Rattle.xif_judge.proofs.Cycles.{cycle_err, cycle_ok, cycle_followed}
use Rattle.xif_judge.proofs.judge.judge_cycle.Goals as goal

pub returns-in_err-step-clause-fault : goal.returns-in_err-step-clause-fault
returns-in_err-step-clause-fault c = λ older h.
    let q = err_from_is_err_and c.from_residual-in_err-step.result c.from_residual-in_err-step.ensures.1 in
    q.1 ∙ ap Err q.2
    ∙ cycle_err c.args.params.now older c.args.sample.now c.in_ok-bus.bus (sym c.is_in_session.ensures ∙ c.if-not-is_in_session.false) (sym c.known.ensures.known ∙ c.in_ok-bus.was)
    c.in_err-step.field-0.0 (sym c.in_err-step.was ∙ c.step.ensures.fault (past_at c.args.params.now older) h)

pub returns-clause-fault : goal.returns-clause-fault
returns-clause-fault c = λ older h.
    cycle_ok c.args.params.now older c.args.sample.now c.in_ok-bus.bus (sym c.is_in_session.ensures ∙ c.if-not-is_in_session.false) (sym c.known.ensures.known ∙ c.in_ok-bus.was)
    (sym c.in_ok-step.was ∙ c.step.ensures.fault (past_at c.args.params.now older) h)

pub returns-clause-followed : goal.returns-clause-followed
returns-clause-followed c = λ older h.
    cycle_followed c.args.params.now older c.args.sample.now c.in_ok-bus.bus (sym c.is_in_session.ensures ∙ c.if-not-is_in_session.false) (sym c.known.ensures.known ∙ c.in_ok-bus.was)
    c.step.new.self (c.in_ok-step.ensures.followed (past_at c.args.params.now older) h)
