use Rattle.std.proofs.Common.{◌≡◌, ◌∙◌, sym, arith}
use Rattle.std.specs.Prelude.{Err}
use Rattle.std.proofs.lemmas.Grind.{common_steps}
use Rattle.result_channel.proofs.side.ResultSide.step.Goals as goal

pub returns-in_err-judge-clause-fault : goal.returns-in_err-judge-clause-fault
returns-in_err-judge-clause-fault c params p l r =
    let e : c.from_residual.result ≡ Err c.in_err-judge.field-0.0 = grind (arith, common_steps) in
    e ∙ sym c.in_err-judge.was ∙ c.judge.ensures.fault params p (c.self.view_is ∙ l) r

pub returns-clause-fault : goal.returns-clause-fault
returns-clause-fault c params p l r = sym c.in_ok-judge.was ∙ c.judge.ensures.fault params p (c.self.view_is ∙ l) r
