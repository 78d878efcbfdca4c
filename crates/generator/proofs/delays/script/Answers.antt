use Rattle.std.proofs.Common.{◌≡◌, sym, ◌∙◌, subst}
use Rattle.std.proofs.lemmas.Result.{IfOk-weaker}
use Rattle.xif_drive.specs.Scripts.{IsLawful}
use Rattle.generator.proofs.Drawn.{script-is, script-lawful}
use Rattle.generator.proofs.delays.script.Goals as goal

pub returns-clause-script : goal.returns-clause-script
returns-clause-script c =
    let drawn = script-is c.args.seed c.draw_four.new.state c.draw_four-2.new.state c.draw_four-3.new.state c.draw_four-4.new.state _ _ _ _ _
    c.in_ok-draw_four.ensures.drawn c.in_ok-draw_four.ensures.state
    c.in_ok-draw_four-2.ensures.drawn c.in_ok-draw_four-2.ensures.state
    c.in_ok-draw_four-3.ensures.drawn c.in_ok-draw_four-3.ensures.state
    c.in_ok-draw_four-4.ensures.drawn c.in_ok-draw_four-4.ensures.state
    c.in_ok-draw_four-5.ensures.drawn in
    IfOk-weaker c.new.result _ _ (λ script is. is ∙ drawn) c.new.ensures

pub returns-clause-lawful : goal.returns-clause-lawful
returns-clause-lawful c = IfOk-weaker c.new.result _ _ (λ script is. subst IsLawful (sym is) (script-lawful c.args.seed)) (returns-clause-script c)
