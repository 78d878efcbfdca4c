use Rattle.std.proofs.Common.{◌≡◌, sym, ap, ◌∙◌, subst}
use Rattle.vcd_text.specs.declared.state.Part.TheVariants.{Nothing}
use Rattle.vcd_text.specs.declared.state.State.{State}
use Rattle.vcd_text.specs.Grammar.{in_part, with_part, step}
use Rattle.vcd_text.specs.Steps.{StepsTo}
use Rattle.vcd_text.specs.Tokens.{Token}
use Rattle.vcd_text.proofs.state.State.step.Goals as goal

outside_is : (s : State) (t : Token) → s.part ≡ Nothing → in_part Nothing s t ≡ step s t
outside_is s t e = sym (ap (λ p. in_part p (with_part s Nothing) t) e ∙ ap (λ p. in_part Nothing (with_part s p) t) (sym e))

pub returns-in-Nothing : goal.returns-in-Nothing
returns-in-Nothing c =
    let old = c.args.self.now in
    let t : Token = record { at = c.args.at; text = c.args.token.now } in
    subst (StepsTo old c.outside.new.self c.outside.result) (outside_is old t c.in-Nothing.is) c.outside.ensures
