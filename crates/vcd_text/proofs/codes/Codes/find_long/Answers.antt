use Rattle.std.proofs.Common.{sym, ap, ◌∙◌}
use Rattle.vcd_text.specs.Codes.{code_from}
use Rattle.vcd_text.proofs.CodeTable.{code_from-found, code_from-absent}
use Rattle.vcd_text.proofs.codes.Codes.find_long.Goals as goal

pub returns-in-Some : goal.returns-in-Some
returns-in-Some c =
    sym (code_from-found c.args.text.now c.self.inside.sizes.entries c.in-Some.number c.in-Some.size.now (sym c.in-Some.ensures.index) (sym c.in-Some.ensures.value))
    ∙ ap (code_from 0 c.args.text.now) c.self.view_is

pub returns-in-None : goal.returns-in-None
returns-in-None c =
    sym (code_from-absent c.args.text.now c.self.inside.sizes.entries (sym c.in-None.ensures.value))
    ∙ ap (code_from 0 c.args.text.now) c.self.view_is
