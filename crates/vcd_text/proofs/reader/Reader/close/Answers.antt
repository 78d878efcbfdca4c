use Rattle.std.proofs.Common.{None, Some, sym, ap, ◌∙◌, subst}
use Rattle.vcd_text.specs.Reader.{Progress, Represents}
use Rattle.vcd_text.specs.Scanner.{outcome}
use Rattle.vcd_text.proofs.Following.{none-left}
use Rattle.vcd_text.proofs.Standing.{follows-from_stands, closed-faulty, whole-is, ends-as, items-as, closes-as, declared-at_end}
use Rattle.vcd_text.proofs.reader.Reader.close.Goals as goal

pub returns-in-Some-clause-closed : goal.returns-in-Some-clause-closed
returns-in-Some-clause-closed c = λ text taken h.
    closed-faulty c.args.self.now c.in-Some.fault text taken
    (sym (ap (λ (p : Progress). p.read.state) c.self.view_is) ∙ ap (outcome c.self.inside.scanner.state) c.in-Some.is) h

pub returns-in-Some-fault-clause-closed : goal.returns-in-Some-fault-clause-closed
returns-in-Some-fault-clause-closed c = λ text taken h.
    let s = c.self.inside.scanner in
    let f = follows-from_stands s _ _ text taken (subst (λ p. Represents p text taken) (sym c.self.view_is) h) in
    let whole = whole-is s c.end_token.new.self text taken (none-left _ c.in_default.not-Some) f (c.in-Ok.ensures.read taken) in
    (ends-as c.end_token.new.self text taken (Some c.in-Some-fault.fault) c.in-Some-fault.is whole, items-as c.end_token.new.self text taken whole)

pub returns-in-Some-fault_at_end-clause-closed : goal.returns-in-Some-fault_at_end-clause-closed
returns-in-Some-fault_at_end-clause-closed c = λ text taken h.
    let s = c.self.inside.scanner in
    let new = c.end_token.new.self in
    let f = follows-from_stands s _ _ text taken (subst (λ p. Represents p text taken) (sym c.self.view_is) h) in
    let whole = whole-is s new text taken (none-left _ c.in_default.not-Some) f (c.in-Ok.ensures.read taken) in
    (closes-as new text taken new.size (Some c.in-Some-fault_at_end.fault) (none-left _ c.in_default-fault.not-Some) (c.in-Ok.ensures.size ∙ f.size (none-left _ c.in_default.not-Some)) c.in-Some-fault_at_end.ensures whole, items-as new text taken whole)

pub returns-in-None-clause-closed : goal.returns-in-None-clause-closed
returns-in-None-clause-closed c = λ text taken h.
    let s = c.self.inside.scanner in
    let new = c.end_token.new.self in
    let f = follows-from_stands s _ _ text taken (subst (λ p. Represents p text taken) (sym c.self.view_is) h) in
    let whole = whole-is s new text taken (none-left _ c.in_default.not-Some) f (c.in-Ok.ensures.read taken) in (
      new.state.variables,
      declared-at_end new.state new.size c.in-None.ensures,
      closes-as new text taken new.size None (none-left _ c.in_default-fault.not-Some) (c.in-Ok.ensures.size ∙ f.size (none-left _ c.in_default.not-Some)) c.in-None.ensures whole,
    )
