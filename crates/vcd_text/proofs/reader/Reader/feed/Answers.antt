use Rattle.std.proofs.Common.{sym, ap, ◌∙◌}
use Rattle.vcd_text.specs.Reader.{Progress}
use Rattle.vcd_text.specs.Scanner.{outcome}
use Rattle.vcd_text.proofs.Standing.{stands-faulty}
use Rattle.vcd_text.proofs.reader.Reader.feed.Goals as goal

pub returns-in-Some-clause-fed : goal.returns-in-Some-clause-fed
returns-in-Some-clause-fed c = λ text taken h.
    stands-faulty c.args.self.now c.in-Some.fault text c.args.piece.now taken
    (sym (ap (λ (p : Progress). p.read.state) c.self.view_is) ∙ ap (outcome c.self.inside.scanner.state) c.in-Some.is) h
