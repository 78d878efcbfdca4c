use Rattle.std.proofs.Common.{refl}
use Rattle.vcd_text.proofs.Following.{none-left, follows-faulty, follows-word}
use Rattle.vcd_text.proofs.scanner.Scanner.word.Goals as goal

pub returns-in-Some-clause-follows : goal.returns-in-Some-clause-follows
returns-in-Some-clause-follows c = λ text taken h. follows-faulty c.args.self.now c.in-Some.field-0 text c.args.word.now taken c.in-Some.is h

pub returns-clause-follows : goal.returns-clause-follows
returns-clause-follows c = λ text taken h.
    follows-word c.args.self.now _ text c.args.word.now taken (none-left _ c.in_default.not-Some) c.requires.ink refl c.in_ok-extend_from_slice.ensures.items refl h
