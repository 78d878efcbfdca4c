use Rattle.std.proofs.Common.{[], ◌∷◌}
use Rattle.vcd_text.proofs.Following.{none-left, follows-push, follows-faulty}
use Rattle.vcd_text.specs.Tokens.{token_before}
use Rattle.vcd_text.specs.Words.{is_white}
use Rattle.vcd_text.proofs.SoundReading.{onward-if}
use Rattle.vcd_text.proofs.scanner.Scanner.byte.Goals as goal

pub returns-in-Some-clause-follows : goal.returns-in-Some-clause-follows
returns-in-Some-clause-follows c = λ text taken h. follows-faulty c.args.self.now c.in-Some.field-0 text (c.args.byte ∷ []) taken c.in-Some.is h

pub returns-clause-follows : goal.returns-clause-follows
returns-clause-follows c = λ text taken h. follows-push c.args.self.now c.sound_byte.new.self c.args.byte text taken (none-left _ c.in_default.not-Some) c.in_ok-sound_byte.ensures.steps h

pub returns-clause-onward : goal.returns-clause-onward
returns-clause-onward c = onward-if _ _ (token_before c.args.self.now.size c.args.self.now.run.items) (is_white c.args.byte) (c.in_ok-sound_byte.ensures.steps.read [])
