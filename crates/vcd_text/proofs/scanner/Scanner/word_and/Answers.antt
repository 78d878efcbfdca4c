use Rattle.std.proofs.Common.{◌≡◌, ◌++◌, [], ◌∷◌, take, sym, subst, ◌∙◌, arith}
use Rattle.std.proofs.lemmas.Bool.Decides.{nat_tests}
use Rattle.std.proofs.lemmas.List.{append-nil, nil_from_length}
use Rattle.std.proofs.lemmas.Result.{IfOk-weaker}
use Rattle.vcd_text.specs.Scanner.{Represents, read_by, tokens_of}
use Rattle.vcd_text.specs.Sound.{Onward}
use Rattle.vcd_text.proofs.Following.{none-left, follows-faulty, follows-tokens}
use Rattle.vcd_text.proofs.SoundReading.{onward-read}
use Rattle.vcd_text.proofs.scanner.Scanner.word_and.Goals as goal

pub returns-in-Some-clause-follows : goal.returns-in-Some-clause-follows
returns-in-Some-clause-follows c = λ text taken h.
    subst (λ x. Represents c.args.self.now x taken) (sym (append-nil (text ++ c.args.word.now ++ c.args.next ∷ [])))
    (follows-faulty c.args.self.now c.in-Some.field-0 (text ++ c.args.word.now) (c.args.next ∷ []) taken c.in-Some.is
    (follows-faulty c.args.self.now c.in-Some.field-0 text c.args.word.now taken c.in-Some.is h))

pub returns-then-is_white-clause-follows : goal.returns-then-is_white-clause-follows
returns-then-is_white-clause-follows c =
    let empty : c.args.self.now.run.items ≡ [] = nil_from_length c.args.self.now.run.items (grind (arith, nat_tests)) in
    IfOk-weaker c.whole_token.result _ _ (λ n takes text taken h.
    follows-tokens c.args.self.now c.whole_token.new.self c.args.next text c.args.word.now (take n c.args.tail.now) taken (none-left _ c.in_default.not-Some) empty c.requires.ink
    (sym c.is_white.ensures ∙ c.if-is_white.true) takes h) c.whole_token.ensures.takes

pub returns-then-is_white-clause-onward : goal.returns-then-is_white-clause-onward
returns-then-is_white-clause-onward c =
    IfOk-weaker c.whole_token.result _ (λ _. Onward (read_by c.args.self.now []) (read_by c.whole_token.new.self [])) (λ n takes.
    onward-read (read_by c.args.self.now []) _ (tokens_of _ c.args.word.now (take n c.args.tail.now)) (takes.read [])) c.whole_token.ensures.takes

pub returns-clause-follows : goal.returns-clause-follows
returns-clause-follows c = λ text taken h.
    subst (λ x. Represents c.byte.new.self x taken) (sym (append-nil (text ++ c.args.word.now ++ c.args.next ∷ [])))
    (c.in_ok-byte.ensures.follows (text ++ c.args.word.now) taken (c.in_ok-word.ensures.follows text taken h))
