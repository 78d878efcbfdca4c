use Rattle.std.proofs.Common.{◌≡◌, ◌++◌, ◌-◌, [], ◌∷◌, length, take, drop, sym, ap, ◌∙◌, subst, arith}
use Rattle.std.proofs.lemmas.Bool.Decides.{nat_tests}
use Rattle.std.proofs.lemmas.List.{append-nil, nil_from_length, take_all, length-drop}
use Rattle.vcd_text.specs.Scanner.{Represents}
use Rattle.vcd_text.proofs.Following.{parts_again, one_part}
use Rattle.vcd_text.proofs.SoundReading.{onward-then}
use Rattle.vcd_text.proofs.scanner.Scanner.bytes.Goals as goal

pub loop-rest-preserved : goal.loop-rest-preserved
loop-rest-preserved c =
    let tail = c.in-Some.tail.now in
    let taken = c.in_ok-taken-in-Some.taken in
    let last : take (length tail - taken) (drop taken tail) ≡ drop taken tail = take_all (length tail - taken) (drop taken tail) (omega (arith, length-drop taken tail)) in
    record {
      size = omega (arith, c.in_ok-taken-in-Some.ensures.size, c.in_ok-taken-in-Some.ensures.within, c.split_at.ensures.front_len, c.split_at.ensures.back_len, c.in-Some.ensures.cases.1, length-drop taken tail, ap length last);
      codes = c.in_ok-taken-in-Some.ensures.codes;
      onward = onward-then _ _ _ c.loop-rest.invariant.onward c.in_ok-taken-in-Some.ensures.onward;
      follows = λ new items h text f.
          c.loop-rest.invariant.follows new items (λ t g.
          let word = c.split_at.result.0.now in
          let next = c.in-Some.next.now in
          let parts = parts_again c.loop-rest.rest.now word c.split_at.result.1.now tail _ c.word_len.result next taken c.split_at.ensures.front c.split_at.ensures.back c.in-Some.ensures.cases.0 last t in
          subst (λ x. Represents new x items) parts (h (t ++ word ++ next ∷ [] ++ take taken tail) (c.in_ok-taken-in-Some.ensures.follows t items g))) text f;
    }

pub returns-in-None-clause-follows : goal.returns-in-None-clause-follows
returns-in-None-clause-follows c = λ text taken f.
    c.loop-rest.invariant.follows c.word.new.self taken (λ t g.
    let all = one_part c.loop-rest.rest.now c.split_at.result.0.now c.split_at.result.1.now c.word_len.result c.split_at.ensures.front c.split_at.ensures.back c.in-None.ensures.cases in
    subst (λ x. Represents c.word.new.self (t ++ x) taken) all (c.in_ok-word-in-None.ensures.follows t taken g)) text f

pub returns-clause-follows : goal.returns-clause-follows
returns-clause-follows c = λ text taken f.
    c.loop-rest.invariant.follows c.loop-rest.self taken (λ t g.
    let none : c.loop-rest.rest.now ≡ [] = nil_from_length c.loop-rest.rest.now (grind (arith, nat_tests)) in
    subst (λ x. Represents c.loop-rest.self x taken) (sym (ap (λ x. t ++ x) none ∙ append-nil t)) g) text f
