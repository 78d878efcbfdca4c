use Rattle.std.proofs.Common.{◌≡◌, ◌+◌, ◌-◌, ◌∙◌, length, take, drop, ap, sym, subst, arith}
use Rattle.std.proofs.lemmas.List.{take_all, length-drop}
use Rattle.vcd_text.specs.Grammar.{change}
use Rattle.vcd_text.specs.Words.{digits}
use Rattle.vcd_text.specs.Steps.{StepsTo}
use Rattle.vcd_text.proofs.Ahead.{word-closed, reads-ahead}
use Rattle.vcd_text.proofs.state.State.take.Goals as goal

pub returns-in-Some-clause-whole : goal.returns-in-Some-clause-whole
returns-in-Some-clause-whole c =
    word-closed c.args.tail.now c.whole_word_len-len.result (c.whole_word_len-len.ensures c.if-len-gt0.true)

pub returns-in-Some-clause-read : goal.returns-in-Some-clause-read
returns-in-Some-clause-read c =
    let old = c.args.self.now in
    let token = c.args.token.now in
    let len = c.whole_word_len-len.result in
    let found = c.in-Some.digits in
    let result = c.change-change.result in
    let all : take (length token - 1) (drop 1 token) ≡ drop 1 token = take_all (length token - 1) (drop 1 token) (omega (arith, length-drop 1 token)) in
    reads-ahead old result c.args.end len token c.args.tail.now found c.if-len-gt0.true (c.is_vector.ensures c.if-is_vector.true) (c.whole_word_len-len.ensures c.if-len-gt0.true)
    (sym (ap digits all) ∙ c.in-Some.ensures.0) c.in-Some.ensures.1
    (subst (λ at. StepsTo old old result (change old at found (c.args.end + 1) (take len c.args.tail.now))) c.saturating_sub-at.ensures
    (subst (λ ds. StepsTo old old result (change old c.saturating_sub-at.result ds (c.args.end + 1) (take len c.args.tail.now))) c.short-digits.ensures c.change-change.ensures))
