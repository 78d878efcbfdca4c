use Rattle.std.proofs.Common.{◌≡◌, ◌≢◌, true, sym, ap, ◌∙◌, subst}
use Rattle.std.specs.Prelude.{OnOk}
use Rattle.std.specs.Option.{option_map}
use Rattle.xif_base.specs.declared.params.Key.{Key}
use Rattle.xif_signals.specs.declared.rule.Channel.TheVariants.{Commit}
use Rattle.xif_session.specs.Facts.{named, answered_on, given_on, undecided_start, decided_from, now}
use Rattle.xif_session.specs.Tests.{answer_of, fault_on}
use Rattle.xif_uses.specs.declared.table.Decided.{Decided}
use Rattle.xif_uses.specs.declared.table.Decided.TheVariants.{OutOfOrder}
use Rattle.xif_uses.specs.Table as table
use Rattle.xif_uses.specs.Table.{Represents}
use Rattle.commit_channel.specs.Committed.{broken_rule}
use Rattle.commit_channel.proofs.Commits.{commit_fault, decided_facts}
use Rattle.commit_channel.proofs.Open.{behind}
use Rattle.commit_channel.proofs.side.decide.Goals as goal

pub returns-clause-fault : goal.returns-clause-fault
returns-clause-fault c params p r =
    let b = c.args.bus.now in
    let v : b.commit_valid ≡ true = c.if-not-bus.false in
    c.check.ensures
    ∙ ap (λ (decided : Decided). answer_of (option_map (λ rule. fault_on rule Commit b) (broken_rule decided))) (c.decide.ensures.answer ∙ ap (λ (key : Key). table.answer_of c.args.uses.now key b.commit_kill) c.key.ensures)
    ∙ commit_fault params p b c.args.uses.now v (c.requires.key v) c.requires.newest r

pub returns-clause-facts : goal.returns-clause-facts
returns-clause-facts c params p r =
    let b = c.args.bus.now in
    let v : b.commit_valid ≡ true = c.if-not-bus.false in
    let facts = given_on b (answered_on b (named p b)) in
    subst (λ answer. OnOk answer (Represents c.decide.new.self params (now p b))) (sym c.check.ensures)
    (decided_facts params p b c.args.uses.now v (c.requires.key v) c.requires.newest r c.decide.new.self c.decide.result
    (subst (λ (key : Key). c.decide.result ≢ OutOfOrder → Represents c.decide.new.self params (decided_from (undecided_start (facts key)) key.hart b.commit_kill facts)) c.key.ensures (c.decide.ensures.facts params facts r)))

pub returns-clause-offered : goal.returns-clause-offered
returns-clause-offered c key o k = behind c.args.uses.now c.decide.new.self c.key.result c.args.bus.now.commit_kill c.decide.result c.decide.ensures.taken c.decide.ensures.kept key o k
