use Rattle.std.proofs.Common.{◌≡◌, ◌∙◌, sym, ap, rules}
use Rattle.xif_session.specs.declared.fact.Decision.{Decision}
use Rattle.xif_session.specs.Facts.{is_undecided}
use Rattle.xif_uses.proofs.Decisions.{stands, withdrawn}
use Rattle.xif_uses.proofs.table.withdraw.Goals as goal

pub remove-requires-clause-there : goal.remove-requires-clause-there
remove-requires-clause-there c =
    let u : c.in-Some.latest.decision ≡ Decision.Undecided = search rules in
    let k = stands c.args.places.now c.args.key c.in-Some.latest c.args.order.now.offers c.requires.key c.requires.order (sym c.latest.ensures ∙ c.in-Some.is) (ap is_undecided u) in
    (k.0, (k.1.0, k.1.1))

pub returns-then-eq-clause-order : goal.returns-then-eq-clause-order
returns-then-eq-clause-order c =
    let u : c.in-Some.latest.decision ≡ Decision.Undecided = search rules in
    withdrawn c.args.places.now c.args.key c.in-Some.latest c.args.order.now.offers c.remove.new.self.offers c.requires.key c.requires.order
    (sym c.latest.ensures ∙ c.in-Some.is) (ap is_undecided u) c.remove.ensures.offers
