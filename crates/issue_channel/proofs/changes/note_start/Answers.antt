use Rattle.std.proofs.Common.{◌≡◌, ◌≢◌, ◌∙◌, sym, rules}
use Rattle.xif_uses.specs.declared.handshake.Phase.TheVariants.{Starts}
use Rattle.issue_channel.proofs.Phases.{with_start, without_start}
use Rattle.issue_channel.proofs.changes.note_start.Goals as goal

pub returns-then-eq-clause-facts : goal.returns-then-eq-clause-facts
returns-then-eq-clause-facts c params p n e r =
    let s : c.args.phase ≡ Starts = search rules in
    with_start c.start.new.self params p c.args.bus.now c.key.result c.args.cycle (sym s ∙ e) c.key.ensures n (c.start.ensures.facts params p.facts r)

pub returns-else-eq-clause-facts : goal.returns-else-eq-clause-facts
returns-else-eq-clause-facts c params p n e r =
    let s : c.args.phase ≢ Starts = search rules in
    without_start c.args.uses.now params p c.args.bus.now (λ q. s (e ∙ q)) r
