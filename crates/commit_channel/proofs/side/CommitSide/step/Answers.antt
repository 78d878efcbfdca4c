use Rattle.std.proofs.Common.{ap, ◌∙◌}
use Rattle.xif_session.specs.Facts.{now}
use Rattle.issue_channel.specs.Following.{Following}
use Rattle.commit_channel.proofs.Open.{open_behind}
use Rattle.commit_channel.proofs.side.CommitSide.step.Goals as goal

pub returns-clause-follows : goal.returns-clause-follows
returns-clause-follows c params p h =
    let e = c.cut_killed.ensures in
    let facts = c.in_ok-decide.ensures.facts params p h.facts in
    record {
      facts = facts;
      keeps = record {
        same = ap (λ (side : Following). side.params) e ∙ h.keeps.same;
        before = ap (λ (side : Following). side.last) e ∙ h.keeps.before;
        registers = ap (λ (side : Following). side.register) e ∙ h.keeps.registers;
        offered = ap (λ (side : Following). side.issue) e
            ∙ open_behind c.args.uses.now c.decide.new.uses params (now p c.args.bus.now) c.args.bus.now c.args.issue.now.issue facts c.decide.ensures.params c.requires.offered h.keeps.offered;
      };
    }
