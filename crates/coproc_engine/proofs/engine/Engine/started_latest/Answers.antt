use Rattle.std.proofs.Common.{◌≡◌, ap, sym, ◌∙◌, Some, true, false, rules}
use Rattle.xif_session.specs.Facts.{same_key}
use Rattle.cycle_spec.specs.State.{Engine}
use Rattle.cycle_spec.specs.Engine as spec
use Rattle.coproc_engine.proofs.Latest.{started-own, started-other, not-started}
use Rattle.coproc_engine.proofs.engine.Engine.started_latest.Goals as goal
use Rattle.coproc_engine.proofs.engine.Engine.started_latest.Goals.{else-starts-via-then-starts+else-same_key, else-starts-via-else-starts}

pub returns-then-same_key : goal.returns-then-same_key
returns-then-same_key c =
    let e : Engine = c.args.self.now in
    let cpu = c.args.cpu.now in
    let own : same_key (spec.issue_key cpu) c.args.key ≡ true = search rules in
    let made : c.new_use.result ≡ spec.new_use (spec.issue_key cpu) e.cycle cpu.issue_instr = search rules in
    ap Some made ∙ sym (started-own (spec.starts e cpu) c.args.key cpu e.cycle e.uses (sym c.requires ∙ c.if-starts.true) own)

pub returns-else-starts : goal.returns-else-starts
returns-else-starts c =
    let e : Engine = c.args.self.now in
    let cpu = c.args.cpu.now in
    let found : c.latest.result ≡ spec.latest c.args.key e.uses = search rules in
    found ∙ sym (elim c.else-starts.branch [
      | else-starts-via-then-starts+else-same_key w ↦
          let other : same_key (spec.issue_key cpu) c.args.key ≡ false = search rules in
          started-other (spec.starts e cpu) c.args.key cpu e.cycle e.uses other
      | else-starts-via-else-starts w ↦
          let not : spec.starts e cpu ≡ false = search rules in
          not-started (spec.starts e cpu) c.args.key cpu e.cycle e.uses not
    ])
