use Rattle.std.proofs.Common.{◌≡◌, ap, sym, ◌∙◌, true, false, rules}
use Rattle.std.specs.Option.{option_map_or}
use Rattle.xif_session.specs.Facts.{same_key}
use Rattle.cycle_spec.specs.declared.use_of.Use.{Use}
use Rattle.cycle_spec.specs.State.{Engine}
use Rattle.cycle_spec.specs.Engine as spec
use Rattle.coproc_engine.proofs.Latest.{started-own, started-other, not-started}
use Rattle.coproc_engine.proofs.engine.Engine.started_start.Goals as goal
use Rattle.coproc_engine.proofs.engine.Engine.started_start.Goals.{else-starts-via-then-starts+else-same_key, else-starts-via-else-starts}

pub returns-then-same_key : goal.returns-then-same_key
returns-then-same_key c =
    let e : Engine = c.args.self.now in
    let cpu = c.args.cpu.now in
    let own : same_key (spec.issue_key cpu) c.args.key ≡ true = search rules in
    let cycle : c.self.inside.cycle ≡ e.cycle = search rules in
    cycle ∙ sym (ap (λ o. option_map_or (λ (u : Use). u.start) o e.cycle) (started-own (spec.starts e cpu) c.args.key cpu e.cycle e.uses (sym c.requires ∙ c.if-starts.true) own))

pub returns-else-starts : goal.returns-else-starts
returns-else-starts c =
    let e : Engine = c.args.self.now in
    let cpu = c.args.cpu.now in
    let found : c.latest_start.result ≡ spec.start_of c.args.key e.uses e.cycle = search rules in
    found ∙ sym (ap (λ o. option_map_or (λ (u : Use). u.start) o e.cycle) (elim c.else-starts.branch [
      | else-starts-via-then-starts+else-same_key w ↦
          let other : same_key (spec.issue_key cpu) c.args.key ≡ false = search rules in
          started-other (spec.starts e cpu) c.args.key cpu e.cycle e.uses other
      | else-starts-via-else-starts w ↦
          let not : spec.starts e cpu ≡ false = search rules in
          not-started (spec.starts e cpu) c.args.key cpu e.cycle e.uses not
    ]))
