use Rattle.std.proofs.Common.{◌≡◌, false, sym, subst, refl, ap, ◌∙◌}
use Rattle.xif_signals.specs.declared.bus.Bus.{Bus}
use Rattle.cycle_spec.specs.declared.log.CycleLog.{CycleLog}
use Rattle.cycle_spec.specs.Run.{run_of}
use Rattle.xif_sim.specs.Simulating.{meaning, begun, is_over}
use Rattle.traced_run.specs.Left.{IsAtEnd}
use Rattle.traced_run.specs.Telling.{IsCounting}
use Rattle.traced_run.proofs.Telling.{counting-none, counting-more, counting-ends, not-true}
use Rattle.traced_run.proofs.ran.run_counted.Goals as goal

pub loop-log-init : goal.loop-log-init
loop-log-init g c =
    let m = meaning g.P.Predictor.answer g.P.Predictor.after in
    let setup = c.args.setup.now in
    let first = c.args.predictor.now in
    record {
      counting = subst (λ s. IsCounting m setup first s first c.none-counts.result) (sym c.in_ok-simulation.ensures)
          (subst (λ k. IsCounting m setup first (begun setup) first k) (sym c.none-counts.ensures) (counting-none m setup first c.requires));
    }

pub loop-log-preserved : goal.loop-log-preserved
loop-log-preserved g c =
    let m = meaning g.P.Predictor.answer g.P.Predictor.after in
    let setup = c.args.setup.now in
    let first = c.args.predictor.now in
    let told : Bus × CycleLog = (c.in-Some.field-0-0, c.in-Some.log) in
    let going : is_over c.loop-log.simulation ≡ false = not-true (is_over c.loop-log.simulation) (λ t. let none = c.in-Some.ensures.over.1 t in cc) in
    record {
      counting = subst (λ k. IsCounting m setup first c.next_cycle.new.self c.next_cycle.new.predictor k) (sym c.with-counts.ensures)
          (counting-more m setup first c.loop-log.simulation c.loop-log.predictor c.next_cycle.new.self c.next_cycle.new.predictor told c.loop-log.counts c.loop-log.invariant.counting going c.in-Some.ensures.goes_on c.in-Some.ensures.params c.in-Some.ensures.fewer);
    }

pub returns-clause-end : goal.returns-clause-end
returns-clause-end g c =
    let m = meaning g.P.Predictor.answer g.P.Predictor.after in
    let setup = c.args.setup.now in
    let first = c.args.predictor.now in
    let over = c.in_default.ensures.over.0 refl in
    subst (λ s. IsAtEnd s (run_of m setup first)) (sym c.in_default.ensures.stays.0)
    (counting-ends m setup first c.loop-log.simulation c.loop-log.predictor c.loop-log.counts c.loop-log.invariant.counting over).0

pub returns-clause-counts : goal.returns-clause-counts
returns-clause-counts g c =
    let m = meaning g.P.Predictor.answer g.P.Predictor.after in
    (counting-ends m c.args.setup.now c.args.predictor.now c.loop-log.simulation c.loop-log.predictor c.loop-log.counts c.loop-log.invariant.counting (c.in_default.ensures.over.0 refl)).1
