use Rattle.std.proofs.Common.{◌≡◌, ◌-◌, ap, subst, ◌∙◌}
use Rattle.xif_signals.specs.Bus.{FitsWidths}
use Rattle.cycle_spec.specs.Choices.{choices}
use Rattle.cycle_spec.specs.Core.{learnt}
use Rattle.cycle_spec.specs.Cycle.{cycle, bus_at, log_at}
use Rattle.xif_sim.specs.Simulating.{Simulating, turned, after_cycle}
use Rattle.xif_sim.proofs.Turned.{turned-params}
use Rattle.xif_sim.proofs.simulation.Simulation.next_cycle.Goals as goal

pub returns-clause-goes_on : goal.returns-clause-goes_on
unfolding cycle
returns-clause-goes_on g c =
    let x = c.self.inside in
    let asked = c.args.predictor.now in
    let answer = g.P.Predictor.answer asked in
    let here : Simulating = record {
      machines = record { core = x.core; engine = x.engine };
      is_draining = x.is_draining;
      left = x.left;
      drain_limit = x.drain_limit;
    } in
    let v : here ≡ turned c.args.self.now = c.self.view_is ∙ c.turn.ensures.turned in
    record {
      bus = c.one_cycle.ensures.bus ∙ ap (λ (s : Simulating). bus_at s.machines 0) v;
      log = c.one_cycle.ensures.log ∙ ap (λ (s : Simulating). log_at s.machines answer) v;
      simulation = (λ i. record {
        machines = record { core = c.one_cycle.ensures.core i; engine = c.one_cycle.ensures.engine i };
        is_draining = x.is_draining;
        left = x.left - 1;
        drain_limit = x.drain_limit;
      })
          ∙ ap (λ (s : Simulating). after_cycle s answer) v;
      predictor = c.one_cycle.ensures.learnt
          ∙ ap (λ (s : Simulating). learnt g.P.Predictor.after (choices s.machines.core).retire asked) v;
    }

pub returns-clause-fits : goal.returns-clause-fits
returns-clause-fits g c =
    subst (λ p. FitsWidths p c.one_cycle.result.0)
    (ap (λ (s : Simulating). s.machines.core.params) (c.self.view_is ∙ c.turn.ensures.turned) ∙ turned-params c.args.self.now)
    c.one_cycle.ensures.fits
