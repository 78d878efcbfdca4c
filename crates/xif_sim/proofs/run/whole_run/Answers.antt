use Rattle.std.proofs.Common.{◌≡◌, ◌++◌, [], ◌∷◌, All, true, false, true≢false, reverse, filter_map, rules, ap, subst, sym, ◌∙◌}
use Rattle.std.proofs.lemmas.List.Elements.{All-push}
use Rattle.std.proofs.lemmas.Result.{IfOk-weaker}
use Rattle.xif_signals.specs.Bus.{FitsWidths}
use Rattle.cycle_spec.specs.declared.log.CycleLog.{CycleLog}
use Rattle.cycle_spec.specs.Run.{Run, run_of}
use Rattle.xif_sim.specs.Simulating.{meaning, is_over, Tells}
use Rattle.xif_sim.proofs.Whole.{lists-more, retired-more, whole-lists, is-false}
use Rattle.xif_sim.proofs.run.whole_run.Goals as goal

pub loop-bus-preserved : goal.loop-bus-preserved
loop-bus-preserved g c =
    let setup = c.args.setup.now in
    let first = c.args.predictor.now in
    let was = c.loop-bus in
    let new = c.next_cycle.new in
    let bus = c.in-Some.bus in
    let log = c.in-Some.log in
    let pushed = c.in_ok-push.ensures in
    let m = meaning g.P.Predictor.answer g.P.Predictor.after in
    let not_over : is_over was.simulation ≡ false = is-false (is_over was.simulation) (λ over. true≢false (c.in-Some.ensures.over.1 over)) in
    let tells : Tells m setup first new.self new.predictor (reverse (was.told.buses ++ bus ∷ [])) (reverse (was.told.logs ++ log ∷ [])) =
    lists-more m setup first was.simulation was.predictor new.self new.predictor (bus, log) was.told.buses was.told.logs was.invariant.tells not_over c.in-Some.ensures.goes_on in
    let fits : FitsWidths setup.params bus = subst (λ p. FitsWidths p bus) was.invariant.params c.in-Some.ensures.fits in
    record {
      tells = subst (λ bs. Tells m setup first new.self new.predictor (reverse bs) (reverse c.push.new.self.logs)) (sym pushed.buses)
          (subst (λ ls. Tells m setup first new.self new.predictor (reverse (was.told.buses ++ bus ∷ [])) (reverse ls)) (sym pushed.logs) tells);
      retired = pushed.retired ∙ retired-more was.told.logs log was.told.retired was.invariant.retired
          ∙ ap (filter_map (λ (line : CycleLog). line.retired)) (sym pushed.logs);
      params = c.in-Some.ensures.params ∙ was.invariant.params;
      fits = subst (All (FitsWidths setup.params)) (sym pushed.buses) (All-push (FitsWidths setup.params) was.told.buses bus was.invariant.fits fits);
    }

pub returns-clause-run : goal.returns-clause-run
returns-clause-run g c =
    let setup = c.args.setup.now in
    let first = c.args.predictor.now in
    let was = c.loop-bus in
    let s = c.next_cycle.new.self in
    let m = meaning g.P.Predictor.answer g.P.Predictor.after in
    let stays : s ≡ was.simulation = search rules in
    let over : is_over was.simulation ≡ true = search rules in
    let tells : Tells m setup first s was.predictor (reverse was.told.buses) (reverse was.told.logs) =
    subst (λ s. Tells m setup first s was.predictor (reverse was.told.buses) (reverse was.told.logs)) (sym stays) was.invariant.tells in
    IfOk-weaker c.run_after.result _ (λ (run : Run). run ≡ run_of m setup first)
    (λ run e. e ∙ whole-lists m setup first s was.predictor was.told.buses was.told.logs was.told.retired (ap is_over stays ∙ over) tells was.invariant.retired)
    c.run_after.ensures

pub returns-clause-fits : goal.returns-clause-fits
returns-clause-fits g c =
    IfOk-weaker c.run_after.result _ (λ (run : Run). All (FitsWidths c.args.setup.now.params) run.buses)
    (λ run e. subst (All (FitsWidths c.args.setup.now.params)) (sym (ap (λ (r : Run). r.buses) e)) c.loop-bus.invariant.fits)
    c.run_after.ensures
