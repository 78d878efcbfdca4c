use Rattle.std.proofs.Common.{◌≡◌, ◌<◌, ap, ap₂, map, subst, sym, ◌∙◌, rules}
use Rattle.xif_base.specs.declared.params.Params.{Params}
use Rattle.xif_base.specs.Params.{IsInRange}
use Rattle.xif_signals.specs.Bus.{join_of, FitsWidths}
use Rattle.cycle_spec.specs.Core.{core_accepts, core_clock, core_drive}
use Rattle.cycle_spec.specs.Engine.{units_of, engine_drive}
use Rattle.cycle_spec.specs.Cycle.{for_hart, Machines, cpu_at, cop_at, input_at, bus_at, core_next, engine_next}
use Rattle.hart_laws.specs.Harts.{HasServed, uses_of, after_result}
use Rattle.hart_laws.proofs.Others.{served-cycle, others-units, others-uses, others-taken}
use Rattle.coproc_engine.specs.Drives.{FitsCopOut}
use Rattle.xif_sim.proofs.Faithful.{legal-cycle, session-cycle}
use Rattle.xif_sim.proofs.Seen.{core_sees}
use Rattle.xif_sim.proofs.Widths.{bus-fits}
use Rattle.xif_sim.proofs.cycle.one_cycle.Goals as goal

pub returns-clause-core : goal.returns-clause-core
returns-clause-core g c =
    let m : Machines = record { core = c.args.core.now; engine = c.args.engine.now } in
    let answer = g.P.Predictor.answer c.args.predictor.now in
    let cpu : c.for_hart.new.cpu ≡ cpu_at m c.args.hart = c.for_hart.ensures ∙ ap (for_hart c.args.hart) c.drive-cpu.ensures.value in
    let cop : c.drive-cop.result ≡ cop_at m c.args.hart = c.drive-cop.ensures.value ∙ ap (engine_drive m.engine) cpu in
    let input : c.accepts-input.result ≡ input_at m c.args.hart = c.accepts-input.ensures ∙ ap (core_accepts m.core) cop in
    let bus : c.join-bus.result ≡ bus_at m c.args.hart =
    c.join-bus.ensures
    ∙ ap (λ x. join_of x c.drive-cop.result c.accepts-input.result) cpu
    ∙ ap₂ (λ x y. join_of (cpu_at m c.args.hart) x y) cop input in
    c.clock-log.ensures.after
    ∙ ap (core_clock answer m.core) bus
    ∙ core_sees answer m.core c.args.hart (core_drive m.core) (cop_at m c.args.hart) (input_at m c.args.hart)

pub returns-clause-fits : goal.returns-clause-fits
returns-clause-fits g c =
    let p : Params = c.args.core.now.params in
    let same = sym c.requires.params in
    let range : IsInRange p = subst IsInRange same c.drive-cop.ensures.params in
    let cop : FitsCopOut p c.drive-cop.result = subst (λ p. FitsCopOut p c.drive-cop.result) same c.drive-cop.ensures.fits in
    let hart : c.args.hart < p.num_harts = subst (λ (p : Params). c.args.hart < p.num_harts) same c.requires.hart in
    let joined : c.join-bus.result ≡ join_of (for_hart c.args.hart c.drive-cpu.result) c.drive-cop.result c.accepts-input.result =
    c.join-bus.ensures ∙ ap (λ cpu. join_of cpu c.drive-cop.result c.accepts-input.result) c.for_hart.ensures in
    subst (FitsWidths p) (sym joined) (bus-fits p c.args.hart c.drive-cpu.result c.drive-cop.result c.accepts-input.result range hart c.drive-cpu.ensures.fits cop)

pub returns-clause-legal : goal.returns-clause-legal
returns-clause-legal g c = λ setup session range x.
    let m : Machines = record { core = c.args.core.now; engine = c.args.engine.now } in
    let bus : c.join-bus.result ≡ bus_at m c.args.hart = search rules in
    legal-cycle setup c.args.hart m session c.join-bus.result bus range x

pub returns-clause-session : goal.returns-clause-session
returns-clause-session g c = λ setup session none x.
    let m : Machines = record { core = c.args.core.now; engine = c.args.engine.now } in
    let answer = g.P.Predictor.answer c.args.predictor.now in
    let bus : c.join-bus.result ≡ bus_at m c.args.hart = search rules in
    let core : c.clock-log.new.self ≡ core_next m c.args.hart answer = returns-clause-core g c in
    let engine : c.clock.new.self ≡ engine_next m c.args.hart = search rules in
    session-cycle setup c.args.hart m session answer c.join-bus.result c.clock-log.new.self c.clock.new.self bus core engine none x

pub returns-clause-served : goal.returns-clause-served
returns-clause-served g c = λ served.
    let m : Machines = record { core = c.args.core.now; engine = c.args.engine.now } in
    let engine : c.clock.new.self ≡ engine_next m c.args.hart = search rules in
    subst HasServed (sym engine) (served-cycle c.args.hart m served)

pub returns-clause-other_units : goal.returns-clause-other_units
returns-clause-other_units g c = λ other n served.
    let m : Machines = record { core = c.args.core.now; engine = c.args.engine.now } in
    let engine : c.clock.new.self ≡ engine_next m c.args.hart = search rules in
    ap (λ e. units_of e other) engine ∙ others-units c.args.hart other m served n

pub returns-clause-other_uses : goal.returns-clause-other_uses
returns-clause-other_uses g c = λ other n served.
    let m : Machines = record { core = c.args.core.now; engine = c.args.engine.now } in
    let engine : c.clock.new.self ≡ engine_next m c.args.hart = search rules in
    let bus : c.join-bus.result ≡ bus_at m c.args.hart = search rules in
    ap (λ e. uses_of e other) engine ∙ others-uses c.args.hart other m served n
    ∙ ap (λ b. map (after_result b) (uses_of c.args.engine.now other)) (sym bus)

pub returns-clause-other_taken : goal.returns-clause-other_taken
returns-clause-other_taken g c = λ other n served taken.
    let m : Machines = record { core = c.args.core.now; engine = c.args.engine.now } in
    let engine : c.clock.new.self ≡ engine_next m c.args.hart = search rules in
    ap (λ e. uses_of e other) engine ∙ others-taken c.args.hart other m served n taken
