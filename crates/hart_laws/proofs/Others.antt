-- A cycle for a hart, and what the engine keeps of the others.
use Rattle.std.proofs.Common.{if◌then◌else◌, ◌≡◌, ◌≢◌, ◌<◌, ◌≤◌, ◌==◌, ◌&&◌, ◌||◌, ℕ, Bool, true, false, Option, Some, None, is_some, List, [], ◌∷◌, length, map, filter, refl, sym, ap, ◌∙◌, subst, arith}
use Rattle.std.specs.Prelude.{IsSome, nat_lt}
use Rattle.std.proofs.lemmas.Bool.{eqb-true}
use Rattle.std.proofs.lemmas.Bool.Decides.{nat_tests}
use Rattle.std.proofs.lemmas.List.{get_or_past}
use Rattle.xif_base.specs.declared.params.Params.{Params}
use Rattle.coproc_config.specs.Set.{UnitTable}
use Rattle.xif_drive.specs.Scripts.{Lists}
use Rattle.xif_signals.specs.declared.bus.CpuOut.{CpuOut}
use Rattle.xif_signals.specs.declared.bus.CpuIn.{CpuIn}
use Rattle.xif_session.specs.Facts.{same_key}
use Rattle.cycle_spec.specs.declared.use_of.Use.{Use}
use Rattle.cycle_spec.specs.State.{Engine, new_engine}
use Rattle.cycle_spec.specs.Engine.{use_or, with_end, ended, decided_uses, ended_uses, settled_uses, offered_use, units_of, units_in_harts, engine_drive, engine_clock}
use Rattle.cycle_spec.specs.Cycle.{Machines, cpu_at, cop_at, input_at, bus_at, engine_next, hart_if}
use Rattle.cycle_lists.specs.Lists.{Each}
use Rattle.cycle_lists.proofs.Tests.{or-false}
use Rattle.cycle_lists.proofs.Every.{each, Each-from, Each-both, Each-filter}
use Rattle.cycle_lists.proofs.Filters.{filter-map}
use Rattle.cycle_lists.proofs.Places.{map-none}
use Rattle.cycle_paired.specs.Paired.{HasResult}
use Rattle.engine_history.proofs.Settle.{units_length, units_at}
use Rattle.engine_history.proofs.Run.{run_cycle}
use Rattle.hart_laws.specs.Harts.{HasServed, is_of, uses_of, after_result, AreTaken}
use Rattle.hart_laws.proofs.Lists.{map-agree, same-use}
use Rattle.hart_laws.proofs.Settled.{is_settled, settled-units, of-harts, of-settled, map-settled}
use Rattle.hart_laws.proofs.Steady.{Steady, offers, steady}
use Rattle.hart_laws.proofs.Steps.{Spares, of-steps}

-- ---- the end of a use: of the one that is offered, once its result is taken

abbrev ends : (ready : Bool) → Option Use → Use → Use
ends ready o u = record u { finished = u.finished || ((is_some o && ready) && same_key u.key (use_or o).key) }

not-ended : (o : Option Use) (us : List Use) → map (λ (u : Use). record u { finished = u.finished || false }) us ≡ us
not-ended o us = map-none (λ (u : Use). record u { finished = u.finished || false }) us (each (λ u. record u { finished = u.finished || false } ≡ u) us (λ u. ap {B = Use} (λ t. record u { finished = t }) (or-false u.finished)))

of-ended : (hart : ℕ) (e : Engine) (cpu : CpuOut) (input : CpuIn) → Steady e → Spares hart cpu
    → filter (is_of hart) (ended_uses e cpu (engine_drive e cpu) input) ≡ map (ends input.result_ready (offered_use e)) (filter (is_of hart) e.uses)
of-ended hart e cpu input k s = go (offered_use e) refl input.result_ready
  where
    decided : List Use
    decided = decided_uses e cpu (engine_drive e cpu)

    same : filter (is_of hart) decided ≡ filter (is_of hart) e.uses
    same = of-steps hart e cpu (engine_drive e cpu) k s

    go : (o : Option Use) → offered_use e ≡ o → (ready : Bool) → filter (is_of hart) (if is_some o && ready then ended o decided else decided) ≡ map (ends ready o) (filter (is_of hart) e.uses)
    go None q ready = same ∙ sym (not-ended None (filter (is_of hart) e.uses))
    go (Some u) q false = same ∙ sym (not-ended (Some u) (filter (is_of hart) e.uses))
    go (Some u) q true =
        let w = offers e u k q in
        filter-map (is_of hart) (with_end u.start) decided (each (λ v. is_of hart (with_end u.start v) ≡ is_of hart v) decided (λ v. refl))
        ∙ ap (map (with_end u.start)) same
        ∙ map-agree (with_end u.start) (ends true (Some u)) (filter (is_of hart) e.uses)
        (Each-filter (λ v. with_end u.start v ≡ ends true (Some u) v) (is_of hart) e.uses
        (Each-from (λ v. (v.start == u.start) ≡ same_key v.key u.key) (λ v. with_end u.start v ≡ ends true (Some u) v) e.uses
        (λ v h. ap {B = Use} (λ t. record v { finished = v.finished || t }) h) (same-use e.uses w.front u w.back k.older w.here)))

-- ---- the units

settled-ended : (hart : ℕ) (e : Engine) (cpu : CpuOut) (input : CpuIn) → Steady e → Spares hart cpu → hart < length e.units → is_settled hart (ended_uses e cpu (engine_drive e cpu) input) ≡ true
settled-ended hart e cpu input k s l =
    sym (of-settled hart (ended_uses e cpu (engine_drive e cpu) input))
    ∙ ap (is_settled hart) (of-ended hart e cpu input k s)
    ∙ map-settled hart (ends input.result_ready (offered_use e)) (filter (is_of hart) e.uses) (λ u. refl) (λ u. refl)
    ∙ of-settled hart e.uses ∙ k.settled hart l

of-clocked : (hart : ℕ) (e : Engine) (cpu : CpuOut) (input : CpuIn) → Steady e → Spares hart cpu
    → filter (is_of hart) (settled_uses e cpu (engine_drive e cpu) input) ≡ map (ends input.result_ready (offered_use e)) (filter (is_of hart) e.uses)
of-clocked hart e cpu input k s =
    of-harts e.set e.cycle hart e.units (ended_uses e cpu (engine_drive e cpu) input) (settled-ended hart e cpu input k s)
    ∙ of-ended hart e cpu input k s

units-clocked : (hart : ℕ) (e : Engine) (cpu : CpuOut) (input : CpuIn) → Steady e → Spares hart cpu → units_of (engine_clock e cpu (engine_drive e cpu) input) hart ≡ units_of e hart
units-clocked hart e cpu input k s = by (nat_lt hart (length e.units)) refl
  where
    us : List Use
    us = ended_uses e cpu (engine_drive e cpu) input

    within : hart < length e.units → units_of (engine_clock e cpu (engine_drive e cpu) input) hart ≡ units_of e hart
    within l = units_at e.set hart e.units us l ∙ settled-units e.set hart (units_of e hart) us (settled-ended hart e cpu input k s l)

    past : length e.units ≤ hart → units_of (engine_clock e cpu (engine_drive e cpu) input) hart ≡ units_of e hart
    past l =
        get_or_past (units_in_harts e.set 0 e.units us) hart [] (subst (λ n. n ≤ hart) (sym (units_length e.set 0 e.units us)) l)
        ∙ sym (get_or_past e.units hart [] l)

    by : (t : Bool) → nat_lt hart (length e.units) ≡ t → units_of (engine_clock e cpu (engine_drive e cpu) input) hart ≡ units_of e hart
    by true q = within (grind (arith, nat_tests))
    by false q = past (grind (arith, nat_tests))

-- ---- the cycle of a hart

spares : (hart other : ℕ) (m : Machines) → other ≢ hart → Spares other (cpu_at m hart)
spares hart other m n = record {
  issue = λ v q. n (sym q ∙ ap (λ t. hart_if t hart) v);
  register = λ v q. n (sym q ∙ ap (λ t. hart_if t hart) v);
  commit = λ v q. n (sym q ∙ ap (λ t. hart_if t hart) v);
}

pub others-uses : (hart other : ℕ) (m : Machines) → HasServed m.engine → other ≢ hart → uses_of (engine_next m hart) other ≡ map (after_result (bus_at m hart)) (uses_of m.engine other)
others-uses hart other m h n = of-clocked other m.engine (cpu_at m hart) (input_at m hart) (steady m.engine h) (spares hart other m n)

pub others-units : (hart other : ℕ) (m : Machines) → HasServed m.engine → other ≢ hart → units_of (engine_next m hart) other ≡ units_of m.engine other
others-units hart other m h n = units-clocked other m.engine (cpu_at m hart) (input_at m hart) (steady m.engine h) (spares hart other m n)

-- a use whose result was taken isn't offered
taken-same : (o : Option Use) (ready : Bool) (e : Engine) (u : Use) → (is_some o ≡ true → same_key u.key (use_or o).key ≡ true → HasResult u.start u) → (IsSome u.ready → u.finished ≡ true) → ends ready o u ≡ u
taken-same o ready e u h t = ap {B = Use} (λ x. record u { finished = x }) (go u.finished (is_some o) ready (same_key u.key (use_or o).key) refl refl refl)
  where
    go : (f a b c : Bool) → u.finished ≡ f → is_some o ≡ a → same_key u.key (use_or o).key ≡ c → (f || ((a && b) && c)) ≡ f
    go true a b c p q r = refl
    go false true true true p q r = let w = h q r in sym (t (w.ready refl)) ∙ w.unfinished refl
    go false true true false p q r = refl
    go false true false c p q r = refl
    go false false b c p q r = refl

pub others-taken : (hart other : ℕ) (m : Machines) → HasServed m.engine → other ≢ hart → AreTaken m.engine other → uses_of (engine_next m hart) other ≡ uses_of m.engine other
others-taken hart other m h n a =
    others-uses hart other m h n ∙ map-none (after_result (bus_at m hart)) (uses_of m.engine other) all
  where
    k : Steady m.engine
    k = steady m.engine h

    offered : (o : Option Use) → offered_use m.engine ≡ o → Each (λ v. is_some o ≡ true → same_key v.key (use_or o).key ≡ true → HasResult v.start v) m.engine.uses
    offered None q = each (λ v. false ≡ true → same_key v.key (use_or None).key ≡ true → HasResult v.start v) m.engine.uses (λ v z. cc)
    offered (Some u) q =
        let w = offers m.engine u k q in
        Each-both (λ v. (v.start == u.start) ≡ same_key v.key u.key) (HasResult u.start) (λ v. true ≡ true → same_key v.key u.key ≡ true → HasResult v.start v) m.engine.uses
        (λ v s r y z. let at : v.start ≡ u.start = eqb-true v.start u.start (s ∙ z) in record { ready = λ p. r.ready at; unfinished = λ p. r.unfinished at })
        (same-use m.engine.uses w.front u w.back k.older w.here) w.results

    all : Each (λ v. after_result (bus_at m hart) v ≡ v) (uses_of m.engine other)
    all = Each-both (λ v. is_some (offered_use m.engine) ≡ true → same_key v.key (use_or (offered_use m.engine)).key ≡ true → HasResult v.start v) (λ v. IsSome v.ready → v.finished ≡ true)
        (λ v. after_result (bus_at m hart) v ≡ v) (uses_of m.engine other)
        (λ v r t. taken-same (offered_use m.engine) (input_at m hart).result_ready m.engine v r t)
        (Each-filter (λ v. is_some (offered_use m.engine) ≡ true → same_key v.key (use_or (offered_use m.engine)).key ≡ true → HasResult v.start v) (is_of other) m.engine.uses (offered (offered_use m.engine) refl)) a

-- ---- the engines that have served

pub served-new : (params : Params) (set : List UnitTable) (script : Lists) → HasServed (new_engine params set script)
served-new params set script = record { params = params; set = set; script = script; session = []; run = record { engine_is = refl; driven = tt } }

pub served-cycle : (hart : ℕ) (m : Machines) → HasServed m.engine → HasServed (engine_next m hart)
unfolding Rattle.cycle_spec.specs.Cycle.cycle
served-cycle hart m h = record {
  params = h.params;
  set = h.set;
  script = h.script;
  session = bus_at m hart ∷ h.session;
  run = run_cycle h.params h.set h.script h.session m hart (λ pc word. 0) h.run;
}
