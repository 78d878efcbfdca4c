-- What every engine that has served keeps: its uses in order, the result that waits, and ready uses.
use Rattle.std.proofs.Common.{if◌then◌else◌, ◌≡◌, ◌<◌, ◌+◌, ◌++◌, ◌&&◌, not, ℕ, Bool, true, false, Option, Some, None, List, [], ◌∷◌, length, map, filter, refl, sym, ap, ◌∙◌, subst, arith}
use Rattle.std.specs.Prelude.{IsSome, IfSome}
use Rattle.std.specs.Option.{option_map}
use Rattle.std.proofs.lemmas.Bool.{eqb-true}
use Rattle.xif_base.specs.declared.params.Params.{Params}
use Rattle.coproc_config.specs.Set.{UnitTable}
use Rattle.xif_drive.specs.Scripts.{Lists, delay_of}
use Rattle.xif_signals.specs.declared.bus.Bus.{Bus}
use Rattle.xif_signals.specs.declared.bus.CpuOut.{CpuOut}
use Rattle.xif_signals.specs.declared.bus.CopOut.{CopOut}
use Rattle.xif_signals.specs.declared.bus.CpuIn.{CpuIn}
use Rattle.coproc_config.specs.declared.accept.Hit.{Hit}
use Rattle.xif_session.specs.Facts.{is_undecided}
use Rattle.cycle_spec.specs.declared.use_of.Use.{Use}
use Rattle.cycle_spec.specs.State.{Engine}
use Rattle.cycle_spec.specs.Engine.{has_key, has_start, issue_key, register_key, commit_key, latest, new_use, start_step, starts, started_uses, with_answer, answer_step, with_operands, given_to, given_step, lanes_on, with_decision, decided_by, decide_step, with_end, ended, end_step, issue_start, offered_hit, answered_uses, given_uses, decided_uses, ended_uses, settled_uses, is_past_ready, is_due, offered_by, offered_use, result_waiting_after, engine_clock}
use Rattle.cycle_lists.specs.Lists.{Each, Pairs}
use Rattle.cycle_lists.proofs.Tests.{and-left, and-right, and-false, not-in, not-both}
use Rattle.cycle_lists.proofs.Every.{Each-at, Each-from, Each-both, Each-filter, Each-push, Each-passed, Each-map, Pairs-filter, Pairs-push, Pairs-map}
use Rattle.cycle_lists.proofs.Places.{first-at}
use Rattle.cycle_paired.specs.Paired.{Older, HasResult}
use Rattle.cycle_paired.proofs.Matching.{key-here}
use Rattle.cycle_paired.proofs.Carrying.{LeavesUse, leaves-answer, leaves-operands, leaves-decision, older-kept, older-map, below-map}
use Rattle.cycle_paired.proofs.Applying.{all-harts, all-older, all-below, all-results}
use Rattle.engine_history.proofs.Settle.{units_length}
use Rattle.engine_history.specs.Runs.{cpu_of, cop_of, input_of, engine_of}
use Rattle.hart_laws.specs.Harts.{HasServed}
use Rattle.hart_laws.proofs.Lists.{one-start}
use Rattle.hart_laws.proofs.Settled.{is_settled, all-settled}

pub record Steady (e : Engine) : Type 0 where
  pub older : Pairs Older e.uses
  pub below : Each (λ u. u.start < e.cycle) e.uses
  pub results : IfSome e.result_waiting (λ start. Each (HasResult start) e.uses)
  pub settled : (h : ℕ) → h < length e.units → is_settled h e.uses ≡ true

-- ---- the start of a use

start-older : (s : Bool) (cpu : CpuOut) (cycle : ℕ) (us : List Use) → Pairs Older us → Each (λ u. u.start < cycle) us → Pairs Older (start_step s cpu cycle us)
start-older false cpu cycle us o b = o
start-older true cpu cycle us o b =
    Pairs-push Older (filter others us) new (Pairs-filter Older others us o)
    (Each-both (λ u. u.start < cycle) (λ u. others u ≡ true) (λ u. Older u new) (filter others us)
    (λ u l p. record { rises = l; apart = λ h i. not-both (has_key (issue_key cpu) u) (not-in (has_key (issue_key cpu) u) p) (key-here cpu.issue_hartid cpu.issue_id u h i) })
    (Each-filter (λ u. u.start < cycle) others us b) (Each-passed others us))
  where
    new : Use
    new = new_use (issue_key cpu) cycle cpu.issue_instr

    others : Use → Bool
    others = λ other. not (has_key (issue_key cpu) other)

start-each : (P : Use → Type 0) (s : Bool) (cpu : CpuOut) (cycle : ℕ) (us : List Use) → P (new_use (issue_key cpu) cycle cpu.issue_instr) → Each P us → Each P (start_step s cpu cycle us)
start-each P false cpu cycle us n h = h
start-each P true cpu cycle us n h = Each-push P (filter (λ other. not (has_key (issue_key cpu) other)) us) (new_use (issue_key cpu) cycle cpu.issue_instr) (Each-filter P (λ other. not (has_key (issue_key cpu) other)) us h) n

-- ---- the steps behind it

-- what the steps of a channel make of uses: a change of each that leaves what names it
pub record Moves (us vs : List Use) : Type 0 where
  pub change : Use → Use
  pub leaves : LeavesUse change
  pub is : vs ≡ map change us

map-itself : (us : List Use) → map (λ u. u) us ≡ us
map-itself [] = refl
map-itself (u ∷ us) = ap (λ xs. u ∷ xs) (map-itself us)

stays : (us : List Use) → Moves us us
stays us = record { change = λ u. u; leaves = record { start = λ u. refl; key = λ u. refl; word = λ u. refl; result = λ u. refl; ready = λ u. refl; finished = λ u. refl }; is = sym (map-itself us) }

moves-answer : (start : ℕ) (hit : Option Hit) (order : ℕ) (cpu : CpuOut) (cop : CopOut) (us : List Use) → Moves us (answer_step start hit order cpu cop us)
moves-answer start hit order cpu cop us = go (cpu.issue_valid && cop.issue_ready)
  where
    go : (t : Bool) → Moves us (if t then map (with_answer start hit order) us else us)
    go true = record { change = with_answer start hit order; leaves = leaves-answer start hit order; is = refl }
    go false = stays us

moves-given : (cpu : CpuOut) (cop : CopOut) (us : List Use) → Moves us (given_step cpu cop us)
moves-given cpu cop us = go (cpu.register_valid && cop.register_ready) (latest (register_key cpu) us)
  where
    go : (t : Bool) (o : Option Use) → Moves us (if t then given_to o (lanes_on cpu) us else us)
    go true None = stays us
    go true (Some u) = record { change = with_operands u.start (lanes_on cpu); leaves = leaves-operands u.start (lanes_on cpu); is = refl }
    go false o = stays us

moves-decided : (cpu : CpuOut) (us : List Use) → Moves us (decide_step cpu us)
moves-decided cpu us = go cpu.commit_valid (latest (commit_key cpu) us)
  where
    named : (u : Use) (t : Bool) → Moves us (if t then map (with_decision cpu.commit_kill u) us else us)
    named u true = record { change = with_decision cpu.commit_kill u; leaves = leaves-decision cpu.commit_kill u; is = refl }
    named u false = stays us

    go : (t : Bool) (o : Option Use) → Moves us (if t then decided_by cpu.commit_kill o us else us)
    go true None = stays us
    go true (Some u) = named u (is_undecided u.decision)
    go false o = stays us

older-moved : (us vs : List Use) → Moves us vs → Pairs Older us → Pairs Older vs
older-moved us vs m o = subst (Pairs Older) (sym m.is) (older-map m.change us m.leaves o)

below-moved : (c : ℕ) (us vs : List Use) → Moves us vs → Each (λ u. u.start < c) us → Each (λ u. u.start < c) vs
below-moved c us vs m b = subst (Each (λ u. u.start < c)) (sym m.is) (below-map m.change c us m.leaves b)

result-moved : (s : ℕ) (us vs : List Use) → Moves us vs → Each (HasResult s) us → Each (HasResult s) vs
result-moved s us vs m h = subst (Each (HasResult s)) (sym m.is)
    (Each-map (HasResult s) (HasResult s) m.change us
    (λ u r. record {
      ready = λ q. subst IsSome (sym (m.leaves.ready u)) (r.ready (sym (m.leaves.start u) ∙ q));
      unfinished = λ q. m.leaves.finished u ∙ r.unfinished (sym (m.leaves.start u) ∙ q);
    }) h)

-- ---- the uses up to the commit

pub record Grew (e : Engine) (us : List Use) : Type 0 where
  pub older : Pairs Older us
  pub below : Each (λ u. u.start < e.cycle + 1) us
  pub results : (s : ℕ) → s < e.cycle → Each (HasResult s) e.uses → Each (HasResult s) us

pub grew-started : (e : Engine) (cpu : CpuOut) → Steady e → Grew e (started_uses e cpu)
grew-started e cpu k = record {
  older = start-older (starts e cpu) cpu e.cycle e.uses k.older k.below;
  below = start-each (λ u. u.start < e.cycle + 1) (starts e cpu) cpu e.cycle e.uses (omega arith) (Each-from (λ u. u.start < e.cycle) (λ u. u.start < e.cycle + 1) e.uses (λ u l. omega (arith, l)) k.below);
  results = λ s l h. start-each (HasResult s) (starts e cpu) cpu e.cycle e.uses (record { ready = λ q. absurd (omega (arith, l, q)); unfinished = λ q. refl }) h;
}

grew-moved : (e : Engine) (us vs : List Use) → Moves us vs → Grew e us → Grew e vs
grew-moved e us vs m g = record {
  older = older-moved us vs m g.older;
  below = below-moved (e.cycle + 1) us vs m g.below;
  results = λ s l h. result-moved s us vs m (g.results s l h);
}

pub grew-answered : (e : Engine) (cpu : CpuOut) (cop : CopOut) → Steady e → Grew e (answered_uses e cpu cop)
grew-answered e cpu cop k = grew-moved e (started_uses e cpu) (answered_uses e cpu cop) (moves-answer (issue_start e cpu) (offered_hit e cpu) e.accepted cpu cop (started_uses e cpu)) (grew-started e cpu k)

pub grew-given : (e : Engine) (cpu : CpuOut) (cop : CopOut) → Steady e → Grew e (given_uses e cpu cop)
grew-given e cpu cop k = grew-moved e (answered_uses e cpu cop) (given_uses e cpu cop) (moves-given cpu cop (answered_uses e cpu cop)) (grew-answered e cpu cop k)

pub grew-decided : (e : Engine) (cpu : CpuOut) (cop : CopOut) → Steady e → Grew e (decided_uses e cpu cop)
grew-decided e cpu cop k = grew-moved e (given_uses e cpu cop) (decided_uses e cpu cop) (moves-decided cpu (given_uses e cpu cop)) (grew-given e cpu cop k)

-- ---- the result that is offered

-- the use that is offered is ready and not finished, and no other starts with it
pub record Offers (e : Engine) (u : Use) : Type 0 where
  pub front : List Use
  pub back : List Use
  pub here : e.uses ≡ front ++ u ∷ back
  pub below : u.start < e.cycle
  pub results : Each (HasResult u.start) e.uses

record Place (us : List Use) (u : Use) : Type 0 where
  front : List Use
  back : List Use
  here : us ≡ front ++ u ∷ back
  ready : IsSome u.ready
  unfinished : u.finished ≡ false

past-some : (delay cycle : ℕ) (r : Option ℕ) → is_past_ready delay cycle r ≡ true → IsSome r
past-some delay cycle None h = cc
past-some delay cycle (Some k) h = refl

place-of : (waiting : Option ℕ) (delays : List ℕ) (cycle : ℕ) (us : List Use) (u : Use) → IfSome waiting (λ start. Each (HasResult start) us) → offered_by waiting delays cycle us ≡ Some u → Place us u
place-of None delays cycle us u h e =
    let f = first-at (is_due delays cycle) us u e in
    record {
      front = f.older;
      back = f.younger;
      here = f.here;
      ready = past-some (delay_of delays u.order) cycle u.ready (and-right (not u.finished) (is_past_ready (delay_of delays u.order) cycle u.ready) f.passes);
      unfinished = not-in u.finished (and-left (not u.finished) (is_past_ready (delay_of delays u.order) cycle u.ready) f.passes);
    }
place-of (Some s) delays cycle us u h e =
    let f = first-at (has_start s) us u e in
    let q : u.start ≡ s = eqb-true u.start s f.passes in
    let k = Each-at (HasResult s) us f.older u f.younger f.here h in
    record { front = f.older; back = f.younger; here = f.here; ready = k.ready q; unfinished = k.unfinished q }

pub offers : (e : Engine) (u : Use) → Steady e → offered_use e ≡ Some u → Offers e u
offers e u k q =
    let p = place-of e.result_waiting e.script.result e.cycle e.uses u k.results q in
    record {
      front = p.front;
      back = p.back;
      here = p.here;
      below = Each-at (λ v. v.start < e.cycle) e.uses p.front u p.back p.here k.below;
      results = Each-from (λ v. v.start ≡ u.start → IsSome v.ready × (v.finished ≡ false)) (HasResult u.start) e.uses
          (λ v h. record { ready = λ z. (h z).0; unfinished = λ z. (h z).1 })
          (one-start (λ v. IsSome v.ready × (v.finished ≡ false)) e.uses p.front u p.back k.older p.here (p.ready, p.unfinished));
    }

-- ---- the end of a use

older-ended : (o : Option Use) (us : List Use) → Pairs Older us → Pairs Older (ended o us)
older-ended None us h = h
older-ended (Some u) us h = Pairs-map Older (with_end u.start) us (λ x y r. older-kept (with_end u.start) (λ x. refl) (λ x. refl) x y r) h

below-ended : (c : ℕ) (o : Option Use) (us : List Use) → Each (λ u. u.start < c) us → Each (λ u. u.start < c) (ended o us)
below-ended c None us h = h
below-ended c (Some u) us h = Each-map (λ v. v.start < c) (λ v. v.start < c) (with_end u.start) us (λ v l. l) h

pub older-end : (o : Option Use) (cop : CopOut) (input : CpuIn) (us : List Use) → Pairs Older us → Pairs Older (end_step o cop input us)
older-end o cop input us h = go (cop.result_valid && input.result_ready)
  where
    go : (t : Bool) → Pairs Older (if t then ended o us else us)
    go true = older-ended o us h
    go false = h

below-end : (c : ℕ) (o : Option Use) (cop : CopOut) (input : CpuIn) (us : List Use) → Each (λ u. u.start < c) us → Each (λ u. u.start < c) (end_step o cop input us)
below-end c o cop input us h = go (cop.result_valid && input.result_ready)
  where
    go : (t : Bool) → Each (λ u. u.start < c) (if t then ended o us else us)
    go true = below-ended c o us h
    go false = h

-- ---- a cycle, with whatever core

waiting-after : (e : Engine) (cpu : CpuOut) (cop : CopOut) (input : CpuIn) → Steady e → IfSome (result_waiting_after (offered_use e) input) (λ start. Each (HasResult start) (settled_uses e cpu cop input))
waiting-after e cpu cop input k = go input.result_ready (offered_use e) refl refl
  where
    settle : (s : ℕ) → Each (HasResult s) (ended_uses e cpu cop input) → Each (HasResult s) (settled_uses e cpu cop input)
    settle s h = all-results s (ended_uses e cpu cop input) (settled_uses e cpu cop input) (all-harts e.set e.cycle 0 e.units (ended_uses e cpu cop input)) h

    same : input.result_ready ≡ false → ended_uses e cpu cop input ≡ decided_uses e cpu cop
    same r = ap (λ t. if cop.result_valid && t then ended (offered_use e) (decided_uses e cpu cop) else decided_uses e cpu cop) r ∙ ap (λ t. if t then ended (offered_use e) (decided_uses e cpu cop) else decided_uses e cpu cop) (and-false cop.result_valid)

    go : (r : Bool) (o : Option Use) → input.result_ready ≡ r → offered_use e ≡ o → IfSome (if r then None else option_map (λ (u : Use). u.start) o) (λ start. Each (HasResult start) (settled_uses e cpu cop input))
    go true o q f = tt
    go false None q f = tt
    go false (Some u) q f =
        let w = offers e u k f in
        settle u.start (subst (Each (HasResult u.start)) (sym (same q)) ((grew-decided e cpu cop k).results u.start w.below w.results))

pub steady-cycle : (e : Engine) (cpu : CpuOut) (cop : CopOut) (input : CpuIn) → Steady e → Steady (engine_clock e cpu cop input)
steady-cycle e cpu cop input k =
    let g = grew-decided e cpu cop k in
    let us = ended_uses e cpu cop input in
    let vs = settled_uses e cpu cop input in
    let readied = all-harts e.set e.cycle 0 e.units us in
    record {
      older = all-older us vs readied (older-end (offered_use e) cop input (decided_uses e cpu cop) g.older);
      below = all-below (e.cycle + 1) us vs readied (below-end (e.cycle + 1) (offered_use e) cop input (decided_uses e cpu cop) g.below);
      results = waiting-after e cpu cop input k;
      settled = λ h l. all-settled e.set e.cycle h e.units us (subst (λ n. h < n) (units_length e.set 0 e.units us) l);
    }

steady-session : (params : Params) (set : List UnitTable) (script : Lists) (session : List Bus) → Steady (engine_of params set script session)
steady-session params set script [] = record { older = tt; below = tt; results = tt; settled = λ h l. refl }
steady-session params set script (b ∷ session) = steady-cycle (engine_of params set script session) (cpu_of b) (cop_of b) (input_of b) (steady-session params set script session)

pub steady : (e : Engine) → HasServed e → Steady e
steady e h = subst Steady (sym h.run.engine_is) (steady-session h.params h.set h.script h.session)
