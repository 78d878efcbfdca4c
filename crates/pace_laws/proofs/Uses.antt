-- What a cycle leaves of the engine's uses.
use Rattle.std.proofs.Common.{◌≡◌, ◌≢◌, ◌<◌, ◌==◌, ◌&&◌, ◌+◌, ℕ, Bool, true, false, cond, not, List, [], ◌∷◌, map, filter, Option, Some, None, refl, sym, ap, ◌∙◌, subst, arith}
use Rattle.std.specs.Prelude.{is_some, IfSome, IsSome}
use Rattle.std.proofs.lemmas.Bool.{eqb-true}
use Rattle.coproc_config.specs.Set.{UnitTable}
use Rattle.coproc_config.specs.declared.accept.Hit.{Hit}
use Rattle.xif_signals.specs.declared.bus.CpuOut.{CpuOut}
use Rattle.xif_signals.specs.declared.bus.CopOut.{CopOut}
use Rattle.xif_signals.specs.declared.bus.CpuIn.{CpuIn}
use Rattle.xif_session.specs.Facts.{is_undecided as is_decision_open}
use Rattle.cycle_spec.specs.declared.use_of.Use.{Use}
use Rattle.cycle_spec.specs.State.{Engine}
use Rattle.cycle_spec.specs.Engine.{has_key, issue_key, register_key, commit_key, latest, new_use, start_step, started_uses, starts, with_answer, answer_step, with_operands, given_to, given_step, lanes_on, with_decision, decided_by, decide_step, with_end, ended, end_step, issue_start, offered_hit, answered_uses, given_uses, decided_uses, ended_uses, offered_use, settled_uses, is_next, is_complete, outcome_of, with_ready, ready_uses, ready_in_harts}
use Rattle.cycle_lists.specs.Lists.{Each, Pairs}
use Rattle.cycle_lists.proofs.Tests.{or-cases}
use Rattle.cycle_lists.proofs.Every.{Each-from, Each-map, Each-map2, Each-filter, Each-push, Each-append, Each-at}
use Rattle.cycle_paired.specs.Paired.{Older}
use Rattle.cycle_paired.proofs.Carrying.{Carries}
use Rattle.cycle_paired.proofs.Facts.{other-starts}

-- what the steps of registers and decision leave of a use
pub record Leaves (u v : Use) : Type 0 where
  pub start : v.start ≡ u.start
  pub key : v.key ≡ u.key
  pub order : v.order ≡ u.order
  pub ready : v.ready ≡ u.ready
  pub finished : v.finished ≡ u.finished

leaves-operands : (s : ℕ) (lanes : List ℕ) (u : Use) → Leaves u (with_operands s lanes u)
leaves-operands s lanes u = record { start = refl; key = refl; order = refl; ready = refl; finished = refl }

leaves-decision : (kill : Bool) (named u : Use) → Leaves u (with_decision kill named u)
leaves-decision kill named u = record { start = refl; key = refl; order = refl; ready = refl; finished = refl }

abbrev pub Closed : (Use → Type 0) → Type 0
Closed P = (u v : Use) → Leaves u v → P u → P v

-- ---- each step

each-started : (P : Use → Type 0) (b : Bool) (cpu : CpuOut) (c : ℕ) (us : List Use) → (b ≡ true → P (new_use (issue_key cpu) c cpu.issue_instr)) → Each P us → Each P (start_step b cpu c us)
each-started P true cpu c us n h = Each-push P (filter (λ u. not (has_key (issue_key cpu) u)) us) (new_use (issue_key cpu) c cpu.issue_instr) (Each-filter P (λ u. not (has_key (issue_key cpu) u)) us h) (n refl)
each-started P false cpu c us n h = h

-- an answer by the start
each-answered : (P : Use → Type 0) (s : ℕ) (hit : Option Hit) (order : ℕ) (cpu : CpuOut) (cop : CopOut) (us : List Use) → ((cpu.issue_valid && cop.issue_ready) ≡ true → (u : Use) → P u → P (with_answer s hit order u)) → Each P us → Each P (answer_step s hit order cpu cop us)
each-answered P s hit order cpu cop us k h = go (cpu.issue_valid && cop.issue_ready) refl
  where
    go : (t : Bool) → (cpu.issue_valid && cop.issue_ready) ≡ t → Each P (cond t (map (with_answer s hit order) us) us)
    go true q = Each-map P P (with_answer s hit order) us (k q) h
    go false q = h

each-given : (P : Use → Type 0) (cpu : CpuOut) (cop : CopOut) (us : List Use) → Closed P → Each P us → Each P (given_step cpu cop us)
each-given P cpu cop us k h = go (cpu.register_valid && cop.register_ready) (latest (register_key cpu) us)
  where
    go : (t : Bool) (o : Option Use) → Each P (cond t (given_to o (lanes_on cpu) us) us)
    go false o = h
    go true None = h
    go true (Some v) = Each-map P P (with_operands v.start (lanes_on cpu)) us (λ u p. k u (with_operands v.start (lanes_on cpu) u) (leaves-operands v.start (lanes_on cpu) u) p) h

each-decided : (P : Use → Type 0) (cpu : CpuOut) (us : List Use) → Closed P → Each P us → Each P (decide_step cpu us)
each-decided P cpu us k h = go cpu.commit_valid (latest (commit_key cpu) us)
  where
    one : (v : Use) (t : Bool) → Each P (cond t (map (with_decision cpu.commit_kill v) us) us)
    one v true = Each-map P P (with_decision cpu.commit_kill v) us (λ u p. k u (with_decision cpu.commit_kill v u) (leaves-decision cpu.commit_kill v u) p) h
    one v false = h

    go : (t : Bool) (o : Option Use) → Each P (cond t (decided_by cpu.commit_kill o us) us)
    go false o = h
    go true None = h
    go true (Some v) = one v (is_decision_open v.decision)

-- an end by the start
each-ended : (P : Use → Type 0) (offered : Option Use) (cop : CopOut) (input : CpuIn) (us : List Use) → ((v : Use) → offered ≡ Some v → (u : Use) → P u → P (with_end v.start u)) → Each P us → Each P (end_step offered cop input us)
each-ended P offered cop input us k h = go (cop.result_valid && input.result_ready) offered refl
  where
    go : (t : Bool) (o : Option Use) → offered ≡ o → Each P (cond t (ended o us) us)
    go false o q = h
    go true None q = h
    go true (Some v) q = Each-map P P (with_end v.start) us (k v q) h

abbrev pub ReadyClosed : (c : ℕ) → (Use → Type 0) → Type 0
ReadyClosed c P = (hart result : ℕ) (u : Use) → is_next hart u ≡ true → P u → P (with_ready c result u)

each-ready_uses : (P : Use → Type 0) (set : List UnitTable) (c hart : ℕ) (state : List (List ℕ)) (us : List Use) → ReadyClosed c P → Each P us → Each P (ready_uses set c hart state us)
each-ready_uses P set c hart state [] k h = tt
each-ready_uses P set c hart state (u ∷ us) k h = go (is_next hart u) (is_complete u) refl (each-ready_uses P set c hart state us k h.1) (each-ready_uses P set c hart (outcome_of set state u).state us k h.1)
  where
    go : (a b : Bool) → is_next hart u ≡ a → Each P (ready_uses set c hart state us) → Each P (ready_uses set c hart (outcome_of set state u).state us)
        → Each P (cond (not a) (u ∷ ready_uses set c hart state us) (cond b (with_ready c (outcome_of set state u).result u ∷ ready_uses set c hart (outcome_of set state u).state us) (u ∷ us)))
    go false b p x y = (h.0, x)
    go true true p x y = (k hart (outcome_of set state u).result u p h.0, y)
    go true false p x y = h

pub each-ready : (P : Use → Type 0) (set : List UnitTable) (c hart : ℕ) (states : List (List (List ℕ))) (us : List Use) → ReadyClosed c P → Each P us → Each P (ready_in_harts set c hart states us)
each-ready P set c hart [] us k h = h
each-ready P set c hart (state ∷ states) us k h = each-ready P set c (hart + 1) states (ready_uses set c hart state us) k (each-ready_uses P set c hart state us k h)

-- up to the decision
pub each-up : (P : Use → Type 0) (e : Engine) (cpu : CpuOut) (cop : CopOut) → Closed P → (starts e cpu ≡ true → P (new_use (issue_key cpu) e.cycle cpu.issue_instr))
    → ((cpu.issue_valid && cop.issue_ready) ≡ true → (u : Use) → P u → P (with_answer (issue_start e cpu) (offered_hit e cpu) e.accepted u)) → Each P e.uses → Each P (decided_uses e cpu cop)
each-up P e cpu cop k n a h =
    each-decided P cpu (given_uses e cpu cop) k (each-given P cpu cop (answered_uses e cpu cop) k
    (each-answered P (issue_start e cpu) (offered_hit e cpu) e.accepted cpu cop (started_uses e cpu) a (each-started P (starts e cpu) cpu e.cycle e.uses n h)))

pub each-end : (P : Use → Type 0) (e : Engine) (cpu : CpuOut) (cop : CopOut) (input : CpuIn) → ((v : Use) → offered_use e ≡ Some v → (u : Use) → P u → P (with_end v.start u)) → Each P (decided_uses e cpu cop) → Each P (ended_uses e cpu cop input)
each-end P e cpu cop input k h = each-ended P (offered_use e) cop input (decided_uses e cpu cop) k h

-- ---- what is ready

-- a use got ready in an earlier cycle, and only a ready one is finished
pub record IsKept (c : ℕ) (u : Use) : Type 0 where
  pub before : IfSome u.ready (λ r. r < c)
  pub finished : u.finished ≡ true → IsSome u.ready

kept-leaves : (c : ℕ) (u v : Use) → Leaves u v → IsKept c u → IsKept c v
kept-leaves c u v l k = record { before = subst (λ o. IfSome o (λ r. r < c)) (sym l.ready) k.before; finished = λ f. ap is_some l.ready ∙ k.finished (sym l.finished ∙ f) }

abbrev HasOf : ℕ → Use → Type 0
HasOf s u = u.start ≡ s → IsSome u.ready

of-start : (u : Use) (us : List Use) → Carries u us → Pairs Older us → Each (HasOf u.start) us
of-start u us k pairs =
    let o = other-starts k.front k.carried k.back (subst (Pairs Older) k.here pairs) in
    subst (Each (HasOf u.start)) (sym k.here)
    (Each-append (HasOf u.start) k.front (k.carried ∷ k.back) (Each-from (λ x. x.start ≢ k.carried.start) (HasOf u.start) k.front (λ x n q. absurd (n (q ∙ sym k.start))) o.0)
    (λ q. k.ready, Each-from (λ x. x.start ≢ k.carried.start) (HasOf u.start) k.back (λ x n q. absurd (n (q ∙ sym k.start))) o.1))

later : (c : ℕ) (o : Option ℕ) → IfSome o (λ r. r < c) → IfSome o (λ r. r < c + 1)
later c None h = tt
later c (Some r) h = omega arith

pub kept-ended : (e : Engine) (cpu : CpuOut) (cop : CopOut) (input : CpuIn) → Each (λ u. u.start < e.cycle) e.uses → Pairs Older e.uses → ((v : Use) → offered_use e ≡ Some v → Carries v e.uses) → Each (IsKept e.cycle) e.uses → Each (IsKept e.cycle) (ended_uses e cpu cop input)
kept-ended e cpu cop input below pairs carries h =
    go (cop.result_valid && input.result_ready) (offered_use e) refl
    (each-up (IsKept e.cycle) e cpu cop (kept-leaves e.cycle) (λ s. record { before = tt; finished = λ f. cc }) (λ a u k. record { before = k.before; finished = k.finished }) h)
  where
    one : (v : Use) → offered_use e ≡ Some v → (us : List Use) → us ≡ decided_uses e cpu cop → Each (IsKept e.cycle) us → Each (IsKept e.cycle) (map (with_end v.start) us)
    one v q us i k =
        let c = carries v q in
        let s : v.start < e.cycle = start-below c below in
        let has : Each (HasOf v.start) us = subst (Each (HasOf v.start)) (sym i) (each-up (HasOf v.start) e cpu cop (λ x y l p z. ap is_some l.ready ∙ p (sym l.start ∙ z)) (λ s' z. absurd (omega (arith, s, z))) (λ a u p z. p z) (of-start v e.uses c pairs)) in
        Each-map2 (IsKept e.cycle) (HasOf v.start) (IsKept e.cycle) (with_end v.start) us (λ u a b. record { before = a.before; finished = λ f. or-cases u.finished (u.start == v.start) (IsSome u.ready) f a.finished (λ z. b (eqb-true u.start v.start z)) }) k has
      where
        start-below : (c : Carries v e.uses) → Each (λ u. u.start < e.cycle) e.uses → v.start < e.cycle
        start-below c below = subst (λ n. n < e.cycle) c.start (Each-at (λ u. u.start < e.cycle) e.uses c.front c.carried c.back c.here below)

    go : (t : Bool) (o : Option Use) → offered_use e ≡ o → Each (IsKept e.cycle) (decided_uses e cpu cop) → Each (IsKept e.cycle) (cond t (ended o (decided_uses e cpu cop)) (decided_uses e cpu cop))
    go false o q k = k
    go true None q k = k
    go true (Some v) q k = one v q (decided_uses e cpu cop) refl k

pub kept-settled : (e : Engine) (cpu : CpuOut) (cop : CopOut) (input : CpuIn) → Each (λ u. u.start < e.cycle) e.uses → Pairs Older e.uses → ((v : Use) → offered_use e ≡ Some v → Carries v e.uses) → Each (IsKept e.cycle) e.uses → Each (IsKept (e.cycle + 1)) (settled_uses e cpu cop input)
kept-settled e cpu cop input below pairs carries h =
    each-ready (IsKept (e.cycle + 1)) e.set e.cycle 0 e.units (ended_uses e cpu cop input) (λ hart result u n k. record { before = now e.cycle; finished = λ f. refl })
    (Each-from (IsKept e.cycle) (IsKept (e.cycle + 1)) (ended_uses e cpu cop input) (λ u k. record { before = later e.cycle u.ready k.before; finished = k.finished }) (kept-ended e cpu cop input below pairs carries h))
  where
    now : (c : ℕ) → c < c + 1
    now c = omega arith
