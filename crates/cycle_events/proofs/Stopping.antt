-- The cycle that stops the machine changes nothing of what is left.
use Rattle.std.proofs.Common.{◌≡◌, ◌==◌, ◌&&◌, ◌+◌, ℕ, zero, suc, Bool, true, false, cond, not, List, [], ◌∷◌, map, Option, Some, None, refl, sym, ap, ◌∙◌, subst, arith}
use Rattle.std.specs.Prelude.{find, is_some, is_none, slice_index_or}
use Rattle.std.specs.Option.{option_or}
use Rattle.coproc_config.specs.declared.accept.Hit.{Hit}
use Rattle.coproc_config.specs.Set.{UnitTable}
use Rattle.inorder_machine.specs.declared.line.Retire.{Retire}
use Rattle.inorder_machine.specs.declared.line.Stepped.TheVariants.{Retired, Stop}
use Rattle.inorder_machine.specs.declared.stop.StopCause.{StopCause}
use Rattle.inorder_machine.specs.Machine.{Extension, State}
use Rattle.xif_signals.specs.declared.bus.CpuIn.{CpuIn}
use Rattle.xif_session.specs.declared.fact.Decision.{Decision}
use Rattle.xif_session.specs.declared.fact.Decision.TheVariants.{Undecided, Killed}
use Rattle.xif_session.specs.declared.fact.Response.{Response}
use Rattle.xif_session.specs.Facts.{is_accepted as is_response_accepted, is_undecided, is_released, is_killed}
use Rattle.cycle_spec.specs.declared.choices.Mode.{Mode}
use Rattle.cycle_spec.specs.declared.choices.Mode.TheVariants.{Running, DrainBegins, Draining}
use Rattle.cycle_spec.specs.declared.entry.Entry.{Entry}
use Rattle.cycle_spec.specs.declared.use_of.Use.{Use}
use Rattle.cycle_spec.specs.Flight.{is_unknown, is_pending, is_safe, is_safe_kind}
use Rattle.cycle_spec.specs.State.{Core}
use Rattle.cycle_spec.specs.Choices.{stop_at, choices_stopping, choices_by, choices_in, choices}
use Rattle.cycle_spec.specs.Engine.{is_accepted, is_complete, is_next, latest, with_decision, is_in_group, decided_by, with_end, outcome_of, units_behind, units_in_harts, offered_use}
use Rattle.cycle_spec.specs.Cycle.{Machines, input_at, cycle}
use Rattle.cycle_lists.specs.Lists.{Each, Pairs}
use Rattle.cycle_lists.proofs.Tests.{and-left, and-right, not-both, false-or, some-is}
use Rattle.cycle_lists.proofs.Every.{Each-from, Each-both, Each-map, Each-filter, Each-unfilter}
use Rattle.cycle_paired.specs.Paired.{is_live, live_entries, is_live_use, live_uses, decision_of, IsUse, Behind, Paired}
use Rattle.cycle_paired.proofs.Matching.{Match-uses}
use Rattle.cycle_paired.proofs.Choosing.{Unreleased}
use Rattle.cycle_paired.proofs.Deciding.{decided_for}
use Rattle.cycle_paired.proofs.Lasting.{result_uses}
use Rattle.cycle_paired.proofs.Closing.{both_after}
use Rattle.ahead_spec.specs.Walk.{Item, entries, outcome, Walked}
use Rattle.ahead_spec.specs.Operands.{word_hit}
use Rattle.ahead_spec.specs.World.{World}
use Rattle.ahead_spec.specs.Invariant.{Agrees}
use Rattle.ahead_laws.proofs.Outcomes.{unknown-kind, entry-unknown, outcome-taken}
use Rattle.cycle_events.specs.Shown.{IsHeld, Left, left_by, Shows, Shown, extension_of}
use Rattle.cycle_events.proofs.Applied.{computed}

-- ---- what a stop chooses

pub record Stops (w : Core) (cause : StopCause) : Type 0 where
  pub chooses : choices w ≡ choices_stopping w cause
  pub oldest : stop_at w.flight ≡ Some cause
  pub runs : w.mode ≡ Running

pub stopping : (w : Core) (cause : StopCause) → (choices w).stop ≡ Some cause → Stops w cause
stopping w cause h = go w.mode refl h
  where
    by : w.mode ≡ Running → (o : Option StopCause) → stop_at w.flight ≡ o → (choices_by w o).stop ≡ Some cause → Stops w cause
    by q None e k = cc
    by q (Some c) e k =
        let same : c ≡ cause = some-is c cause k in
        record { chooses = ap (choices_in w) q ∙ ap (choices_by w) e ∙ ap (choices_stopping w) same; oldest = e ∙ ap Some same; runs = q }

    go : (m : Mode) → w.mode ≡ m → (choices_in w m).stop ≡ Some cause → Stops w cause
    go Running q k = by q (stop_at w.flight) refl k
    go DrainBegins q k = cc
    go Draining q k = cc

-- ---- nothing is released

head-unreleased : (x : Extension) (s : State) (y : Item) (cause : StopCause) → Agrees x s.memory s y → y.entry.stop ≡ Some cause → y.entry.released ≡ true → ⊥
head-unreleased x s y cause g h r = by y.entry.response refl (g.released_is r)
  where
    stop-line : {l : Retire} → Stop cause ≡ Retired l → ⊥
    stop-line k = cc

    taken : (o : Option Hit) → word_hit x y.entry.word ≡ o → is_some o ≡ true → is_unknown y.entry ≡ true → ⊥
    taken None e k u = cc
    taken (Some hit) e k u =
        let kind = unknown-kind y.entry.kind u in
        stop-line (sym (g.stop_is cause h) ∙ ap (λ q. outcome x s y.entry.pc q y.entry.word) kind ∙ outcome-taken x s y.entry.pc y.entry.word hit (entry-unknown x s.memory s y g kind) e)

    by : (o : Option Response) → y.entry.response ≡ o → is_response_accepted o ≡ true → ⊥
    by None e a = cc
    by (Some response) e a = let k = g.response_is response e in taken (word_hit x y.entry.word) refl (ap (λ q. q.accept) (sym k.1) ∙ a) k.0

unreleased : (x : Extension) (start : State) (hart : ℕ) (left : Left) (es : List Entry) (us : List Use) (at : ℕ) (w : World) (cause : StopCause) → Pairs Behind es → stop_at es ≡ Some cause → Shows x start hart left es us at w → Each Unreleased es
unreleased x start hart left [] us at w cause b h m = tt
unreleased x start hart left (e ∷ es) us at w cause b h m = go w.flight refl
  where
    unsafe : is_safe e ≡ false
    unsafe = ap (λ o. not (is_some o) && is_safe_kind e.kind e) h

    rest : Each Unreleased es
    rest = Each-from (Behind e) Unreleased es (λ y k. false-or y.released (λ r. not-both (is_safe e) unsafe (k.safe r))) b.0

    go : (ys : List Item) → w.flight ≡ ys → Each Unreleased (e ∷ es)
    go [] q = absurd (none (sym m.entries_are ∙ ap entries q))
      where
        none : e ∷ es ≡ [] → ⊥
        none k = cc
    go (y ∷ ys) q =
        let all : y.entry ∷ entries ys ≡ e ∷ es = sym (ap entries q) ∙ m.entries_are in
        let hd : y.entry ≡ e = cc in
        let agree = (subst (Walked x (Agrees x m.runs.now.memory) m.runs.now) q m.runs.agree).0 in
        (false-or e.released (λ r. head-unreleased x m.runs.now y cause agree (ap (λ z. z.stop) hd ∙ h) (ap (λ z. z.released) hd ∙ r)), rest)

-- ---- so nothing is computed

abbrev NotComputed : (hart : ℕ) → Use → Type 0
NotComputed hart u = is_next hart u ≡ true → is_complete u ≡ true → ⊥

undecided-not : (d : Decision) → d ≡ Undecided → is_released d ≡ true → ⊥
undecided-not d h r = no-release (sym (ap is_released h) ∙ r)
  where
    no-release : is_released Undecided ≡ true → ⊥
    no-release k = cc

not-computed : (hart : ℕ) (m : Machines) (k : Paired hart m) → Each Unreleased m.core.flight → Each IsHeld m.engine.uses → Each (NotComputed hart) m.engine.uses
not-computed hart m k un held =
    let U = λ (u : Use). u.decision ≡ Undecided in
    let live = Match-uses hart Unreleased U (live_entries m.core.flight) (live_uses k.answered m.engine.uses) (λ e u a r. a.decision ∙ ap decision_of r) k.match (Each-filter Unreleased is_live m.core.flight un) in
    let all = Each-unfilter U (is_live_use k.answered) m.engine.uses live in
    let P = λ (u : Use). IsUse k.answered u × IsHeld u in
    Each-both P (λ u. is_live_use k.answered u ≡ true → U u) (NotComputed hart) m.engine.uses
    (λ u p l n c. (let q = computed hart k.answered u p.0 p.1 n c in undecided-not u.decision (l q.live) q.released))
    (Each-both (IsUse k.answered) IsHeld P m.engine.uses (λ u a b. (a, b)) k.uses held) all

still-decided : (hart h : ℕ) (kill : Option Entry) (us : List Use) → Each (NotComputed hart) us → Each (NotComputed hart) (decided_for h kill None us)
still-decided hart h None us n = n
still-decided hart h (Some p) us n = go (latest (record { hart = h; id = p.id }) us)
  where
    by : (u : Use) → NotComputed hart u → (b : Bool) → NotComputed hart (record u { decision = cond b Killed u.decision })
    by u k false = k
    by u k true = λ a c. not-both false refl
        (and-left (not (is_killed Killed)) (is_none u.ready) (and-right (is_accepted u) (not (is_killed Killed) && is_none u.ready) (and-right (u.key.hart == hart) (is_accepted u && (not (is_killed Killed) && is_none u.ready)) a)))

    one : (v : Use) (b : Bool) → Each (NotComputed hart) (cond b (map (with_decision true v) us) us)
    one v false = n
    one v true = Each-map (NotComputed hart) (NotComputed hart) (with_decision true v) us (λ u k. by u k (is_in_group true v u && is_undecided u.decision)) n

    go : (o : Option Use) → Each (NotComputed hart) (decided_by true o us)
    go None = n
    go (Some v) = one v (is_undecided v.decision)

still-ended : (hart : ℕ) (o : Option Use) (ready : Bool) (us : List Use) → Each (NotComputed hart) us → Each (NotComputed hart) (result_uses o ready us)
still-ended hart None ready us n = n
still-ended hart (Some u) false us n = n
still-ended hart (Some u) true us n = Each-map (NotComputed hart) (NotComputed hart) (with_end u.start) us (λ v k. λ a c. k a c) n

units-stay : (set : List UnitTable) (hart : ℕ) (state : List (List ℕ)) (us : List Use) → Each (NotComputed hart) us → units_behind set is_complete hart state us ≡ state
units-stay set hart state [] n = refl
units-stay set hart state (u ∷ us) n = go (is_next hart u) (is_complete u) refl refl (units-stay set hart state us n.1)
  where
    go : (a c : Bool) → is_next hart u ≡ a → is_complete u ≡ c → units_behind set is_complete hart state us ≡ state
        → cond (not a) (units_behind set is_complete hart state us) (cond c (units_behind set is_complete hart (outcome_of set state u).state us) state) ≡ state
    go false c p q ih = ih
    go true false p q ih = refl
    go true true p q ih = absurd (n.0 p q)

index-stays : (set : List UnitTable) (k : ℕ) (states : List (List (List ℕ))) (us : List Use) (j hart : ℕ) → hart ≡ k + j → Each (NotComputed hart) us → slice_index_or (units_in_harts set k states us) j [] ≡ slice_index_or states j []
index-stays set k [] us j hart h n = refl
index-stays set k (s ∷ states) us zero hart h n =
    let same : k ≡ hart = omega (arith, h) in
    ap (λ i. units_behind set is_complete i s us) same ∙ units-stay set hart s us n
index-stays set k (s ∷ states) us (suc j) hart h n = index-stays set (k + 1) states us j hart (omega (arith, h)) n

-- ---- the cycle

stop-after : (hart : ℕ) (retired : List Retire) (answer : ℕ → ℕ → ℕ) (m : Machines) (cause : StopCause) (input : CpuIn) → Each (NotComputed hart) m.engine.uses → left_by hart retired (both_after hart answer m (choices_stopping m.core cause) input) ≡ left_by hart retired m
stop-after hart retired answer m cause input n =
    let e = m.engine in
    let one = still-decided hart hart (find is_pending m.core.flight) e.uses n in
    let two = still-ended hart (offered_use e) input.result_ready (decided_for hart (find is_pending m.core.flight) None e.uses) one in
    let first : hart ≡ 0 + hart = omega arith in
    ap (λ u. record (left_by hart retired m) { units = u }) (index-stays e.set 0 e.units (result_uses (offered_use e) input.result_ready (decided_for hart (find is_pending m.core.flight) None e.uses)) hart hart first two)

pub stop-leaves : (start : State) (hart : ℕ) (retired : List Retire) (answer : ℕ → ℕ → ℕ) (m : Machines) (w : World) (cause : StopCause) → Paired hart m → (choices m.core).stop ≡ Some cause → Shown start hart retired m w
    → left_by hart retired (cycle m hart answer) ≡ left_by hart retired m
unfolding cycle
stop-leaves start hart retired answer m w cause k h sh =
    let s = stopping m.core cause h in
    let un = unreleased (extension_of m.engine) start hart (left_by hart retired m) m.core.flight m.engine.uses sh.at w cause k.behind s.oldest sh.shows in
    let n = not-computed hart m k un sh.held in
    ap (λ ch. left_by hart retired (both_after hart answer m ch (input_at m hart))) s.chooses ∙ stop-after hart retired answer m cause (input_at m hart) n

pub stop-says : (hart : ℕ) (answer : ℕ → ℕ → ℕ) (m : Machines) (cause : StopCause) → (choices m.core).stop ≡ Some cause → (cycle m hart answer).core.stopped ≡ Some cause
unfolding cycle
stop-says hart answer m cause h = ap (λ o. option_or o m.core.stopped) h

pub goes-says : (hart : ℕ) (answer : ℕ → ℕ → ℕ) (m : Machines) → (choices m.core).stop ≡ None → (cycle m hart answer).core.stopped ≡ m.core.stopped
unfolding cycle
goes-says hart answer m h = ap (λ o. option_or o m.core.stopped) h
