-- What is left of the register handshake of the oldest entry falls.
use Rattle.std.proofs.Common.{◌≡◌, ◌<◌, ◌==◌, ◌&&◌, ◌++◌, ◌+◌, ◌⊎◌, inl, inr, ℕ, Bool, true, false, cond, not, List, [], ◌∷◌, filter, Option, Some, refl, sym, ap, ◌∙◌, subst, arith, append_assoc}
use Rattle.std.specs.Prelude.{is_some}
use Rattle.std.specs.Option.{option_map_or}
use Rattle.std.proofs.lemmas.Bool.{eq-eqb, true≢false}
use Rattle.coproc_config.specs.Accept.{hit_of}
use Rattle.xif_signals.specs.declared.bus.CpuOut.{CpuOut}
use Rattle.xif_signals.specs.declared.bus.CpuIn.{CpuIn}
use Rattle.xif_session.specs.declared.fact.Response.{Response}
use Rattle.xif_session.specs.Facts.{is_killed}
use Rattle.xif_session.specs.Tests.{is_within}
use Rattle.cycle_spec.specs.declared.choices.Choices.{Choices}
use Rattle.cycle_spec.specs.declared.choices.Presented.{Presented}
use Rattle.cycle_spec.specs.declared.entry.Entry.{Entry}
use Rattle.cycle_spec.specs.declared.turn.Transactions.{Transactions}
use Rattle.cycle_spec.specs.declared.turn.Turn.{Turn}
use Rattle.cycle_spec.specs.declared.use_of.Use.{Use}
use Rattle.cycle_spec.specs.Flight.{is_waiting, reads_registers}
use Rattle.cycle_spec.specs.Turns.{turn_of, aged, is_past, transactions_after}
use Rattle.cycle_spec.specs.Choices.{is_late, presentation_of, flags_of}
use Rattle.cycle_spec.specs.Core.{presented_id, presented_flags, present_owner}
use Rattle.cycle_spec.specs.Engine.{has_key, issue_key, latest, new_use, start_step, started_uses, starts, register_use, register_start, register_read_of, may_take, register_ready, issue_ready, owner_if, is_accepted}
use Rattle.cycle_spec.specs.Cycle.{Machines, hart_if}
use Rattle.cycle_lists.specs.Lists.{Each, Pairs}
use Rattle.cycle_lists.proofs.Tests.{and-left, and-right, and-both, and-false, not-both, not-out, some-at}
use Rattle.cycle_lists.proofs.Every.{Each-filter, Each-push, Each-at, Pairs-younger}
use Rattle.cycle_lists.proofs.Filters.{filter-at}
use Rattle.cycle_paired.specs.Paired.{response_of, Older, Paired}
use Rattle.cycle_paired.proofs.Matching.{latest-at, key-other}
use Rattle.cycle_paired.proofs.Cycling.{cpu_for}
use Rattle.cycle_paired.proofs.Closing.{bus_for, both_after}
use Rattle.pace_laws.specs.Measure.{rest, key_of, operand_turn, register_turn, operand_rest}
use Rattle.pace_laws.proofs.Delays.{rest-aged, rest-falls}
use Rattle.pace_laws.proofs.Flags.{flags-hold, hit-within}
use Rattle.pace_laws.proofs.Steps.{sent-comes}
use Rattle.pace_laws.proofs.Steady.{IsSteady}
use Rattle.pace_laws.proofs.Track.{Its, OtherStarts, not-new}
use Rattle.pace_laws.proofs.Results.{Scene, moved_in}

-- the use stands among those with the one that starts
latest-started : (id : ℕ) (b : Bool) (cpu : CpuOut) (c : ℕ) (us front : List Use) (u : Use) (back : List Use) → us ≡ front ++ u ∷ back → u.key.hart ≡ 0 → u.key.id ≡ id → (b ≡ true → cpu.issue_id ≡ id → ⊥) → Pairs Older us → Each (λ v. v.start < c) us
    → latest (record { hart = 0; id = id }) (start_step b cpu c us) ≡ Some u
latest-started id false cpu c us front u back h a i n pairs below =
    ap (latest (record { hart = 0; id = id })) h ∙ latest-at front u back 0 id a i (Pairs-younger Older front u back (subst (Pairs Older) h pairs))
latest-started id true cpu c us front u back h a i n pairs below =
    let q = λ (v : Use). not (has_key (issue_key cpu) v) in
    let new = new_use (issue_key cpu) c cpu.issue_instr in
    let pairs' : Pairs Older (front ++ u ∷ back) = subst (Pairs Older) h pairs in
    let stays : q u ≡ true = not-out (has_key (issue_key cpu) u) (key-other cpu.issue_hartid cpu.issue_id u (λ x y. n refl (sym y ∙ i))) in
    let here : filter q us ++ new ∷ [] ≡ filter q front ++ u ∷ (filter q back ++ new ∷ []) = ap (λ l. filter q l ++ new ∷ []) h ∙ ap (λ l. l ++ new ∷ []) (filter-at q front u back stays) ∙ append_assoc (filter q front) (u ∷ filter q back) (new ∷ []) in
    let last : Older u new = record { rises = Each-at (λ v. v.start < c) us front u back h below; apart = λ x y. n refl (sym y ∙ i) } in
    let olders = Each-push (Older u) (filter q back) new (Each-filter (Older u) q back (Pairs-younger Older front u back pairs')) last in
    ap (latest (record { hart = 0; id = id })) here ∙ latest-at (filter q front) u (filter q back ++ new ∷ []) 0 id a i olders

its-started : (m : Machines) (ch : Choices) (k : Paired 0 m) (e : Entry) (i : Its k.answered e m.engine.uses) → OtherStarts m.engine ch e.id → latest (key_of e) (started_uses m.engine (cpu_for 0 ch)) ≡ Some i.its
its-started m ch k e i o =
    latest-started e.id (starts m.engine (cpu_for 0 ch)) (cpu_for 0 ch) m.engine.cycle m.engine.uses i.front i.its i.back i.here i.alike.hart_is i.alike.id (not-new m.engine ch e.id o) k.older k.below

-- ---- the registers that it reads are sent

pub full-flags : (d : ℕ) (m : Machines) (ch : Choices) (input : CpuIn) (e : Entry) (c : Scene d m ch input e) → is_late m.core e ≡ false → is_within (register_read_of (hit_of m.engine.set m.engine.params e.word)) (flags_of m.core e) ≡ true
full-flags d m ch input e c l =
    subst (λ p. is_within (register_read_of (hit_of m.engine.set p e.word)) (flags_of m.core e) ≡ true) c.paired.params
    (hit-within m.engine.set m.core.params e.word (flags_of m.core e) (flags-hold m.core e c.leads.younger c.leads.here l))

its-reads : (d : ℕ) (m : Machines) (ch : Choices) (input : CpuIn) (e : Entry) (c : Scene d m ch input e) (i : Its c.paired.answered e m.engine.uses) → register_read_of i.its.hit ≡ register_read_of (hit_of m.engine.set m.engine.params e.word)
its-reads d m ch input e c i =
    let s = (subst (Each (IsSteady m.engine.set m.engine.params)) c.leads.here c.steady.entries).0 in
    ap (λ r. r.register_read.0) (some-at (λ r. r ≡ response_of (hit_of m.engine.set m.engine.params e.word)) e.response (response_of i.its.hit) i.alike.response s.answer)

-- ---- with a channel of its own

record Presenting (m : Machines) (ch : Choices) (e : Entry) (u : Use) : Type 0 where
  present : ch.present ≡ Some (presentation_of m.core e)
  use_is : register_use m.engine (cpu_for 0 ch) ≡ Some u
  start_is : register_start m.engine (cpu_for 0 ch) ≡ u.start
  ready_is : register_ready m.engine (cpu_for 0 ch) ≡ (is_past m.engine.script.register (register_turn m u.start) && may_take (Some u) (flags_of m.core e))

presenting : (d : ℕ) (m : Machines) (ch : Choices) (input : CpuIn) (e : Entry) (c : Scene d m ch input e) (i : Its c.paired.answered e m.engine.uses) → OtherStarts m.engine ch e.id → is_waiting e ≡ true → m.core.params.split ≡ true → Presenting m ch e i.its
presenting d m ch input e c i o w s = record {
  present = present;
  use_is = use_is;
  start_is = start_is;
  ready_is =
      ap (λ t. cond t (is_some ch.present && (is_past m.engine.script.register (turn_of m.engine.register_turns (register_start m.engine (cpu_for 0 ch))) && may_take (register_use m.engine (cpu_for 0 ch)) (presented_flags ch.present))) (issue_ready m.engine (cpu_for 0 ch))) (ap (λ p. p.split) (sym c.paired.params) ∙ s)
      ∙ ap (λ x. is_some x && (is_past m.engine.script.register (turn_of m.engine.register_turns (register_start m.engine (cpu_for 0 ch))) && may_take (register_use m.engine (cpu_for 0 ch)) (presented_flags x))) present
      ∙ ap (λ n. is_past m.engine.script.register (turn_of m.engine.register_turns n) && may_take (register_use m.engine (cpu_for 0 ch)) (flags_of m.core e)) start_is
      ∙ ap (λ x. is_past m.engine.script.register (register_turn m i.its.start) && may_take x (flags_of m.core e)) use_is;
}
  where
    present : ch.present ≡ Some (presentation_of m.core e)
    present = c.chosen.presents w s

    key : (x : Option Presented) → x ≡ Some (presentation_of m.core e) → latest (record { hart = hart_if (is_some x) 0; id = presented_id x }) (started_uses m.engine (cpu_for 0 ch)) ≡ Some i.its
    key x h = ap (λ y. latest (record { hart = hart_if (is_some y) 0; id = presented_id y }) (started_uses m.engine (cpu_for 0 ch))) h ∙ its-started m ch c.paired e i o

    use_is : register_use m.engine (cpu_for 0 ch) ≡ Some i.its
    use_is = key ch.present present

    start_is : register_start m.engine (cpu_for 0 ch) ≡ i.its.start
    start_is = ap (λ u. option_map_or (λ u. u.start) u m.engine.cycle) use_is

-- it waits for one of the two delays
not-ready : (d : ℕ) (m : Machines) (ch : Choices) (input : CpuIn) (e : Entry) (c : Scene d m ch input e) (i : Its c.paired.answered e m.engine.uses) → Presenting m ch e i.its → is_waiting e ≡ true → register_ready m.engine (cpu_for 0 ch) ≡ false
    → (is_past m.engine.script.register (register_turn m i.its.start) ≡ false) ⊎ (is_past m.core.script.operand (operand_turn m e.seq) ≡ false)
not-ready d m ch input e c i p w r = go (is_past m.engine.script.register (register_turn m i.its.start)) (is_past m.core.script.operand (operand_turn m e.seq)) refl refl
  where
    accepted : is_accepted i.its ≡ true
    accepted = and-left (is_accepted i.its) (not (register_read_of i.its.hit == 0)) (and-left (reads_registers (Some (response_of i.its.hit))) (not e.operands_sent) (ap (λ o. reads_registers o && not e.operands_sent) (sym i.alike.response) ∙ w))

    unkilled : not (is_killed i.its.decision) ≡ true
    unkilled = and-left (not (is_killed i.its.decision)) (not i.its.finished) (and-right (c.paired.answered i.its.start) (not (is_killed i.its.decision) && not i.its.finished) i.live)

    takes : is_past m.core.script.operand (operand_turn m e.seq) ≡ true → may_take (Some i.its) (flags_of m.core e) ≡ true
    takes k =
        and-both (is_accepted i.its) (not (is_killed i.its.decision) && is_within (register_read_of i.its.hit) (flags_of m.core e)) accepted
        (and-both (not (is_killed i.its.decision)) (is_within (register_read_of i.its.hit) (flags_of m.core e)) unkilled
        (ap (λ n. is_within n (flags_of m.core e)) (its-reads d m ch input e c i) ∙ full-flags d m ch input e c (ap not k)))

    go : (a b : Bool) → is_past m.engine.script.register (register_turn m i.its.start) ≡ a → is_past m.core.script.operand (operand_turn m e.seq) ≡ b
        → (is_past m.engine.script.register (register_turn m i.its.start) ≡ false) ⊎ (is_past m.core.script.operand (operand_turn m e.seq) ≡ false)
    go false b x y = inl x
    go true false x y = inr y
    go true true x y = absurd (true≢false (sym (p.ready_is ∙ ap (λ t. t && may_take (Some i.its) (flags_of m.core e)) x ∙ takes y) ∙ r))

-- ---- the turns after a cycle without the handshake

pub same-turn : (ts : Transactions) (owner : ℕ) → turn_of (transactions_after ts (Some owner) false) owner ≡ aged (turn_of ts owner)
same-turn ts owner = ap (λ t. cond t (aged (turn_of ts owner)) (record { number = (transactions_after ts (Some owner) false).begun; age = 0 })) (eq-eqb owner owner refl)

pub operand-aged : (answer : ℕ → ℕ → ℕ) (m : Machines) (ch : Choices) (input : CpuIn) (e : Entry) (seq : ℕ) → ch.present ≡ Some (presentation_of m.core e) → register_ready m.engine (cpu_for 0 ch) ≡ false → seq ≡ e.seq → operand_turn (both_after 0 answer m ch input) seq ≡ aged (operand_turn m e.seq)
operand-aged answer m ch input e seq p r q =
    ap (λ x. turn_of (transactions_after m.core.register_turns (present_owner x) (register_ready m.engine (cpu_for 0 ch))) seq) p
    ∙ ap (λ t. turn_of (transactions_after m.core.register_turns (Some e.seq) t) seq) r
    ∙ ap (turn_of (transactions_after m.core.register_turns (Some e.seq) false)) q ∙ same-turn m.core.register_turns e.seq

register-aged : (answer : ℕ → ℕ → ℕ) (m : Machines) (ch : Choices) (input : CpuIn) (e : Entry) (u : Use) (start : ℕ) → Presenting m ch e u → register_ready m.engine (cpu_for 0 ch) ≡ false → start ≡ u.start → register_turn (both_after 0 answer m ch input) start ≡ aged (register_turn m u.start)
register-aged answer m ch input e u start p r q =
    ap (λ x. turn_of (transactions_after m.engine.register_turns (owner_if (is_some x) (register_start m.engine (cpu_for 0 ch))) (register_ready m.engine (cpu_for 0 ch))) start) p.present
    ∙ ap (λ n. turn_of (transactions_after m.engine.register_turns (Some n) (register_ready m.engine (cpu_for 0 ch))) start) p.start_is
    ∙ ap (λ t. turn_of (transactions_after m.engine.register_turns (Some u.start) t) start) r
    ∙ ap (turn_of (transactions_after m.engine.register_turns (Some u.start) false)) q ∙ same-turn m.engine.register_turns u.start

-- ---- it falls

delays-fall : (a a' b b' : ℕ) (x y : List ℕ) (s t : Turn) → a ≡ rest x s → a' ≡ rest x (aged s) → b ≡ rest y t → b' ≡ rest y (aged t) → (is_past y t ≡ false) ⊎ (is_past x s ≡ false) → a' + b' + 1 < a + b + 1
delays-fall a a' b b' x y s t p q r z (inl h) = let k = rest-aged y t h in let l = rest-falls x s in omega (arith, p, q, r, z, k, l)
delays-fall a a' b b' x y s t p q r z (inr h) = let k = rest-aged x s h in let l = rest-falls y t in omega (arith, p, q, r, z, k, l)

waiting-none : (o : Option Response) (s : Bool) → s ≡ true → (reads_registers o && not s) ≡ false
waiting-none o s h = ap (λ t. reads_registers o && not t) h ∙ and-false (reads_registers o)

pub operands-fall : (d : ℕ) (answer : ℕ → ℕ → ℕ) (m : Machines) (ch : Choices) (input : CpuIn) (e : Entry) (c : Scene d m ch input e) (i : Its c.paired.answered e m.engine.uses) → OtherStarts m.engine ch e.id → is_waiting e ≡ true → m.core.params.split ≡ true → (start : ℕ) → start ≡ i.its.start
    → (moved_in m ch input e).seq ≡ e.seq → operand_rest (both_after 0 answer m ch input) (moved_in m ch input e) start < operand_rest m e i.its.start
operands-fall d answer m ch input e c i o w s start q seq = subst (λ n. operand_rest n' f start < n) (sym now) (go (register_ready m.engine (cpu_for 0 ch)) refl (is_waiting f) refl)
  where
    n' : Machines
    n' = both_after 0 answer m ch input

    f : Entry
    f = moved_in m ch input e

    p : Presenting m ch e i.its
    p = presenting d m ch input e c i o w s

    now : operand_rest m e i.its.start ≡ rest m.core.script.operand (operand_turn m e.seq) + rest m.engine.script.register (register_turn m i.its.start) + 1
    now = ap (λ t. cond t (rest m.core.script.operand (operand_turn m e.seq) + rest m.engine.script.register (register_turn m i.its.start) + 1) 0) w

    sum : ℕ
    sum = rest m.core.script.operand (operand_turn n' f.seq) + rest m.engine.script.register (register_turn n' start) + 1

    go : (r : Bool) → register_ready m.engine (cpu_for 0 ch) ≡ r → (t : Bool) → is_waiting f ≡ t → cond t sum 0 < rest m.core.script.operand (operand_turn m e.seq) + rest m.engine.script.register (register_turn m i.its.start) + 1
    go r x false y = omega arith
    go true x true y =
        let given = and-both (is_some ch.present) (register_ready m.engine (cpu_for 0 ch)) (ap is_some p.present) x in
        absurd (not-both (is_waiting f) (waiting-none f.response f.operands_sent (sent-comes ch (bus_for 0 m.engine ch input) _ e (presentation_of m.core e) p.present refl given)) y)
    go false x true y =
        delays-fall (rest m.core.script.operand (operand_turn m e.seq)) (rest m.core.script.operand (operand_turn n' f.seq)) (rest m.engine.script.register (register_turn m i.its.start)) (rest m.engine.script.register (register_turn n' start))
        m.core.script.operand m.engine.script.register (operand_turn m e.seq) (register_turn m i.its.start) refl (ap (rest m.core.script.operand) (operand-aged answer m ch input e f.seq p.present x seq)) refl (ap (rest m.engine.script.register) (register-aged answer m ch input e i.its start p x q)) (not-ready d m ch input e c i p w x)
