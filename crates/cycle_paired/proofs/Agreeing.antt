-- Core and engine count the register transactions alike, where those have a channel of their own.
use Rattle.std.proofs.Common.{◌≡◌, ◌≢◌, ◌<◌, ◌==◌, ◌+◌, ◌++◌, ℕ, Bool, true, false, cond, not, List, [], ◌∷◌, filter, Option, Some, None, refl, sym, ap, ◌∙◌, subst, arith, append_assoc}
use Rattle.std.specs.Prelude.{is_some, IfSome}
use Rattle.std.specs.Option.{option_map_or}
use Rattle.std.proofs.lemmas.Bool.{eqb-true, eqb-false, eq-eqb, ne_eqb}
use Rattle.xif_base.specs.declared.params.Key.{Key}
use Rattle.xif_image.specs.Region.{word_at}
use Rattle.xif_signals.specs.declared.bus.CpuOut.{CpuOut}
use Rattle.xif_signals.specs.declared.bus.CpuIn.{CpuIn}
use Rattle.cycle_spec.specs.declared.choices.Choices.{Choices}
use Rattle.cycle_spec.specs.declared.choices.Presented.{Presented}
use Rattle.cycle_spec.specs.declared.entry.Entry.{Entry}
use Rattle.cycle_spec.specs.declared.entry.EntryKind.{EntryKind}
use Rattle.cycle_spec.specs.declared.turn.Transactions.{Transactions}
use Rattle.cycle_spec.specs.declared.turn.Turn.{Turn}
use Rattle.cycle_spec.specs.declared.use_of.Use.{Use}
use Rattle.cycle_spec.specs.Flight.{is_unknown, is_unknown_kind, is_open, is_waiting, free_id}
use Rattle.cycle_spec.specs.Turns.{turn_in, turn_of, begun_in, aged, transactions_after}
use Rattle.cycle_spec.specs.Choices.{choices}
use Rattle.cycle_spec.specs.Core.{id_in, presented_id, present_owner, settled_entries, ahead_behind, memory_behind, entry_at, dispatch_of, with_dispatch}
use Rattle.cycle_spec.specs.Engine.{has_key, issue_key, latest, start_of, new_use, start_step, starts, started_uses, register_ready, owner_if, engine_drive, settled_uses}
use Rattle.cycle_spec.specs.Cycle.{Machines, hart_if, input_at, cycle}
use Rattle.cycle_spec.specs.Run.{Setup, new_machines}
use Rattle.cycle_lists.specs.Lists.{Each, Pairs, FirstAt}
use Rattle.cycle_lists.specs.Order.{Before, IsFree}
use Rattle.cycle_lists.proofs.Tests.{not-both, not-out, and-left}
use Rattle.cycle_lists.proofs.Every.{Each-append, Each-from, Each-filter, Each-push, Each-at, Pairs-older, Pairs-younger}
use Rattle.cycle_lists.proofs.Filters.{filter-at}
use Rattle.cycle_lists.proofs.Free.{free}
use Rattle.cycle_paired.specs.Paired.{is_live, live_entries, is_live_use, live_uses, Alike, Match, IsEntry, Older, Paired}
use Rattle.cycle_paired.specs.Agreed.{SameTurn, AllPairs, Agreed}
use Rattle.cycle_paired.specs.Reached.{begins_drain, resumes, Reached, First, Cycled, Drained, Resumed}
use Rattle.cycle_paired.proofs.Facts.{only, waiting-live, live-unknown, open-unknown, open-dead}
use Rattle.cycle_paired.proofs.Matching.{Found, found, latest-at, key-other}
use Rattle.cycle_paired.proofs.Choosing.{Presents, Sound, sound}
use Rattle.cycle_paired.proofs.Cycling.{facts_of, cpu_for}
use Rattle.cycle_paired.proofs.Closing.{bus_for, both_after, after-paired}
use Rattle.cycle_paired.proofs.Always.{start-paired, drain-paired, resumed-paired}
use Rattle.cycle_paired.proofs.Fixed.{Fixed, fixed-settled, Named, named-settled}

-- ---- pairs

pairs-of : (hart : ℕ) (R : ℕ → ℕ → Type 0) (es : List Entry) (us : List Use) → ((e : Entry) (u : Use) → R e.seq u.start) → Match hart es us → AllPairs R es us
pairs-of hart R [] [] k m = tt
pairs-of hart R [] (u ∷ us) k m = absurd m
pairs-of hart R (e ∷ es) [] k m = absurd m
pairs-of hart R (e ∷ es) (u ∷ us) k m = (k e u, pairs-of hart R es us k m.1)

pairs-by : (hart : ℕ) (P : Entry → Type 0) (Q : Use → Type 0) (R : ℕ → ℕ → Type 0) (es : List Entry) (us : List Use) → ((e : Entry) (u : Use) → P e → Q u → Alike hart e u → R e.seq u.start) → Each P es → Each Q us → Match hart es us → AllPairs R es us
pairs-by hart P Q R [] [] k p q m = tt
pairs-by hart P Q R [] (u ∷ us) k p q m = absurd m
pairs-by hart P Q R (e ∷ es) [] k p q m = absurd m
pairs-by hart P Q R (e ∷ es) (u ∷ us) k p q m = (k e u p.0 q.0 m.0, pairs-by hart P Q R es us k p.1 q.1 m.1)

-- the pair of an entry
pair-at : (hart : ℕ) (R : ℕ → ℕ → Type 0) (xs : List Entry) (e : Entry) (ys : List Entry) (vs : List Use) (u : Use) (ws : List Use) → Match hart xs vs → AllPairs R (xs ++ e ∷ ys) (vs ++ u ∷ ws) → R e.seq u.start
pair-at hart R [] e ys [] u ws m a = a.0
pair-at hart R [] e ys (v ∷ vs) u ws m a = absurd m
pair-at hart R (x ∷ xs) e ys [] u ws m a = absurd m
pair-at hart R (x ∷ xs) e ys (v ∷ vs) u ws m a = pair-at hart R xs e ys vs u ws m.1 a.1

-- ---- the transactions after a cycle

-- no transaction waits, and as many began
same-none : (co eo : Transactions) → co.waiting ≡ None → eo.waiting ≡ None → co.begun ≡ eo.begun → (seq start : ℕ) → SameTurn co eo seq start
same-none co eo c e b seq start = record {
  turn = ap (λ w. turn_in w co.begun seq) c ∙ ap (λ n. turn_in None n seq) b ∙ sym (ap (λ w. turn_in w eo.begun start) e);
  begun = ap (λ w. begun_in w co.begun seq) c ∙ ap (λ n. begun_in None n seq) b ∙ sym (ap (λ w. begun_in w eo.begun start) e);
}

-- of two entries and two uses, the numbers are the same where the starts are
abbrev Both : ℕ → ℕ → ℕ → ℕ → Type 0
Both s t seq start = (s == seq) ≡ (t == start)

same-waiting : (tc te : Turn) (bc be s t seq start : ℕ) → tc ≡ te → bc ≡ be → Both s t seq start
    → SameTurn (record { waiting = Some (record { owner = s; turn = tc }); begun = bc }) (record { waiting = Some (record { owner = t; turn = te }); begun = be }) seq start
same-waiting tc te bc be s t seq start q b k = record {
  turn = ap (λ x. cond (s == seq) x (record { number = bc; age = 0 })) q ∙ ap (λ n. cond (s == seq) te (record { number = n; age = 0 })) b ∙ ap (λ x. cond x te (record { number = be; age = 0 })) k;
  begun = ap (λ n. cond (s == seq) n (n + 1)) b ∙ ap (λ x. cond x be (be + 1)) k;
}

-- ---- the keys of the pair that is presented

abbrev IsKnown : (seq id : ℕ) → ℕ → EntryKind → ℕ → Type 0
IsKnown seq id s k i = is_unknown_kind k ≡ true → (s ≡ seq → i ≡ id) × (i ≡ id → s ≡ seq)

abbrev IsNamed : (hart start id : ℕ) → ℕ → Key → Type 0
IsNamed hart start id s key = key.hart ≡ hart → (s ≡ start → key.id ≡ id) × (key.id ≡ id → s ≡ start)

known-all : (es older : List Entry) (p : Entry) (younger : List Entry) → es ≡ older ++ p ∷ younger → is_unknown p ≡ true → Pairs Before es → Each (Fixed (IsKnown p.seq p.id)) es
known-all es older p younger h u b =
    let b' : Pairs Before (older ++ p ∷ younger) = subst (Pairs Before) h b in
    subst (Each (Fixed (IsKnown p.seq p.id))) (sym h)
    (Each-append (Fixed (IsKnown p.seq p.id)) older (p ∷ younger)
    (Each-from (λ x. Before x p) (Fixed (IsKnown p.seq p.id)) older (λ x o v. ((λ q. absurd (let r = o.rises in omega (arith, r, q))), (λ q. absurd (o.apart v u q)))) (Pairs-older Before older p younger b')) (
      (λ v. ((λ q. refl), (λ q. refl))),
      Each-from (Before p) (Fixed (IsKnown p.seq p.id)) younger (λ x o v. ((λ q. absurd (let r = o.rises in omega (arith, r, q))), (λ q. absurd (o.apart u v (sym q))))) (Pairs-younger Before older p younger b'),
    ))

named-all : (hart : ℕ) (us front : List Use) (u : Use) (back : List Use) → us ≡ front ++ u ∷ back → u.key.hart ≡ hart → Pairs Older us → Each (Named (IsNamed hart u.start u.key.id)) us
named-all hart us front u back h k b =
    let b' : Pairs Older (front ++ u ∷ back) = subst (Pairs Older) h b in
    let P = IsNamed hart u.start u.key.id in
    subst (Each (Named P)) (sym h)
    (Each-append (Named P) front (u ∷ back)
    (Each-from (λ x. Older x u) (Named P) front (λ x o v. ((λ q. absurd (let r = o.rises in omega (arith, r, q))), (λ q. absurd (o.apart (v ∙ sym k) q)))) (Pairs-older Older front u back b')) (
      (λ v. ((λ q. refl), (λ q. refl))),
      Each-from (Older u) (Named P) back (λ x o v. ((λ q. absurd (let r = o.rises in omega (arith, r, q))), (λ q. absurd (o.apart (k ∙ sym v) (sym q))))) (Pairs-younger Older front u back b'),
    ))

-- a pair is that one by its number exactly where it is by its start
both-by : (hart s i t : ℕ) (e : Entry) (u : Use) → Alike hart e u → Fixed (IsKnown s i) e → Named (IsNamed hart t i) u → Both s t e.seq u.start
both-by hart s i t e u a p q = go (s == e.seq) refl
  where
    x : (e.seq ≡ s → e.id ≡ i) × (e.id ≡ i → e.seq ≡ s)
    x = p a.unknown

    y : (u.start ≡ t → u.key.id ≡ i) × (u.key.id ≡ i → u.start ≡ t)
    y = q a.hart_is

    go : (b : Bool) → (s == e.seq) ≡ b → (s == e.seq) ≡ (t == u.start)
    go true h = h ∙ sym (eq-eqb t u.start (sym (y.1 (a.id ∙ x.0 (sym (eqb-true s e.seq h))))))
    go false h = h ∙ sym (ne_eqb t u.start (λ z. eqb-false s e.seq h (sym (x.1 (sym a.id ∙ y.0 (sym z))))))

-- ---- the use that the register channel names

-- a use stands among those with the one that starts, if their keys differ
latest-started : (hart id : ℕ) (b : Bool) (cpu : CpuOut) (c : ℕ) (us front : List Use) (u : Use) (back : List Use) → us ≡ front ++ u ∷ back → u.key.hart ≡ hart → u.key.id ≡ id → (b ≡ true → id ≢ cpu.issue_id) → Pairs Older us → Each (λ v. v.start < c) us
    → latest (record { hart = hart; id = id }) (start_step b cpu c us) ≡ Some u
latest-started hart id false cpu c us front u back h a i n pairs below =
    ap (latest (record { hart = hart; id = id })) h ∙ latest-at front u back hart id a i (Pairs-younger Older front u back (subst (Pairs Older) h pairs))
latest-started hart id true cpu c us front u back h a i n pairs below =
    let q = λ (v : Use). not (has_key (issue_key cpu) v) in
    let new = new_use (issue_key cpu) c cpu.issue_instr in
    let pairs' : Pairs Older (front ++ u ∷ back) = subst (Pairs Older) h pairs in
    let stays : q u ≡ true = not-out (has_key (issue_key cpu) u) (key-other cpu.issue_hartid cpu.issue_id u (λ x y. n refl (sym i ∙ y))) in
    let here : filter q us ++ new ∷ [] ≡ filter q front ++ u ∷ (filter q back ++ new ∷ []) = ap (λ l. filter q l ++ new ∷ []) h ∙ ap (λ l. l ++ new ∷ []) (filter-at q front u back stays) ∙ append_assoc (filter q front) (u ∷ filter q back) (new ∷ []) in
    let last : Older u new = record { rises = Each-at (λ v. v.start < c) us front u back h below; apart = λ x y. n refl (sym i ∙ y) } in
    let olders = Each-push (Older u) (filter q back) new (Each-filter (Older u) q back (Pairs-younger Older front u back pairs')) last in
    ap (latest (record { hart = hart; id = id })) here ∙ latest-at (filter q front) u (filter q back ++ new ∷ []) hart id a i olders

-- the id of a live entry isn't that of the word that is offered
offered-apart : (es : List Entry) (p q : Entry) → Pairs Before es → FirstAt is_waiting es p → IsEntry p → FirstAt is_open es q → p.id ≢ q.id
offered-apart es p q b f ok o i =
    let live = waiting-live p ok f.passes in
    let all = known-all es f.older p f.younger f.here (live-unknown p ok live) b in
    let k = Each-at (Fixed (IsKnown p.seq p.id)) es o.older q o.younger o.here all (open-unknown q o.passes) in
    let one : Each (λ x. x.seq ≡ p.seq → x ≡ p) es = subst (Each (λ x. x.seq ≡ p.seq → x ≡ p)) (sym f.here) (only f.older p f.younger (subst (Pairs Before) f.here b)) in
    let same : q ≡ p = Each-at (λ x. x.seq ≡ p.seq → x ≡ p) es o.older q o.younger o.here one (k.1 (sym i)) in
    not-both (is_live q) (open-dead q o.passes) (ap is_live same ∙ live)

-- ---- the cycle

-- what is presented, and its use
record PresentedUse (hart : ℕ) (m : Machines) (ch : Choices) (answered : ℕ → Bool) (x : Presented) : Type 0 where
  pub waiting : FirstAt is_waiting m.core.flight x.entry
  pub found : Found hart answered waiting.older x.entry waiting.younger m.engine.uses
  pub start_is : start_of (record { hart = hart; id = x.entry.id }) (started_uses m.engine (cpu_for hart ch)) m.engine.cycle ≡ found.partner.start

presented-use : (hart : ℕ) (m : Machines) (ch : Choices) (k : Paired hart m) (x : Presented) → Sound true m.core.flight ch → FirstAt is_waiting m.core.flight x.entry → PresentedUse hart m ch k.answered x
presented-use hart m ch k x so f =
    let es = m.core.flight in
    let us = m.engine.uses in
    let p = x.entry in
    let cpu = cpu_for hart ch in
    let ok = Each-at IsEntry es f.older p f.younger f.here k.entries in
    let live = waiting-live p ok f.passes in
    let fd = found hart k.answered f.older p f.younger us live k.older (subst (λ l. Match hart (live_entries l) (live_uses k.answered us)) f.here k.match) in
    let u = fd.partner in
    let it = latest-started hart p.id (starts m.engine cpu) cpu m.engine.cycle us fd.front u fd.back fd.here fd.alike.hart_is fd.alike.id (apart ok) k.older k.below in
    record { waiting = f; found = fd; start_is = ap (λ o. option_map_or (λ v. v.start) o m.engine.cycle) it }
  where
    apart : IsEntry x.entry → starts m.engine (cpu_for hart ch) ≡ true → x.entry.id ≢ id_in ch.offer
    apart ok b = go ch.offer refl so.offer
      where
        go : (o : Option Entry) → ch.offer ≡ o → IfSome o (FirstAt is_open m.core.flight) → x.entry.id ≢ id_in ch.offer
        go None h z e = absurd (not-both (is_some ch.offer) (ap is_some h) (and-left (is_some ch.offer) _ b))
        go (Some q) h z e = offered-apart m.core.flight x.entry q k.order.pairs f ok z (e ∙ ap id_in h)

-- a new entry is none that is in flight
new-known : (answer : ℕ → ℕ → ℕ) (n id pc : ℕ) (word : Option ℕ) (p : Entry) → is_unknown p ≡ true → p.seq < n → IsFree id p → Fixed (IsKnown p.seq p.id) (entry_at answer n id pc word)
new-known answer n id pc word p u l f v = (λ q. absurd (omega (arith, l, q)), λ q. absurd (f.other u (sym (sym (ap (λ b. cond b id 0) v) ∙ q))))

known-pushed : (answer : ℕ → ℕ → ℕ) (n id pc : ℕ) (word : Option ℕ) (b : Bool) (p : Entry) (es : List Entry) → is_unknown p ≡ true → p.seq < n → IsFree id p → Each (Fixed (IsKnown p.seq p.id)) es
    → Each (Fixed (IsKnown p.seq p.id)) (with_dispatch (cond b (Some (entry_at answer n id pc word)) None) es)
known-pushed answer n id pc word false p es u l f h = h
known-pushed answer n id pc word true p es u l f h = Each-push (Fixed (IsKnown p.seq p.id)) es (entry_at answer n id pc word) h (new-known answer n id pc word p u l f)

after-some : (ready : Bool) (co eo : Transactions) (s t seq start : ℕ) → SameTurn co eo s t → Both s t seq start → SameTurn (transactions_after co (Some s) ready) (transactions_after eo (Some t) ready) seq start
after-some true co eo s t seq start k b = same-none (transactions_after co (Some s) true) (transactions_after eo (Some t) true) refl refl k.begun seq start
after-some false co eo s t seq start k b = same-waiting (aged (turn_of co s)) (aged (turn_of eo t)) (begun_in co.waiting co.begun s) (begun_in eo.waiting eo.begun t) s t seq start (ap aged k.turn) k.begun b

-- the transactions of both sides after a cycle, and the pairs then
record AgreedAfter (hart : ℕ) (co eo : Transactions) (answered : ℕ → Bool) (es : List Entry) (us : List Use) : Type 0 where
  pub begun : co.begun ≡ eo.begun
  pub pairs : AllPairs (SameTurn co eo) (live_entries es) (live_uses answered us)

agreed-none : (hart : ℕ) (ready : Bool) (co eo : Transactions) (answered : ℕ → Bool) (es : List Entry) (us : List Use) → co.begun ≡ eo.begun → Match hart (live_entries es) (live_uses answered us)
    → AgreedAfter hart (transactions_after co None ready) (transactions_after eo None ready) answered es us
agreed-none hart ready co eo answered es us b m = record {
  begun = b;
  pairs = pairs-of hart (SameTurn (transactions_after co None ready) (transactions_after eo None ready)) (live_entries es) (live_uses answered us)
      (λ e u. same-none (transactions_after co None ready) (transactions_after eo None ready) refl refl b e.seq u.start) m;
}

agreed-some : (hart : ℕ) (ready : Bool) (co eo : Transactions) (s t i : ℕ) (answered : ℕ → Bool) (es : List Entry) (us : List Use) → SameTurn co eo s t → Each (Fixed (IsKnown s i)) es → Each (Named (IsNamed hart t i)) us → Match hart (live_entries es) (live_uses answered us)
    → AgreedAfter hart (transactions_after co (Some s) ready) (transactions_after eo (Some t) ready) answered es us
agreed-some hart ready co eo s t i answered es us k p q m = record {
  begun = k.begun;
  pairs = pairs-by hart (Fixed (IsKnown s i)) (Named (IsNamed hart t i)) (SameTurn (transactions_after co (Some s) ready) (transactions_after eo (Some t) ready)) (live_entries es) (live_uses answered us)
      (λ e u a b c. after-some ready co eo s t e.seq u.start k (both-by hart s i t e u c a b)) (Each-filter (Fixed (IsKnown s i)) is_live es p) (Each-filter (Named (IsNamed hart t i)) _ us q) m;
}

-- by what the register channel carries
agreed-by : (hart : ℕ) (m : Machines) (a : Agreed hart m) (ch : Choices) (ready : Bool) (answered : ℕ → Bool) (es : List Entry) (us : List Use) (o : Option Presented) → ch.present ≡ o → Presents true m.core.flight ch.offer o → Sound true m.core.flight ch
    → ((x : Presented) → (u : PresentedUse hart m ch a.paired.answered x) → Each (Fixed (IsKnown x.entry.seq x.entry.id)) es × Each (Named (IsNamed hart u.found.partner.start x.entry.id)) us) → Match hart (live_entries es) (live_uses answered us)
    → AgreedAfter hart (transactions_after m.core.register_turns (present_owner o) ready)
    (transactions_after m.engine.register_turns (owner_if (is_some o) (start_of (record { hart = hart_if (is_some o) hart; id = presented_id o }) (started_uses m.engine (cpu_for hart ch)) m.engine.cycle)) ready) answered es us
agreed-by hart m a ch ready answered es us None h ps so f match' = agreed-none hart ready m.core.register_turns m.engine.register_turns answered es us a.begun match'
agreed-by hart m a ch ready answered es us (Some x) h ps so f match' =
    let k = presented-use hart m ch a.paired x so ps in
    let fd = k.found in
    let w = k.waiting in
    let p = x.entry in
    let u = fd.partner in
    let es_is : live_entries m.core.flight ≡ live_entries w.older ++ p ∷ live_entries w.younger = ap live_entries w.here ∙ filter-at is_live w.older p w.younger (waiting-live p (Each-at IsEntry m.core.flight w.older p w.younger w.here a.paired.entries) w.passes) in
    let us_is : live_uses a.paired.answered m.engine.uses ≡ live_uses a.paired.answered fd.front ++ u ∷ live_uses a.paired.answered fd.back = ap (live_uses a.paired.answered) fd.here ∙ filter-at (is_live_use a.paired.answered) fd.front u fd.back fd.live_is in
    let R = SameTurn m.core.register_turns m.engine.register_turns in
    let all : AllPairs R (live_entries w.older ++ p ∷ live_entries w.younger) (live_uses a.paired.answered fd.front ++ u ∷ live_uses a.paired.answered fd.back) =
    subst (AllPairs R (live_entries w.older ++ p ∷ live_entries w.younger)) us_is (subst (λ l. AllPairs R l (live_uses a.paired.answered m.engine.uses)) es_is a.pairs) in
    let same = pair-at hart R (live_entries w.older) p (live_entries w.younger) (live_uses a.paired.answered fd.front) u (live_uses a.paired.answered fd.back) fd.lefts all in
    let facts = f x k in
    let done = agreed-some hart ready m.core.register_turns m.engine.register_turns p.seq u.start p.id answered es us same facts.0 facts.1 match' in
    subst (λ t. AgreedAfter hart (transactions_after m.core.register_turns (Some p.seq) ready) (transactions_after m.engine.register_turns (Some t) ready) answered es us) (sym k.start_is) done

agreed-after : (hart : ℕ) (answer : ℕ → ℕ → ℕ) (m : Machines) (ch : Choices) (input : CpuIn) → Agreed hart m → m.core.params.split ≡ true → Sound m.core.params.split m.core.flight ch → Agreed hart (both_after hart answer m ch input)
agreed-after hart answer m ch input a split so0 =
    let w = m.core in
    let e = m.engine in
    let k = a.paired in
    let b = bus_for hart e ch input in
    let cpu = cpu_for hart ch in
    let p' = after-paired hart answer m ch input k so0 in
    let so : Sound true w.flight ch = subst (λ t. Sound t w.flight ch) split so0 in
    let es' = with_dispatch (dispatch_of answer w ch) (settled_entries ch b w.flight) in
    let us' = settled_uses e cpu (engine_drive e cpu) input in
    let n = w.next_seq in
    let id = free_id w.flight in
    let pc = ahead_behind ch.cut w.ahead in
    let facts : (x : Presented) → (u : PresentedUse hart m ch k.answered x) → Each (Fixed (IsKnown x.entry.seq x.entry.id)) es' × Each (Named (IsNamed hart u.found.partner.start x.entry.id)) us' = λ x u.
    let q = u.waiting in
    let p = x.entry in
    let ok = Each-at IsEntry w.flight q.older p q.younger q.here k.entries in
    let unknown = live-unknown p ok (waiting-live p ok q.passes) in
    let known = fixed-settled (IsKnown p.seq p.id) ch b w.flight (known-all w.flight q.older p q.younger q.here unknown k.order.pairs) in
    let below = Each-at (λ e. e.seq < n) w.flight q.older p q.younger q.here k.order.below in
    let is_free = Each-at (IsFree id) w.flight q.older p q.younger q.here (free w.flight).each in
    let fd = u.found in
    let named : Each (Named (IsNamed hart fd.partner.start p.id)) e.uses = subst (λ i. Each (Named (IsNamed hart fd.partner.start i)) e.uses) fd.alike.id (named-all hart e.uses fd.front fd.partner fd.back fd.here fd.alike.hart_is k.older) in (
      known-pushed answer n id pc (word_at (memory_behind ch.retire w.memory) pc) ch.dispatch p (settled_entries ch b w.flight) unknown below is_free known,
      named-settled (IsNamed hart fd.partner.start p.id) e cpu (engine_drive e cpu) input (new-named hart m ch k x u so ok) named,
    ) in
    let r = agreed-by hart m a ch (register_ready e cpu) p'.answered es' us' ch.present refl so.present so facts p'.match in
    record { paired = p'; begun = r.begun; pairs = r.pairs }
  where
    new-named : (hart : ℕ) (m : Machines) (ch : Choices) (k : Paired hart m) (x : Presented) (u : PresentedUse hart m ch k.answered x) → Sound true m.core.flight ch → IsEntry x.entry → starts m.engine (cpu_for hart ch) ≡ true
        → IsNamed hart u.found.partner.start x.entry.id m.engine.cycle (issue_key (cpu_for hart ch))
    new-named hart m ch k x u so ok b v =
        let fd = u.found in
        let l = Each-at (λ v. v.start < m.engine.cycle) m.engine.uses fd.front fd.partner fd.back fd.here k.below in
        (λ q. absurd (omega (arith, l, q)), λ q. absurd (apart ch.offer refl so.offer u.waiting (sym q)))
      where
        apart : (o : Option Entry) → ch.offer ≡ o → IfSome o (FirstAt is_open m.core.flight) → FirstAt is_waiting m.core.flight x.entry → x.entry.id ≢ id_in ch.offer
        apart None h z f i = absurd (not-both (is_some ch.offer) (ap is_some h) (and-left (is_some ch.offer) _ b))
        apart (Some q) h z f i = offered-apart m.core.flight x.entry q k.order.pairs f ok z (i ∙ ap id_in h)

pub cycle-agreed : (hart : ℕ) (m : Machines) (answer : ℕ → ℕ → ℕ) → Agreed hart m → m.core.params.split ≡ true → (choices m.core).stop ≡ None → Agreed hart (cycle m hart answer)
unfolding cycle
cycle-agreed hart m answer a split z = agreed-after hart answer m (choices m.core) (input_at m hart) a split (sound m.core (facts_of hart m a.paired) z)

pub start-agreed : (hart : ℕ) (s : Setup) → Agreed hart (new_machines s)
start-agreed hart s = record { paired = start-paired hart s; begun = refl; pairs = pairs-of hart (λ x y. SameTurn (new_machines s).core.register_turns (new_machines s).engine.register_turns x y) [] (live_uses (start-paired hart s).answered []) (λ e u. same-none _ _ refl refl refl e.seq u.start) (start-paired hart s).match }

split-kept : (hart : ℕ) (m : Machines) (answer : ℕ → ℕ → ℕ) → (cycle m hart answer).core.params ≡ m.core.params
unfolding cycle
split-kept hart m answer = refl

drain-agreed : (hart : ℕ) (m : Machines) → Agreed hart m → Agreed hart (begins_drain m)
drain-agreed hart m a =
    let p = drain-paired hart m a.paired in
    record { paired = p; begun = a.begun; pairs = a.pairs }

resumed-agreed : (hart : ℕ) (m : Machines) → Agreed hart m → Agreed hart (resumes m)
resumed-agreed hart m a =
    let p = resumed-paired hart m a.paired in
    record { paired = p; begun = a.begun; pairs = a.pairs }

-- in every state
record SplitAgreed (hart : ℕ) (m : Machines) : Type 0 where
  pub split : m.core.params.split ≡ true
  pub agreed : Agreed hart m

pub reached-agreed : (hart : ℕ) (first m : Machines) → first.core.params.split ≡ true → Agreed hart first → Reached hart first m → Agreed hart m
reached-agreed hart first m s a r = (all m r).agreed
  where
    all : (m : Machines) → Reached hart first m → SplitAgreed hart m
    all _ First = record { split = s; agreed = a }
    all _ (Cycled m answer r z) = let k = all m r in record { split = ap (λ x. x.split) (split-kept hart m answer) ∙ k.split; agreed = cycle-agreed hart m answer k.agreed k.split z }
    all _ (Drained m r) = let k = all m r in record { split = k.split; agreed = drain-agreed hart m k.agreed }
    all _ (Resumed m r) = let k = all m r in record { split = k.split; agreed = resumed-agreed hart m k.agreed }
