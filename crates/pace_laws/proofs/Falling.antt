-- The measure is bounded, and falls in a cycle in which the oldest entry neither stops nor is done.
use Rattle.std.proofs.Common.{◌≡◌, ◌≢◌, ◌<◌, ◌≤◌, ◌&&◌, ◌+◌, ◌*◌, ℕ, Bool, true, false, cond, not, List, [], ◌∷◌, Option, Some, None, refl, sym, ap, ◌∙◌, subst, arith}
use Rattle.std.specs.Prelude.{is_some, is_none, IfSome, IsSomeAnd}
use Rattle.std.proofs.lemmas.Bool.{true≢false}
use Rattle.xif_drive.specs.Scripts.{delay_of}
use Rattle.xif_signals.specs.declared.bus.Bus.{Bus}
use Rattle.xif_signals.specs.declared.bus.CpuIn.{CpuIn}
use Rattle.xif_session.specs.declared.fact.Response.{Response}
use Rattle.xif_session.specs.Facts.{is_accepted as is_response_accepted, is_refused, response_on}
use Rattle.cycle_spec.specs.declared.choices.Choices.{Choices}
use Rattle.cycle_spec.specs.declared.choices.Executed.{Executed}
use Rattle.cycle_spec.specs.declared.entry.Entry.{Entry}
use Rattle.cycle_spec.specs.declared.entry.EntryKind.{EntryKind}
use Rattle.cycle_spec.specs.declared.entry.EntryKind.TheVariants.{Local, Unknown, Nowhere}
use Rattle.cycle_spec.specs.declared.use_of.Use.{Use}
use Rattle.cycle_spec.specs.Flight.{is_open, is_unknown, is_unknown_kind, is_waiting, is_stopping, reads_registers}
use Rattle.cycle_spec.specs.Core.{dispatch_of, settled_entries}
use Rattle.cycle_spec.specs.Engine.{latest, has_key, issue_ready}
use Rattle.cycle_spec.specs.Cycle.{Machines}
use Rattle.cycle_lists.specs.Lists.{Each}
use Rattle.cycle_lists.proofs.Tests.{and-both, and-false, not-both, not-out, or-false_left, or-false_right, some-from}
use Rattle.cycle_lists.proofs.Every.{Each-at}
use Rattle.cycle_lists.proofs.Places.{last-found}
use Rattle.cycle_paired.specs.Paired.{is_live, Paired}
use Rattle.cycle_paired.proofs.Cycling.{cpu_for}
use Rattle.cycle_paired.proofs.Closing.{bus_for, both_after}
use Rattle.pace_laws.specs.Measure.{rest, key_of, start_in, issue_turn, operand_turn, register_turn, take_turn, ready_rest, result_rest, wait_of, operand_rest, release_rest, issue_rest, word_rest, kind_rest, is_over, oldest_rest, measure}
use Rattle.pace_laws.proofs.Delays.{rest-bound, offer-bound, offer-some}
use Rattle.pace_laws.proofs.Steps.{Leads, lead-settled, lead-dispatched, for_result, answered_one, answered-leaves, moved-goes, response-stays, response-waits, response-comes, sent-stays, released-stays, release-comes, over-comes, seq-is}
use Rattle.pace_laws.proofs.Steady.{IsSteady}
use Rattle.pace_laws.proofs.Uses.{IsKept}
use Rattle.pace_laws.proofs.Keeping.{Steady, IsSent}
use Rattle.pace_laws.proofs.Track.{Its, its-of, start-its, OtherStarts}
use Rattle.pace_laws.proofs.Results.{Scene, moved_in}
use Rattle.pace_laws.proofs.Finishing.{Drops, NextUse, next-use, waits-little}
use Rattle.pace_laws.proofs.Operands.{operands-fall}
use Rattle.pace_laws.proofs.Offering.{offer-falls}

-- ---- bounds

operand-bound : (d : ℕ) (m : Machines) (y : Entry) (s : ℕ) → Steady d m → operand_rest m y s ≤ 2 * d + 1
operand-bound d m y s b = by (is_waiting y)
  where
    by : (t : Bool) → cond t (rest m.core.script.operand (operand_turn m y.seq) + rest m.engine.script.register (register_turn m s) + 1) 0 ≤ 2 * d + 1
    by true =
        let p = rest-bound d m.core.script.operand (operand_turn m y.seq) (b.core_script.operand (operand_turn m y.seq).number) in
        let q = rest-bound d m.engine.script.register (register_turn m s) (b.engine_script.register (register_turn m s).number) in
        omega (arith, p, q)
    by false = omega arith

release-bound : (y : Entry) → release_rest y ≤ 1
release-bound y = by y.released
  where
    by : (t : Bool) → cond t 0 1 ≤ 1
    by true = omega arith
    by false = omega arith

one-bound : (d : ℕ) (m : Machines) (u : Use) → Steady d m → IsKept m.engine.cycle u → result_rest m d (Some u) ≤ 3 * d + 3
one-bound d m u b k = by u.ready k.before
  where
    by : (o : Option ℕ) → IfSome o (λ r. r < m.engine.cycle) → ready_rest m d u o ≤ 3 * d + 3
    by None h = omega arith
    by (Some r) h =
        let t = take_turn m in
        let l = offer-bound d (rest m.core.script.take t) u.start (wait_of r (delay_of m.engine.script.result u.order) m.engine.cycle) m.engine.result_waiting (rest-bound d m.core.script.take t (b.core_script.take t.number)) (waits-little d r (delay_of m.engine.script.result u.order) m.engine.cycle (b.engine_script.result u.order) h) in
        upto _ l
      where
        upto : (a : ℕ) → a ≤ 3 * d + 2 → a ≤ 3 * d + 3
        upto a h = omega arith

result-bound : (d : ℕ) (m : Machines) (e : Entry) → Steady d m → result_rest m d (latest (key_of e) m.engine.uses) ≤ 3 * d + 3
result-bound d m e b = go (latest (key_of e) m.engine.uses) refl
  where
    go : (o : Option Use) → latest (key_of e) m.engine.uses ≡ o → result_rest m d o ≤ 3 * d + 3
    go None h = omega arith
    go (Some u) h = let l = last-found (has_key (key_of e)) m.engine.uses u h in one-bound d m u b (Each-at (IsKept m.engine.cycle) m.engine.uses l.older u l.younger l.here b.uses)

accepted-bound : (d : ℕ) (m : Machines) (y : Entry) (r : Response) → Steady d m → word_rest m d y (Some r) ≤ 5 * d + 5
accepted-bound d m y r b =
    let a = operand-bound d m y (start_in m y) b in
    let p = release-bound y in
    let q = result-bound d m y b in
    sum (operand_rest m y (start_in m y)) (release_rest y) (result_rest m d (latest (key_of y) m.engine.uses)) a p q
  where
    sum : (a p q : ℕ) → a ≤ 2 * d + 1 → p ≤ 1 → q ≤ 3 * d + 3 → a + p + q ≤ 5 * d + 5
    sum a p q x y z = omega arith

issue-bound : (d : ℕ) (m : Machines) (y : Entry) → Steady d m → issue_rest m y ≤ 2 * d + 1
issue-bound d m y b = by m.core.params.split
  where
    by : (t : Bool) → rest m.engine.script.issue (issue_turn m y) + cond t 0 (rest m.core.script.operand (operand_turn m y.seq)) + 1 ≤ 2 * d + 1
    by true = let p = rest-bound d m.engine.script.issue (issue_turn m y) (b.engine_script.issue (issue_turn m y).number) in omega (arith, p)
    by false =
        let p = rest-bound d m.engine.script.issue (issue_turn m y) (b.engine_script.issue (issue_turn m y).number) in
        let q = rest-bound d m.core.script.operand (operand_turn m y.seq) (b.core_script.operand (operand_turn m y.seq).number) in
        omega (arith, p, q)

word-bound : (d : ℕ) (m : Machines) (y : Entry) (o : Option Response) → Steady d m → word_rest m d y o ≤ 7 * d + 6
word-bound d m y None b = sum (issue_rest m y) (issue-bound d m y b)
  where
    sum : (a : ℕ) → a ≤ 2 * d + 1 → a + (5 * d + 5) ≤ 7 * d + 6
    sum a h = omega arith
word-bound d m y (Some r) b = upto (word_rest m d y (Some r)) (accepted-bound d m y r b)
  where
    upto : (a : ℕ) → a ≤ 5 * d + 5 → a ≤ 7 * d + 6
    upto a h = omega arith

pub oldest-bound : (d : ℕ) (m : Machines) (y : Entry) → Steady d m → Leads m.core.flight y → measure d m ≤ 7 * d + 6
oldest-bound d m y b l = subst (λ es. oldest_rest m d es ≤ 7 * d + 6) (sym l.here) (by (is_over y) y.kind)
  where
    by : (t : Bool) (k : EntryKind) → cond t 0 (kind_rest m d y k) ≤ 7 * d + 6
    by true k = omega arith
    by false (Local i) = omega arith
    by false Nowhere = omega arith
    by false Unknown = word-bound d m y y.response b

pub measure-bound : (d : ℕ) (m : Machines) → Steady d m → measure d m ≤ 7 * d + 7
measure-bound d m b = go m.core.flight refl
  where
    upto : (a : ℕ) → a ≤ 7 * d + 6 → a ≤ 7 * d + 7
    upto a h = omega arith

    same : (a : ℕ) → a ≡ 7 * d + 7 → a ≤ 7 * d + 7
    same a h = omega (arith, h)

    go : (l : List Entry) → m.core.flight ≡ l → measure d m ≤ 7 * d + 7
    go [] f = same (measure d m) (ap (oldest_rest m d) f)
    go (y ∷ ys) f = upto (measure d m) (oldest-bound d m y b (record { younger = ys; here = f }))

-- ---- it isn't 0 before

result-some : (m : Machines) (d : ℕ) (o : Option Use) → 0 < result_rest m d o
result-some m d None = omega arith
result-some m d (Some u) = by u.ready
  where
    by : (o : Option ℕ) → 0 < ready_rest m d u o
    by None = omega arith
    by (Some r) = offer-some d (rest m.core.script.take (take_turn m)) u.start (wait_of r (delay_of m.engine.script.result u.order) m.engine.cycle) m.engine.result_waiting

kind-some : (m : Machines) (d : ℕ) (e : Entry) (k : EntryKind) → 0 < kind_rest m d e k
kind-some m d e (Local i) = omega arith
kind-some m d e Nowhere = omega arith
kind-some m d e Unknown = by e.response
  where
    more : (a b c : ℕ) → 0 < c → 0 < a + b + c
    more a b c h = omega arith

    by : (o : Option Response) → 0 < word_rest m d e o
    by None = omega arith
    by (Some r) = more (operand_rest m e (start_in m e)) (release_rest e) (result_rest m d (latest (key_of e) m.engine.uses)) (result-some m d (latest (key_of e) m.engine.uses))

-- ---- an accepted word

waiting-kept : (o : Option Response) (s t : Bool) → (s ≡ true → t ≡ true) → (reads_registers o && not s) ≡ false → (reads_registers o && not t) ≡ false
waiting-kept o true t k h = ap (λ x. reads_registers o && not x) (k refl) ∙ and-false (reads_registers o)
waiting-kept o false true k h = and-false (reads_registers o)
waiting-kept o false false k h = h

three : (R : Type 0) (a a' b b' c c' : ℕ) (w r : Bool) → Drops (w ≡ true) a' a → Drops (r ≡ false) b' b → Drops R c' c → (w ≡ false → r ≡ true → R) → a' + b' + c' < a + b + c
three R a a' b b' c c' true r x y z k = let l = x.less refl in let m = y.most in let n = z.most in omega (arith, l, m, n)
three R a a' b b' c c' false false x y z k = let l = x.most in let m = y.less refl in let n = z.most in omega (arith, l, m, n)
three R a a' b b' c c' false true x y z k = let l = x.most in let m = y.most in let n = z.less (k refl refl) in omega (arith, l, m, n)

weaker : (a b : ℕ) → a < b → a ≤ b
weaker a b h = omega arith

accepted-falls : (d : ℕ) (answer : ℕ → ℕ → ℕ) (m : Machines) (ch : Choices) (input : CpuIn) (e : Entry) → Scene d m ch input e → Paired 0 (both_after 0 answer m ch input) → Leads (both_after 0 answer m ch input).core.flight (moved_in m ch input e) → is_over (moved_in m ch input e) ≡ false
    → (r : Response) → e.response ≡ Some r → word_rest (both_after 0 answer m ch input) d (moved_in m ch input e) (moved_in m ch input e).response < word_rest m d e (Some r)
accepted-falls d answer m ch input e c next leads over r q =
    subst (λ o. word_rest n d f o < word_rest m d e (Some r)) (sym (same ∙ q))
    (subst (λ s. operand_rest n f (start_in n f) + release_rest f + result_rest n d (latest (key_of f) n.engine.uses) < operand_rest m e s + release_rest e + result_rest m d (latest (key_of e) m.engine.uses)) (sym (start-its c.paired.answered m e i))
    (subst (λ s. operand_rest n f s + release_rest f + result_rest n d (latest (key_of f) n.engine.uses) < operand_rest m e i.its.start + release_rest e + result_rest m d (latest (key_of e) m.engine.uses)) (sym (start-its next.answered n f j))
    (subst (λ u. operand_rest n f j.its.start + release_rest f + result_rest n d (latest (key_of f) n.engine.uses) < operand_rest m e i.its.start + release_rest e + result_rest m d u) (sym i.latest_is)
    (subst (λ u. operand_rest n f j.its.start + release_rest f + result_rest n d u < operand_rest m e i.its.start + release_rest e + result_rest m d (Some i.its)) (sym j.latest_is)
    (three ((f.released ≡ true) × (is_waiting f ≡ false)) (operand_rest m e i.its.start) (operand_rest n f j.its.start) (release_rest e) (release_rest f) (result_rest m d (Some i.its)) (result_rest n d (Some j.its)) (is_waiting e) e.released operands release u.result (λ w l. (released-stays ch b (for_result ch b m.core.flight) e l, quiet w)))))))
  where
    n : Machines
    n = both_after 0 answer m ch input

    b : Bus
    b = bus_for 0 m.engine ch input

    f : Entry
    f = moved_in m ch input e

    steady : IsSteady m.engine.set m.engine.params e
    steady = (subst (Each (IsSteady m.engine.set m.engine.params)) c.leads.here c.steady.entries).0

    is_there : is_some e.response ≡ true
    is_there = ap is_some q

    live : is_live e ≡ true
    live = and-both (is_some e.response) (not e.done) is_there (not-out e.done (or-false_left e.done (is_stopping e) c.over))

    accepted : is_response_accepted e.response ≡ true
    accepted = by r.accept refl
      where
        by : (t : Bool) → r.accept ≡ t → is_response_accepted e.response ≡ true
        by true h = ap is_response_accepted q ∙ h
        by false h = absurd (not-both (is_stopping e) (or-false_right e.done (is_stopping e) c.over) (steady.refused (ap is_refused q ∙ ap not h)))

    others : IfSome ch.offer (λ p. (p.seq ≢ e.seq) × (p.id ≢ e.id))
    others = c.chosen.others live

    starts : OtherStarts m.engine ch e.id
    starts = some-from (λ p. (p.seq ≢ e.seq) × (p.id ≢ e.id)) (λ p. p.id ≢ e.id) ch.offer (λ p h. h.1) others

    same : f.response ≡ e.response
    same = response-stays ch b (for_result ch b m.core.flight) e (some-from (λ p. (p.seq ≢ e.seq) × (p.id ≢ e.id)) (λ p. p.seq ≢ e.seq) ch.offer (λ p h. h.0) others)

    seq : f.seq ≡ e.seq
    seq = seq-is ch b (for_result ch b m.core.flight) e

    id : f.id ≡ e.id
    id = (moved-goes ch b (for_result ch b m.core.flight) e).id ∙ (answered-leaves ch.offer b e).id

    lives : is_live f ≡ true
    lives = and-both (is_some f.response) (not f.done) (ap is_some same ∙ is_there) (not-out f.done (or-false_left f.done (is_stopping f) over))

    i : Its c.paired.answered e m.engine.uses
    i = its-of c.paired.answered m.core.flight e m.engine.uses c.leads live c.paired.older c.paired.match

    j : Its next.answered f n.engine.uses
    j = its-of next.answered n.core.flight f n.engine.uses leads lives next.older next.match

    u : NextUse d answer m ch input e i.its j.its
    u = next-use d answer m ch input e c i starts lives id (ap is_response_accepted same ∙ accepted) over next.answered j

    quiet : is_waiting e ≡ false → is_waiting f ≡ false
    quiet w = ap (λ o. reads_registers o && not f.operands_sent) same ∙ waiting-kept e.response e.operands_sent f.operands_sent (sent-stays ch b (for_result ch b m.core.flight) e) w

    split : is_waiting e ≡ true → m.core.params.split ≡ true
    split w = by m.core.params.split refl
      where
        by : (t : Bool) → m.core.params.split ≡ t → t ≡ true
        by true k = refl
        by false k =
            let s = (subst (Each IsSent) c.leads.here (c.steady.sent k)).0 is_there in
            absurd (not-both (is_waiting e) (ap (λ x. reads_registers e.response && not x) s ∙ and-false (reads_registers e.response)) w)

    operands : Drops (is_waiting e ≡ true) (operand_rest n f j.its.start) (operand_rest m e i.its.start)
    operands = by (is_waiting e) refl
      where
        none : (x : ℕ) → is_waiting f ≡ false → operand_rest n f j.its.start ≤ x
        none x h = subst (λ t. cond t (rest n.core.script.operand (operand_turn n f.seq) + rest n.engine.script.register (register_turn n j.its.start) + 1) 0 ≤ x) (sym h) (omega arith)

        by : (t : Bool) → is_waiting e ≡ t → Drops (is_waiting e ≡ true) (operand_rest n f j.its.start) (operand_rest m e i.its.start)
        by false w = record { most = none (operand_rest m e i.its.start) (quiet w); less = λ h. absurd (true≢false (sym h ∙ w)) }
        by true w =
            let l = operands-fall d answer m ch input e c i starts w (split w) j.its.start u.start seq in
            record { most = weaker (operand_rest n f j.its.start) (operand_rest m e i.its.start) l; less = λ h. l }

    release : Drops (e.released ≡ false) (release_rest f) (release_rest e)
    release = by e.released refl
      where
        by : (t : Bool) → e.released ≡ t → Drops (e.released ≡ false) (release_rest f) (cond t 0 1)
        by true h = record { most = subst (λ t. cond t 0 1 ≤ 0) (sym (released-stays ch b (for_result ch b m.core.flight) e h)) (omega arith); less = λ k. absurd (true≢false (sym h ∙ k)) }
        by false h = named ch.release refl (c.chosen.releases accepted h)
          where
            named : (o : Option Entry) → ch.release ≡ o → IsSomeAnd o (λ p. e.seq ≤ p.seq) → Drops (e.released ≡ false) (release_rest f) 1
            named None k z = absurd z
            named (Some p) k z =
                let answered : (answered_one ch.offer b e).response ≡ e.response = sym (moved-goes ch b (for_result ch b m.core.flight) e).response ∙ same in
                let l = release-comes ch b (for_result ch b m.core.flight) e p k z (ap is_response_accepted answered ∙ accepted) in
                record { most = subst (λ t. cond t 0 1 ≤ 1) (sym l) (omega arith); less = λ _. subst (λ t. cond t 0 1 < 1) (sym l) (omega arith) }

-- ---- each kind

pub falls : (d : ℕ) (answer : ℕ → ℕ → ℕ) (m : Machines) (ch : Choices) (input : CpuIn) (e : Entry) → Scene d m ch input e → Paired 0 (both_after 0 answer m ch input) → Steady d (both_after 0 answer m ch input) → measure d (both_after 0 answer m ch input) < measure d m
falls d answer m ch input e c next steady =
    subst (λ x. measure d n < x) (sym (ap (oldest_rest m d) c.leads.here ∙ ap (λ t. cond t 0 (kind_rest m d e e.kind)) c.over))
    (subst (λ x. x < kind_rest m d e e.kind) (sym (ap (oldest_rest n d) leads.here)) (by (is_over f) refl))
  where
    n : Machines
    n = both_after 0 answer m ch input

    b : Bus
    b = bus_for 0 m.engine ch input

    f : Entry
    f = moved_in m ch input e

    leads : Leads n.core.flight f
    leads = lead-dispatched (dispatch_of answer m.core ch) (settled_entries ch b m.core.flight) f (lead-settled ch b m.core.flight e c.leads c.chosen.spares c.chosen.retire)

    ok : IsSteady m.engine.set m.engine.params e
    ok = (subst (Each (IsSteady m.engine.set m.engine.params)) c.leads.here c.steady.entries).0

    kind : f.kind ≡ e.kind
    kind = (moved-goes ch b (for_result ch b m.core.flight) e).kind ∙ (answered-leaves ch.offer b e).kind

    id : f.id ≡ e.id
    id = (moved-goes ch b (for_result ch b m.core.flight) e).id ∙ (answered-leaves ch.offer b e).id

    seq : f.seq ≡ e.seq
    seq = seq-is ch b (for_result ch b m.core.flight) e

    under : (a x : ℕ) → x ≤ 5 * d + 5 → 0 < a → x < a + (5 * d + 5)
    under a x h k = omega arith

    more : (a x : ℕ) → x < a → x + (5 * d + 5) < a + (5 * d + 5)
    more a x h = omega arith

    offered : is_open e ≡ true → e.response ≡ None → word_rest n d f f.response < issue_rest m e + (5 * d + 5)
    offered o q = one (issue_ready m.engine (cpu_for 0 ch)) refl
      where
        one : (t : Bool) → issue_ready m.engine (cpu_for 0 ch) ≡ t → word_rest n d f f.response < issue_rest m e + (5 * d + 5)
        one true t =
            subst (λ x. word_rest n d f x < issue_rest m e + (5 * d + 5)) (sym (response-comes ch b (for_result ch b m.core.flight) e (c.chosen.offers o) (and-both (is_some ch.offer) (issue_ready m.engine (cpu_for 0 ch)) (ap is_some (c.chosen.offers o)) t)))
            (under (issue_rest m e) (word_rest n d f (Some (response_on b))) (accepted-bound d n f (response_on b) steady) (omega arith))
        one false t =
            subst (λ x. word_rest n d f x < issue_rest m e + (5 * d + 5)) (sym (response-waits ch b (for_result ch b m.core.flight) e (ap (λ t. is_some ch.offer && t) t ∙ and-false (is_some ch.offer)) ∙ q))
            (more (issue_rest m e) (issue_rest n f) (offer-falls answer d m ch input e f c o t id seq))

    word : is_over f ≡ false → e.kind ≡ Unknown → (o : Option Response) → e.response ≡ o → word_rest n d f f.response < word_rest m d e o
    word over k None q = offered (and-both (is_unknown e) (is_none e.response) (ap is_unknown_kind k) (ap is_none q)) q
    word over k (Some r) q = accepted-falls d answer m ch input e c next leads over r q

    kinds : is_over f ≡ false → (k : EntryKind) → e.kind ≡ k → kind_rest n d f k < kind_rest m d e k
    kinds over Nowhere k = absurd (not-both (is_stopping e) (or-false_right e.done (is_stopping e) c.over) (ok.nowhere k))
    kinds over Unknown k = word over k e.response refl
    kinds over (Local i) k = executed ch.execute refl (c.chosen.executes i k)
      where
        executed : (o : Option Executed) → ch.execute ≡ o → IsSomeAnd o (λ x. x.entry.seq ≡ e.seq) → kind_rest n d f (Local i) < kind_rest m d e (Local i)
        executed None h z = absurd z
        executed (Some x) h z = absurd (not-both (is_over f) over (over-comes ch b (for_result ch b m.core.flight) e x h z))

    by : (t : Bool) → is_over f ≡ t → cond t 0 (kind_rest n d f f.kind) < kind_rest m d e e.kind
    by true h = kind-some m d e e.kind
    by false h = subst (λ k. kind_rest n d f k < kind_rest m d e e.kind) (sym kind) (kinds h e.kind refl)
