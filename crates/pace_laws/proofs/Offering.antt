-- What is left of the offer of the oldest entry falls.
use Rattle.std.proofs.Common.{◌≡◌, ◌<◌, ◌≤◌, ◌&&◌, ◌||◌, ◌++◌, ◌+◌, ◌⊎◌, inl, inr, ℕ, Bool, true, false, cond, not, List, [], ◌∷◌, map, Option, Some, None, refl, sym, ap, ◌∙◌, subst, arith}
use Rattle.std.specs.Prelude.{is_some}
use Rattle.std.specs.Option.{option_map_or}
use Rattle.std.specs.List.{list_any}
use Rattle.std.proofs.lemmas.Bool.{eq-eqb, true≢false}
use Rattle.std.proofs.lemmas.List.{map-append}
use Rattle.xif_base.specs.declared.params.Key.{Key}
use Rattle.coproc_config.specs.declared.accept.Hit.{Hit}
use Rattle.coproc_config.specs.Accept.{hit_of}
use Rattle.xif_signals.specs.declared.bus.CpuIn.{CpuIn}
use Rattle.xif_session.specs.declared.fact.Decision.TheVariants.{Undecided}
use Rattle.xif_session.specs.Facts.{is_killed}
use Rattle.xif_session.specs.Tests.{is_within}
use Rattle.cycle_spec.specs.declared.choices.Choices.{Choices}
use Rattle.cycle_spec.specs.declared.entry.Entry.{Entry}
use Rattle.cycle_spec.specs.declared.use_of.Use.{Use}
use Rattle.cycle_spec.specs.Flight.{is_open, free_id}
use Rattle.cycle_spec.specs.Turns.{turn_of, aged, is_past, transactions_after}
use Rattle.cycle_spec.specs.Core.{id_in, word_in, presented_flags}
use Rattle.cycle_spec.specs.Engine.{has_key, has_start, issue_key, register_key, commit_key, decided_by, latest, start_of, goes_on_in, is_offered_on, start_step, started_uses, issue_start, offered_hit, may_answer, issue_ready, register_read_of, owner_if, answered_uses, with_answer, with_operands, given_to, given_uses, lanes_on, decided_uses, with_end, ended, ended_uses, offered_use, engine_drive}
use Rattle.cycle_spec.specs.Cycle.{Machines, hart_if}
use Rattle.cycle_lists.specs.Lists.{FirstAt}
use Rattle.cycle_lists.proofs.Tests.{and-both, or-right}
use Rattle.cycle_paired.proofs.Matching.{latest-at, key-here}
use Rattle.cycle_paired.proofs.Starting.{OffersWord, starting}
use Rattle.cycle_paired.proofs.Applying.{Readied, AllReadied, all-harts}
use Rattle.cycle_paired.proofs.Cycling.{joint_of, cpu_for}
use Rattle.cycle_paired.proofs.Closing.{both_after}
use Rattle.pace_laws.specs.Measure.{rest, offer_of, issue_turn, operand_turn, joint_rest, issue_rest}
use Rattle.pace_laws.proofs.Delays.{rest-aged, rest-falls}
use Rattle.pace_laws.proofs.Results.{Scene, uses_in}
use Rattle.pace_laws.proofs.Operands.{full-flags, same-turn, operand-aged}

-- ---- the offer

start-same : (m : Machines) (ch : Choices) (e : Entry) → ch.offer ≡ Some e → issue_start m.engine (cpu_for 0 ch) ≡ issue_start m.engine (offer_of e)
start-same m ch e h = ap (λ o. issue_start m.engine (cpu_for 0 (record ch { offer = o }))) h

answered-by : (h : Option Hit) (split : Bool) (flags : ℕ) → (split ≡ false → is_within (register_read_of h) flags ≡ true) → may_answer split h flags ≡ true
answered-by None split flags k = refl
answered-by (Some h) true flags k = refl
answered-by (Some h) false flags k = k refl

ready-is : (m : Machines) (ch : Choices) (e : Entry) → ch.offer ≡ Some e → issue_ready m.engine (cpu_for 0 ch) ≡ (is_past m.engine.script.issue (issue_turn m e) && may_answer m.engine.params.split (hit_of m.engine.set m.engine.params e.word) (presented_flags ch.present))
ready-is m ch e h = ap (λ o. issue_ready m.engine (cpu_for 0 (record ch { offer = o }))) h

not-answered : (d : ℕ) (m : Machines) (ch : Choices) (input : CpuIn) (e : Entry) (c : Scene d m ch input e) → is_open e ≡ true → issue_ready m.engine (cpu_for 0 ch) ≡ false
    → (is_past m.engine.script.issue (issue_turn m e) ≡ false) ⊎ ((m.core.params.split ≡ false) × (is_past m.core.script.operand (operand_turn m e.seq) ≡ false))
not-answered d m ch input e c o r = go (is_past m.engine.script.issue (issue_turn m e)) m.core.params.split (is_past m.core.script.operand (operand_turn m e.seq)) refl refl refl
  where
    offer : ch.offer ≡ Some e
    offer = c.chosen.offers o

    same : m.engine.params.split ≡ m.core.params.split
    same = ap (λ p. p.split) (sym c.paired.params)

    answers : (s : Bool) → m.core.params.split ≡ s → (s ≡ false → is_past m.core.script.operand (operand_turn m e.seq) ≡ true) → may_answer m.engine.params.split (hit_of m.engine.set m.engine.params e.word) (presented_flags ch.present) ≡ true
    answers s q k =
        answered-by (hit_of m.engine.set m.engine.params e.word) m.engine.params.split (presented_flags ch.present)
        (λ z. ap (λ x. is_within (register_read_of (hit_of m.engine.set m.engine.params e.word)) (presented_flags x)) (c.chosen.shows o (sym same ∙ z)) ∙ full-flags d m ch input e c (ap not (k (sym q ∙ sym same ∙ z))))

    never : is_past m.engine.script.issue (issue_turn m e) ≡ true → may_answer m.engine.params.split (hit_of m.engine.set m.engine.params e.word) (presented_flags ch.present) ≡ true → ⊥
    never x y = true≢false (sym (ready-is m ch e offer ∙ ap (λ t. t && may_answer m.engine.params.split (hit_of m.engine.set m.engine.params e.word) (presented_flags ch.present)) x ∙ y) ∙ r)

    go : (a s b : Bool) → is_past m.engine.script.issue (issue_turn m e) ≡ a → m.core.params.split ≡ s → is_past m.core.script.operand (operand_turn m e.seq) ≡ b
        → (is_past m.engine.script.issue (issue_turn m e) ≡ false) ⊎ ((m.core.params.split ≡ false) × (is_past m.core.script.operand (operand_turn m e.seq) ≡ false))
    go false s b x y z = inl x
    go true true b x y z = absurd (never x (answers true y (λ q. absurd (true≢false q))))
    go true false true x y z = absurd (never x (answers false y (λ q. z)))
    go true false false x y z = inr (y, z)

-- ---- the offered use is the last, and goes on

record Ends (s id : ℕ) (us : List Use) : Type 0 where
  front : List Use
  last : Use
  here : us ≡ front ++ last ∷ []
  start : last.start ≡ s
  hart_is : last.key.hart ≡ 0
  id_is : last.key.id ≡ id
  undecided : last.decision ≡ Undecided

ends-map : (s id : ℕ) (g : Use → Use) (us : List Use) → ((u : Use) → (g u).start ≡ u.start) → ((u : Use) → (g u).key ≡ u.key) → ((u : Use) → (g u).decision ≡ u.decision) → Ends s id us → Ends s id (map g us)
ends-map s id g us a b c x = record {
  front = map g x.front;
  last = g x.last;
  here = ap (map g) x.here ∙ map-append g x.front (x.last ∷ []);
  start = a x.last ∙ x.start;
  hart_is = ap (λ k. k.hart) (b x.last) ∙ x.hart_is;
  id_is = ap (λ k. k.id) (b x.last) ∙ x.id_is;
  undecided = c x.last ∙ x.undecided;
}

ends-readied : (s id : ℕ) (us vs : List Use) → AllReadied us vs → Ends s id us → Ends s id vs
ends-readied s id us vs a x = go x.front x.last vs (subst (λ l. AllReadied l vs) x.here a) x.start x.hart_is x.id_is x.undecided
  where
    one : (u v : Use) → Readied u v → u.start ≡ s → u.key.hart ≡ 0 → u.key.id ≡ id → u.decision ≡ Undecided → Ends s id (v ∷ [])
    one u v r a b c d = record {
      front = [];
      last = v;
      here = refl;
      start = ap (λ z. z.start) r.same ∙ a;
      hart_is = ap (λ z. z.key.hart) r.same ∙ b;
      id_is = ap (λ z. z.key.id) r.same ∙ c;
      undecided = ap (λ z. z.decision) r.same ∙ d;
    }

    go : (front : List Use) (u : Use) (vs : List Use) → AllReadied (front ++ u ∷ []) vs → u.start ≡ s → u.key.hart ≡ 0 → u.key.id ≡ id → u.decision ≡ Undecided → Ends s id vs
    go [] u [] a p q r t = absurd a
    go [] u (v ∷ []) a p q r t = one u v a.0 p q r t
    go [] u (v ∷ w ∷ ws) a p q r t = absurd a.1
    go (f ∷ fs) u [] a p q r t = absurd a
    go (f ∷ fs) u (v ∷ vs) a p q r t =
        let k = go fs u vs a.1 p q r t in
        record { front = v ∷ k.front; last = k.last; here = ap (λ l. v ∷ l) k.here; start = k.start; hart_is = k.hart_is; id_is = k.id_is; undecided = k.undecided }

ends-started : (d : ℕ) (m : Machines) (ch : Choices) (input : CpuIn) (e : Entry) → Scene d m ch input e → is_open e ≡ true → Ends (issue_start m.engine (cpu_for 0 ch)) e.id (started_uses m.engine (cpu_for 0 ch))
ends-started d m ch input e c o =
    let h = c.chosen.offers o in
    let cpu = cpu_for 0 ch in
    let k = c.paired in
    let word : OffersWord 0 cpu e = record { valid = ap is_some h; hart_is = ap (λ o. hart_if (is_some o) 0) h; id_is = ap id_in h; word_is = ap word_in h } in
    let first : FirstAt is_open m.core.flight e = record { older = []; younger = c.leads.younger; here = c.leads.here; passes = o; others = tt } in
    let a = starting 0 m.core.next_seq (free_id m.core.flight) m.engine.cycle k.answered m.engine.issue_turns.waiting cpu m.core.flight e m.engine.uses word first k.offers (joint_of 0 m k) in
    let same : issue_start m.engine cpu ≡ a.new.start =
    ap (λ o. option_map_or (λ u. u.start) o m.engine.cycle) (ap (latest (issue_key cpu)) a.here ∙ latest-at a.front a.new [] cpu.issue_hartid cpu.issue_id (a.hart_is ∙ sym word.hart_is) (a.id_is ∙ sym word.id_is) tt) in
    record { front = a.front; last = a.new; here = a.here; start = sym same; hart_is = a.hart_is; id_is = a.id_is; undecided = a.undecided }

ends-after : (d : ℕ) (m : Machines) (ch : Choices) (input : CpuIn) (e : Entry) → Scene d m ch input e → is_open e ≡ true → issue_ready m.engine (cpu_for 0 ch) ≡ false → Ends (issue_start m.engine (cpu_for 0 ch)) e.id (uses_in m ch input)
ends-after d m ch input e c o r =
    let en = m.engine in
    let cpu = cpu_for 0 ch in
    let cop = engine_drive m.engine (cpu_for 0 ch) in
    let s = issue_start m.engine (cpu_for 0 ch) in
    let x1 : Ends s e.id (answered_uses en cpu cop) = subst (λ l. Ends s e.id l) (sym (unanswered (is_some ch.offer) (issue_ready en cpu) r)) (ends-started d m ch input e c o) in
    let x2 : Ends s e.id (given_uses en cpu cop) = given (is_some ch.present && cop.register_ready) (latest (register_key cpu) (answered_uses en cpu cop)) x1 in
    let x3 : Ends s e.id (decided_uses en cpu cop) = subst (λ t. Ends s e.id (cond t (decided_by cpu.commit_kill (latest (commit_key cpu) (given_uses en cpu cop)) (given_uses en cpu cop)) (given_uses en cpu cop))) (sym quiet) x2 in
    let x4 : Ends s e.id (ended_uses en cpu cop input) = finished (cop.result_valid && input.result_ready) (offered_use en) (decided_uses en cpu cop) x3 in
    ends-readied s e.id (ended_uses en cpu cop input) (uses_in m ch input) (all-harts en.set en.cycle 0 en.units (ended_uses en cpu cop input)) x4
  where
    unanswered : (v t : Bool) → t ≡ false → cond (v && t) (map (with_answer (issue_start m.engine (cpu_for 0 ch)) (offered_hit m.engine (cpu_for 0 ch)) m.engine.accepted) (started_uses m.engine (cpu_for 0 ch))) (started_uses m.engine (cpu_for 0 ch)) ≡ started_uses m.engine (cpu_for 0 ch)
    unanswered true true h = cc
    unanswered true false h = refl
    unanswered false t h = refl

    given : (t : Bool) (u : Option Use) → Ends (issue_start m.engine (cpu_for 0 ch)) e.id (answered_uses m.engine (cpu_for 0 ch) (engine_drive m.engine (cpu_for 0 ch)))
        → Ends (issue_start m.engine (cpu_for 0 ch)) e.id (cond t (given_to u (lanes_on (cpu_for 0 ch)) (answered_uses m.engine (cpu_for 0 ch) (engine_drive m.engine (cpu_for 0 ch)))) (answered_uses m.engine (cpu_for 0 ch) (engine_drive m.engine (cpu_for 0 ch))))
    given false u x = x
    given true None x = x
    given true (Some u) x = ends-map (issue_start m.engine (cpu_for 0 ch)) e.id (with_operands u.start (lanes_on (cpu_for 0 ch))) (answered_uses m.engine (cpu_for 0 ch) (engine_drive m.engine (cpu_for 0 ch))) (λ v. refl) (λ v. refl) (λ v. refl) x

    quiet : (is_some ch.kill || is_some ch.release) ≡ false
    quiet = let q = c.chosen.decides o in ap (λ k. is_some k || is_some ch.release) q.0 ∙ ap is_some q.1

    finished : (t : Bool) (u : Option Use) (us : List Use) → Ends (issue_start m.engine (cpu_for 0 ch)) e.id us → Ends (issue_start m.engine (cpu_for 0 ch)) e.id (cond t (ended u us) us)
    finished false u us x = x
    finished true None us x = x
    finished true (Some u) us x = ends-map (issue_start m.engine (cpu_for 0 ch)) e.id (with_end u.start) us (λ v. refl) (λ v. refl) (λ v. refl) x

any-last : (test : Use → Bool) (xs : List Use) (u : Use) → test u ≡ true → list_any test (xs ++ u ∷ []) ≡ true
any-last test [] u h = ap (λ t. t || false) h
any-last test (x ∷ xs) u h = or-right (test x) (list_any test (xs ++ u ∷ [])) (any-last test xs u h)

-- the transaction of the next cycle is the same
start-after : (answer : ℕ → ℕ → ℕ) (d : ℕ) (m : Machines) (ch : Choices) (input : CpuIn) (e f : Entry) → Scene d m ch input e → is_open e ≡ true → issue_ready m.engine (cpu_for 0 ch) ≡ false → f.id ≡ e.id → issue_start (both_after 0 answer m ch input).engine (offer_of f) ≡ issue_start m.engine (cpu_for 0 ch)
start-after answer d m ch input e f c o r i =
    let x = ends-after d m ch input e c o r in
    let key : Key = record { hart = 0; id = f.id } in
    let us = uses_in m ch input in
    let s = issue_start m.engine (cpu_for 0 ch) in
    let has : has_key key x.last ≡ true = key-here 0 f.id x.last x.hart_is (x.id_is ∙ sym i) in
    let on : list_any (is_offered_on key s) us ≡ true = ap (list_any (is_offered_on key s)) x.here ∙ any-last (is_offered_on key s) x.front x.last
    (and-both (has_key key x.last) (has_start s x.last && not (is_killed x.last.decision)) has (and-both (has_start s x.last) (not (is_killed x.last.decision)) (eq-eqb x.last.start s x.start) (ap (λ d. not (is_killed d)) x.undecided))) in
    let waiting : goes_on_in (both_after 0 answer m ch input).engine.issue_turns.waiting key us ≡ list_any (is_offered_on key s) us = on-in (is_some ch.offer) (issue_ready m.engine (cpu_for 0 ch)) (ap is_some (c.chosen.offers o)) r key us in
    ap (λ t. start_of key (start_step (not t) (offer_of f) (m.engine.cycle + 1) us) (m.engine.cycle + 1)) (waiting ∙ on)
    ∙ ap (λ l. option_map_or (λ u. u.start) l (m.engine.cycle + 1)) (ap (latest key) x.here ∙ latest-at x.front x.last [] 0 f.id x.hart_is (x.id_is ∙ sym i) tt) ∙ x.start
  where
    on-in : (v t : Bool) → v ≡ true → t ≡ false → (key : Key) (us : List Use) → goes_on_in (transactions_after m.engine.issue_turns (owner_if v (issue_start m.engine (cpu_for 0 ch))) t).waiting key us ≡ list_any (is_offered_on key (issue_start m.engine (cpu_for 0 ch))) us
    on-in true true p q key us = cc
    on-in true false p q key us = refl
    on-in false t p q key us = cc

issue-aged : (answer : ℕ → ℕ → ℕ) (d : ℕ) (m : Machines) (ch : Choices) (input : CpuIn) (e f : Entry) → Scene d m ch input e → is_open e ≡ true → issue_ready m.engine (cpu_for 0 ch) ≡ false → f.id ≡ e.id → issue_turn (both_after 0 answer m ch input) f ≡ aged (issue_turn m e)
issue-aged answer d m ch input e f c o r i =
    ap (λ s. turn_of (transactions_after m.engine.issue_turns (owner_if (is_some ch.offer) (issue_start m.engine (cpu_for 0 ch))) (issue_ready m.engine (cpu_for 0 ch))) s) (start-after answer d m ch input e f c o r i)
    ∙ ap (λ x. turn_of (transactions_after m.engine.issue_turns (owner_if (is_some x) (issue_start m.engine (cpu_for 0 ch))) (issue_ready m.engine (cpu_for 0 ch))) (issue_start m.engine (cpu_for 0 ch))) (c.chosen.offers o)
    ∙ ap (λ t. turn_of (transactions_after m.engine.issue_turns (Some (issue_start m.engine (cpu_for 0 ch))) t) (issue_start m.engine (cpu_for 0 ch))) r
    ∙ same-turn m.engine.issue_turns (issue_start m.engine (cpu_for 0 ch))
    ∙ ap (λ s. aged (turn_of m.engine.issue_turns s)) (start-same m ch e (c.chosen.offers o))

-- ---- it falls

pub offer-falls : (answer : ℕ → ℕ → ℕ) (d : ℕ) (m : Machines) (ch : Choices) (input : CpuIn) (e f : Entry) → Scene d m ch input e → is_open e ≡ true → issue_ready m.engine (cpu_for 0 ch) ≡ false → f.id ≡ e.id → f.seq ≡ e.seq
    → issue_rest (both_after 0 answer m ch input) f < issue_rest m e
offer-falls answer d m ch input e f c o r i q =
    subst (λ t. rest m.engine.script.issue t + joint_rest (both_after 0 answer m ch input) f + 1 < issue_rest m e) (sym (issue-aged answer d m ch input e f c o r i)) (go m.core.params.split refl (not-answered d m ch input e c o r))
  where
    n : Machines
    n = both_after 0 answer m ch input

    joint : m.core.params.split ≡ false → operand_turn n f.seq ≡ aged (operand_turn m e.seq)
    joint s = operand-aged answer m ch input e f.seq (c.chosen.shows o s) (unsplit m.engine.params.split _ _ (ap (λ p. p.split) (sym c.paired.params) ∙ s) r) q
      where
        unsplit : (t x y : Bool) → t ≡ false → y ≡ false → cond t x y ≡ false
        unsplit true x y h k = cc
        unsplit false x y h k = k

    split : (x y z w : ℕ) → x + 1 ≡ y → x + 0 + 1 < y + 0 + 1
    split x y z w h = omega (arith, h)

    go : (s : Bool) → m.core.params.split ≡ s → (is_past m.engine.script.issue (issue_turn m e) ≡ false) ⊎ ((m.core.params.split ≡ false) × (is_past m.core.script.operand (operand_turn m e.seq) ≡ false))
        → rest m.engine.script.issue (aged (issue_turn m e)) + cond m.core.params.split 0 (rest m.core.script.operand (operand_turn n f.seq)) + 1 < rest m.engine.script.issue (issue_turn m e) + cond m.core.params.split 0 (rest m.core.script.operand (operand_turn m e.seq)) + 1
    go true s (inr h) = absurd (true≢false (sym s ∙ h.0))
    go true s (inl h) =
        subst (λ t. rest m.engine.script.issue (aged (issue_turn m e)) + cond t 0 (rest m.core.script.operand (operand_turn n f.seq)) + 1 < rest m.engine.script.issue (issue_turn m e) + cond t 0 (rest m.core.script.operand (operand_turn m e.seq)) + 1) (sym s)
        (split _ _ 0 0 (rest-aged m.engine.script.issue (issue_turn m e) h))
    go false s h =
        subst (λ t. rest m.engine.script.issue (aged (issue_turn m e)) + cond t 0 (rest m.core.script.operand (operand_turn n f.seq)) + 1 < rest m.engine.script.issue (issue_turn m e) + cond t 0 (rest m.core.script.operand (operand_turn m e.seq)) + 1) (sym s)
        (subst (λ t. rest m.engine.script.issue (aged (issue_turn m e)) + rest m.core.script.operand t + 1 < rest m.engine.script.issue (issue_turn m e) + rest m.core.script.operand (operand_turn m e.seq) + 1) (sym (joint s)) (both h))
      where
        both : (is_past m.engine.script.issue (issue_turn m e) ≡ false) ⊎ ((m.core.params.split ≡ false) × (is_past m.core.script.operand (operand_turn m e.seq) ≡ false))
            → rest m.engine.script.issue (aged (issue_turn m e)) + rest m.core.script.operand (aged (operand_turn m e.seq)) + 1 < rest m.engine.script.issue (issue_turn m e) + rest m.core.script.operand (operand_turn m e.seq) + 1
        both (inl h) = first (rest m.engine.script.issue (aged (issue_turn m e))) (rest m.engine.script.issue (issue_turn m e)) (rest m.core.script.operand (aged (operand_turn m e.seq))) (rest m.core.script.operand (operand_turn m e.seq)) (rest-aged m.engine.script.issue (issue_turn m e) h) (rest-falls m.core.script.operand (operand_turn m e.seq))
          where
            first : (a b x y : ℕ) → a + 1 ≡ b → x ≤ y → a + x + 1 < b + y + 1
            first a b x y p q = omega (arith, p, q)
        both (inr h) = second (rest m.engine.script.issue (aged (issue_turn m e))) (rest m.engine.script.issue (issue_turn m e)) (rest m.core.script.operand (aged (operand_turn m e.seq))) (rest m.core.script.operand (operand_turn m e.seq)) (rest-falls m.engine.script.issue (issue_turn m e)) (rest-aged m.core.script.operand (operand_turn m e.seq) h.1)
          where
            second : (a b x y : ℕ) → a ≤ b → x + 1 ≡ y → a + x + 1 < b + y + 1
            second a b x y p q = omega (arith, p, q)
