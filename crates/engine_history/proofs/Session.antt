-- The history is that of the session's rules.
use Rattle.std.proofs.Common.{if◌then◌else◌, ◌≡◌, ◌+◌, ◌==◌, ◌&&◌, ◌||◌, not, ℕ, Bool, true, false, Option, Some, None, List, [], ◌∷◌, map, length, refl, sym, ap, ap₂, ◌∙◌, arith}
use Rattle.std.specs.Prelude.{is_none, is_some}
use Rattle.std.specs.Option.{option_map, option_map_or}
use Rattle.std.proofs.lemmas.Bool.{eqb-true, eq-eqb, ne_eqb}
use Rattle.xif_base.specs.declared.params.Key.{Key}
use Rattle.xif_signals.specs.declared.bus.Bus.{Bus}
use Rattle.xif_session.specs.declared.fact.Fact.{Fact}
use Rattle.xif_session.specs.declared.fact.Decision.{Decision}
use Rattle.xif_session.specs.Facts.{past_of, same_key, issue_key, register_key, commit_key, result_key, is_issued, is_given, is_taken, issue_waits, is_undecided, is_covered, verdict_of, decision_after, new_fact, with_response, with_operands, with_end, response_on, undecided_start, has_killed, is_start, named}
use Rattle.xif_session.specs.Uses.{Use as SessionUse, last_bus, change_latest}
use Rattle.xif_session.specs.Uses as uses
use Rattle.xif_session.proofs.Options.{key_is, no_true}
use Rattle.xif_session.proofs.Whole.{whole, cycle_is, last_is, continues_same, named_agree}
use Rattle.engine_history.specs.Lives.{Life, Verdict, new_life, latest, start_of, goes_on, starts, with_start, change_if, at_start, answer_on, accepted_in, answered, operands_on, given, is_in_group, decided_by, decided, finished, lives_of, lives_with}
use Rattle.engine_history.specs.Told.{decision_told, fact_told, session_use}
use Rattle.engine_history.proofs.Tests.{killed_told}
use Rattle.engine_history.proofs.Keep.{Rising, Keeps, rising, rising_start, rising_changed, older_same, latest_map, answered_is, given_is, decided_is}
use Rattle.engine_history.proofs.Cycle.{latest_below}

-- ---- what a key names

latest_told : (key : Key) (ls : List Life) → uses.latest (map session_use ls) key ≡ option_map fact_told (latest key ls)
latest_told key [] = refl
latest_told key (l ∷ ls) = go (same_key l.key key) (latest_told key ls)
  where
    go : (t : Bool) → uses.latest (map session_use ls) key ≡ option_map fact_told (latest key ls) → (if t then Some (fact_told l) else uses.latest (map session_use ls) key) ≡ option_map fact_told (if t then Some l else latest key ls)
    go true r = refl
    go false r = r

continues_told : (last b : Bus) (ls : List Life) → uses.continues last (map session_use ls) b ≡ goes_on last b ls
continues_told last b ls =
    ap (λ k. issue_waits last && (b.issue_valid && (same_key (issue_key last) (issue_key b) && not k))) (ap has_killed (latest_told (issue_key b) ls) ∙ go (latest (issue_key b) ls))
  where
    go : (o : Option Life) → has_killed (option_map fact_told o) ≡ option_map_or (λ (l : Life). option_map_or (λ (v : Verdict). v.kill) l.verdict false) o false
    go None = refl
    go (Some l) = killed_told l.verdict

start_told : (cycle : ℕ) (last b : Bus) (ls : List Life) → uses.with_start cycle last b (map session_use ls) ≡ map session_use (with_start cycle last b ls)
start_told cycle last b ls =
    ap (λ c. if b.issue_valid && not c then record { key = issue_key b; fact = new_fact cycle b.issue_instr } ∷ map session_use ls else map session_use ls) (continues_told last b ls)
    ∙ go (starts last b ls)
  where
    go : (t : Bool) → (if t then record { key = issue_key b; fact = new_fact cycle b.issue_instr } ∷ map session_use ls else map session_use ls) ≡ map session_use (if t then new_life (issue_key b) cycle b.issue_instr ∷ ls else ls)
    go true = refl
    go false = refl

-- ---- a change of the latest use of a key

change_told : (key : Key) (g : Fact → Fact) (f : Life → Life) → ((l : Life) → g (fact_told l) ≡ fact_told (f l)) → ((l : Life) → (f l).key ≡ l.key) → (bound : ℕ) (ls : List Life) → Rising bound ls
    → change_latest key g (map session_use ls) ≡ map session_use (at_start (start_of key ls) f ls)
change_told key g f h k bound [] r = refl
change_told key g f h k bound (l ∷ ls) r = go (same_key l.key key) (latest key ls) refl (change_told key g f h k l.start ls r.1)
  where
    head : g (fact_told l) ≡ fact_told (f l) → record { key = l.key; fact = g (fact_told l) } ≡ session_use (f l)
    head q = ap₂ (λ (x : Key) y. record { key = x; fact = y }) (sym (k l)) q

    go : (t : Bool) (o : Option Life) → latest key ls ≡ o → change_latest key g (map session_use ls) ≡ map session_use (at_start (option_map (λ (l : Life). l.start) o) f ls)
        → (if t then record { key = l.key; fact = g (fact_told l) } ∷ map session_use ls else (session_use l ∷ change_latest key g (map session_use ls)))
        ≡ map session_use (at_start (option_map (λ (l : Life). l.start) (if t then Some l else o)) f (l ∷ ls))
    go true o q ih =
        ap₂ (λ x xs. x ∷ xs) (head (h l) ∙ ap (λ t. session_use (change_if t f l)) (sym (eq-eqb l.start l.start refl))) (ap (map session_use) (sym (older_same l.start f ls r.1)))
    go false None q ih = ap (λ xs. session_use l ∷ xs) ih
    go false (Some x) q ih =
        let low = latest_below key l.start ls x r.1 q in
        ap₂ (λ t xs. session_use (change_if t f l) ∷ xs) (sym (ne_eqb l.start x.start (λ e. omega (arith, low, e)))) ih

answer_told : (cycle bound : ℕ) (b : Bus) (ls : List Life) → Rising bound ls → uses.with_answer b (map session_use ls) ≡ map session_use (answered cycle b ls)
answer_told cycle bound b ls r = go (is_issued b)
  where
    go : (t : Bool) → (if t then change_latest (issue_key b) (with_response true (response_on b)) (map session_use ls) else map session_use ls)
        ≡ map session_use (if t then at_start (start_of (issue_key b) ls) (λ l. record l { answer = Some (answer_on cycle (accepted_in ls) b) }) ls else ls)
    go true = change_told (issue_key b) (with_response true (response_on b)) (λ l. record l { answer = Some (answer_on cycle (accepted_in ls) b) }) (λ l. refl) (λ l. refl) bound ls r
    go false = refl

given_told : (cycle bound : ℕ) (b : Bus) (ls : List Life) → Rising bound ls → uses.with_registers b (map session_use ls) ≡ map session_use (given cycle b ls)
given_told cycle bound b ls r = go (is_given b)
  where
    go : (t : Bool) → (if t then change_latest (register_key b) (with_operands true b.register_rs_valid) (map session_use ls) else map session_use ls)
        ≡ map session_use (if t then at_start (start_of (register_key b) ls) (λ l. record l { operands = Some (operands_on cycle b) }) ls else ls)
    go true = change_told (register_key b) (with_operands true b.register_rs_valid) (λ l. record l { operands = Some (operands_on cycle b) }) (λ l. refl) (λ l. refl) bound ls r
    go false = refl

finish_told : (cycle bound : ℕ) (b : Bus) (ls : List Life) → Rising bound ls → uses.with_result b (map session_use ls) ≡ map session_use (finished cycle b ls)
finish_told cycle bound b ls r = go (is_taken b)
  where
    or_true : (t : Bool) → (t || true) ≡ true
    or_true true = refl
    or_true false = refl

    go : (t : Bool) → (if t then change_latest (result_key b) (with_end true) (map session_use ls) else map session_use ls)
        ≡ map session_use (if t then at_start (start_of (result_key b) ls) (λ l. record l { finish = Some cycle }) ls else ls)
    go true = change_told (result_key b) (with_end true) (λ l. record l { finish = Some cycle }) (λ l. ap (λ t. record (fact_told l) { finished = t }) (or_true (is_some l.finish))) (λ l. refl) bound ls r
    go false = refl

-- ---- the commit

-- the start of the use that a key names, if it is undecided
undecided_in : Key → List Life → Option ℕ
undecided_in key ls = undecided_start (option_map fact_told (latest key ls))

same_verdict : (f : Life → Life) → Keeps f → ((l : Life) → (f l).verdict ≡ l.verdict) → (key : Key) (ls : List Life) → undecided_in key (map f ls) ≡ undecided_in key ls
unfolding undecided_in
same_verdict f k v key ls = ap (λ o. undecided_start (option_map fact_told o)) (latest_map f k key ls) ∙ go (latest key ls)
  where
    go : (o : Option Life) → undecided_start (option_map fact_told (option_map f o)) ≡ undecided_start (option_map fact_told o)
    go None = refl
    go (Some l) = ap₂ (λ v s. if is_undecided (decision_told v) then Some s else None) (v l) (k.start l)

undecided_at : (o : Option ℕ) (f : Life → Life) → ((l : Life) → (f l).key ≡ l.key) → ((l : Life) → (f l).start ≡ l.start) → ((l : Life) → (f l).word ≡ l.word) → ((l : Life) → (f l).verdict ≡ l.verdict)
    → (key : Key) (ls : List Life) → undecided_in key (at_start o f ls) ≡ undecided_in key ls
undecided_at None f k s w v key ls = refl
undecided_at (Some start) f k s w v key ls =
    same_verdict (λ l. change_if (l.start == start) f l)
    (record { key = λ l. on_key (l.start == start) l; start = λ l. on_start (l.start == start) l; word = λ l. on_word (l.start == start) l })
    (λ l. on_verdict (l.start == start) l) key ls
  where
    on_key : (t : Bool) (l : Life) → (change_if t f l).key ≡ l.key
    on_key true l = k l
    on_key false l = refl

    on_start : (t : Bool) (l : Life) → (change_if t f l).start ≡ l.start
    on_start true l = s l
    on_start false l = refl

    on_word : (t : Bool) (l : Life) → (change_if t f l).word ≡ l.word
    on_word true l = w l
    on_word false l = refl

    on_verdict : (t : Bool) (l : Life) → (change_if t f l).verdict ≡ l.verdict
    on_verdict true l = v l
    on_verdict false l = refl

undecided_same : (cycle : ℕ) (b : Bus) (key : Key) (ls : List Life) → undecided_in key (given cycle b (answered cycle b ls)) ≡ undecided_in key ls
undecided_same cycle b key ls = give (is_given b) (answered cycle b ls) ∙ answer (is_issued b)
  where
    answer : (t : Bool) → undecided_in key (if t then at_start (start_of (issue_key b) ls) (λ l. record l { answer = Some (answer_on cycle (accepted_in ls) b) }) ls else ls) ≡ undecided_in key ls
    answer true = undecided_at (start_of (issue_key b) ls) (λ l. record l { answer = Some (answer_on cycle (accepted_in ls) b) }) (λ l. refl) (λ l. refl) (λ l. refl) (λ l. refl) key ls
    answer false = refl

    give : (t : Bool) (xs : List Life) → undecided_in key (if t then at_start (start_of (register_key b) xs) (λ l. record l { operands = Some (operands_on cycle b) }) xs else xs) ≡ undecided_in key xs
    give true xs = undecided_at (start_of (register_key b) xs) (λ l. record l { operands = Some (operands_on cycle b) }) (λ l. refl) (λ l. refl) (λ l. refl) (λ l. refl) key xs
    give false xs = refl

eqb-sym : (a b : ℕ) → (a == b) ≡ (b == a)
eqb-sym a b = go (a == b) refl (b == a) refl
  where
    go : (s : Bool) → (a == b) ≡ s → (t : Bool) → (b == a) ≡ t → s ≡ t
    go true p true q = refl
    go false p false q = refl
    go true p false q = no_true (b == a) (eq-eqb b a (sym (eqb-true a b p))) q
    go false p true q = no_true (a == b) (eq-eqb a b (sym (eqb-true b a q))) p

-- a use with another decision
abbrev with_told : Life → Decision → SessionUse
with_told l d = record { key = l.key; fact = record (fact_told l) { decision = d } }

decide_one : (cycle : ℕ) (b : Bus) (target l : Life) → target.key.hart ≡ b.commit_hartid
    → uses.decide_use b target.start (session_use l) ≡ session_use (change_if (is_in_group b.commit_kill target l) (λ l. record l { verdict = Some (record { cycle = cycle; kill = b.commit_kill }) }) l)
decide_one cycle b target l h =
    ap (λ t. with_told l (decision_after (t && is_covered b.commit_kill target.start l.start) b.commit_kill (decision_told l.verdict)))
    (eqb-sym b.commit_hartid l.key.hart ∙ ap (λ x. l.key.hart == x) (sym h))
    ∙ go ((l.key.hart == target.key.hart) && is_covered b.commit_kill target.start l.start) l.verdict
  where
    go : (t : Bool) (v : Option Verdict) → with_told l (decision_after t b.commit_kill (decision_told v))
        ≡ session_use (change_if (is_none v && t) (λ l. record l { verdict = Some (record { cycle = cycle; kill = b.commit_kill }) }) (record l { verdict = v }))
    go true None = refl
    go false None = refl
    go false (Some v) = refl
    go true (Some v) = by v.kill
      where
        by : (k : Bool) → with_told l (if is_undecided (verdict_of k) then verdict_of b.commit_kill else verdict_of k) ≡ with_told l (verdict_of k)
        by true = refl
        by false = refl

found_key : (key : Key) (ls : List Life) (x : Life) → latest key ls ≡ Some x → x.key ≡ key
found_key key [] x q = absurd (cc)
found_key key (l ∷ ls) x q = go (same_key l.key key) refl q (λ k. found_key key ls x k)
  where
    some_is : (a b : Life) → Some a ≡ Some b → a ≡ b
    some_is a b h = cc

    go : (t : Bool) → same_key l.key key ≡ t → (if t then Some l else latest key ls) ≡ Some x → (latest key ls ≡ Some x → x.key ≡ key) → x.key ≡ key
    go true k q ih = ap (λ (y : Life). y.key) (some_is x l (sym q)) ∙ key_is l.key key k
    go false k q ih = ih q

commit_told : (cycle : ℕ) (b : Bus) (ls : List Life) → uses.with_commit b (if b.commit_valid then undecided_in (commit_key b) ls else None) (map session_use ls) ≡ map session_use (decided cycle b ls)
unfolding undecided_in
commit_told cycle b ls = go b.commit_valid (latest (commit_key b) ls) refl
  where
    each : (target : Life) → target.key.hart ≡ b.commit_hartid → (ls : List Life) → map (uses.decide_use b target.start) (map session_use ls)
        ≡ map session_use (map (λ l. change_if (is_in_group b.commit_kill target l) (λ l. record l { verdict = Some (record { cycle = cycle; kill = b.commit_kill }) }) l) ls)
    each target h [] = refl
    each target h (l ∷ ls) = ap₂ (λ x xs. x ∷ xs) (decide_one cycle b target l h) (each target h ls)

    by : (target : Life) → target.key.hart ≡ b.commit_hartid → (v : Option Verdict) → uses.with_commit b (if is_undecided (decision_told v) then Some target.start else None) (map session_use ls)
        ≡ map session_use (if is_none v then map (λ l. change_if (is_in_group b.commit_kill target l) (λ l. record l { verdict = Some (record { cycle = cycle; kill = b.commit_kill }) }) l) ls else ls)
    by target h None = each target h ls
    by target h (Some v) = on v.kill
      where
        on : (k : Bool) → uses.with_commit b (if is_undecided (verdict_of k) then Some target.start else None) (map session_use ls) ≡ map session_use ls
        on true = refl
        on false = refl

    go : (t : Bool) (o : Option Life) → latest (commit_key b) ls ≡ o → uses.with_commit b (if t then undecided_start (option_map fact_told o) else None) (map session_use ls)
        ≡ map session_use (if t then decided_by cycle b.commit_kill o ls else ls)
    go true None q = refl
    go true (Some x) q = by x (ap (λ (k : Key). k.hart) (found_key (commit_key b) ls x q)) x.verdict
    go false o q = refl

-- ---- a session

pub session_told : (session : List Bus) → map session_use (lives_of session) ≡ uses.uses_of session
unfolding undecided_in
session_told [] = refl
session_told (b ∷ session) = sym (
    ap (λ us. uses.uses_after cycle (last_bus session) b us) (sym (session_told session))
    ∙ ap (λ us. uses.with_result b (uses.with_commit b (uses.effective_in b us) (uses.with_registers b (uses.with_answer b us)))) (start_told cycle (last_bus session) b (lives_of session))
    ∙ ap (λ us. uses.with_result b (uses.with_commit b (uses.effective_in b (map session_use named')) (uses.with_registers b us))) (answer_told cycle (cycle + 1) b named' rises)
    ∙ ap (λ us. uses.with_result b (uses.with_commit b (uses.effective_in b (map session_use named')) us)) (given_told cycle (cycle + 1) b x (rising_changed (cycle + 1) named' x (answered_is cycle b named') rises))
    ∙ ap (λ o. uses.with_result b (uses.with_commit b o (map session_use y))) effective
    ∙ ap (uses.with_result b) (commit_told cycle b y)
    ∙ finish_told cycle (cycle + 1) b z (rising_changed (cycle + 1) y z (decided_is cycle b y).changed (rising_changed (cycle + 1) x y (given_is cycle b x).changed (rising_changed (cycle + 1) named' x (answered_is cycle b named') rises))))
  where
    cycle : ℕ
    cycle = length session

    named' : List Life
    named' = lives_with session b

    x : List Life
    x = answered cycle b named'

    y : List Life
    y = given cycle b x

    z : List Life
    z = decided cycle b y

    rises : Rising (cycle + 1) named'
    rises = rising_start cycle (last_bus session) b (lives_of session) (rising session)

    effective : uses.effective_in b (map session_use named') ≡ (if b.commit_valid then undecided_in (commit_key b) y else None)
    effective = ap (λ o. if b.commit_valid then o else None) (ap undecided_start (latest_told (commit_key b) named') ∙ sym (undecided_same cycle b (commit_key b) named'))

-- ---- what the rules say of it

-- the facts of a key
pub facts_are : (session : List Bus) (key : Key) → (past_of session).facts key ≡ option_map fact_told (latest key (lives_of session))
facts_are session key = sym (whole session key) ∙ ap (λ us. uses.latest us key) (sym (session_told session)) ∙ latest_told key (lives_of session)

-- where a use starts
pub starts_are : (session : List Bus) (b : Bus) → is_start (past_of session) b ≡ starts (last_bus session) b (lives_of session)
starts_are session b =
    ap (λ c. b.issue_valid && not c)
    (sym (continues_same (past_of session) b (uses.uses_of session) (λ k. whole session k))
    ∙ ap (λ x. uses.continues x (uses.uses_of session) b) (last_is session)
    ∙ ap (λ us. uses.continues (last_bus session) us b) (sym (session_told session))
    ∙ continues_told (last_bus session) b (lives_of session))

-- the use that a key names in a cycle
pub named_are : (session : List Bus) (b : Bus) (key : Key) → named (past_of session) b key ≡ option_map fact_told (latest key (lives_with session b))
named_are session b key =
    sym (named_agree (past_of session) b (uses.uses_of session) (λ k. whole session k) key)
    ∙ ap₂ (λ c x. uses.latest (uses.with_start c x b (uses.uses_of session)) key) (cycle_is session) (last_is session)
    ∙ ap (λ us. uses.latest (uses.with_start (length session) (last_bus session) b us) key) (sym (session_told session))
    ∙ ap (λ us. uses.latest us key) (start_told (length session) (last_bus session) b (lives_of session))
    ∙ latest_told key (lives_with session b)
