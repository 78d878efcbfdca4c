-- The facts of a key are what the whole list of uses says of its latest use.
use Rattle.std.proofs.Common.{◌≡◌, ◌==◌, ◌&&◌, ◌||◌, not, ℕ, Bool, true, false, if◌then◌else◌, Option, Some, None, List, [], ◌∷◌, map, length, refl, sym, ap, ◌∙◌, subst, arith}
use Rattle.std.specs.Prelude.{is_some}
use Rattle.std.specs.Option.{option_map}
use Rattle.xif_base.specs.declared.params.Key.{Key}
use Rattle.xif_base.specs.declared.params.Params.{Params}
use Rattle.xif_signals.specs.declared.bus.Bus.{Bus}
use Rattle.xif_session.specs.declared.fact.Fact.{Fact}
use Rattle.xif_session.specs.declared.fact.Decision.{Decision}
use Rattle.xif_session.specs.declared.fact.Decision.TheVariants.{Undecided, Released, Killed}
use Rattle.xif_session.specs.Facts.{Facts, Past, past_of, past_after, same_key, issue_key, register_key, commit_key, result_key, is_issued, is_given, is_taken, issue_waits, issue_continues, is_start, named, answered_on, given_on, decided_on, ended_on, effective_start, undecided_start, now, new_fact, response_on, with_response, with_operands, with_decision, with_end, has_killed, is_in_flight, is_running, is_killed, is_undecided, is_accepted, is_refused, is_covered, decision_after}
use Rattle.xif_session.specs.Rules.{HoldsI2}
use Rattle.xif_session.specs.Legal.{EachCycle}
use Rattle.xif_session.specs.Uses.{Use, latest, last_bus, continues, with_start, change_latest, with_answer, with_registers, decide_use, with_commit, effective_in, with_result, uses_after, uses_of, none_in_flight}
use Rattle.xif_session.proofs.Options.{both-true, and-true, key_is, key_same, same_key-sym, no_true}

-- ---- a change of the latest use of one key, looked up at any key

apart : {A : Type 0} (a b c : Key) → same_key a b ≡ true → same_key a c ≡ true → same_key b c ≡ false → A
apart a b c p q r = no_true (same_key b c) (key_same b c (sym (key_is a b p) ∙ key_is a c q)) r

other : {A : Type 0} (a b c : Key) → same_key a b ≡ true → same_key b c ≡ true → same_key a c ≡ false → A
other a b c p q r = no_true (same_key a c) (key_same a c (key_is a b p ∙ key_is b c q)) r

change_at : (key : Key) (f : Fact → Fact) (us : List Use) (k : Key) → latest (change_latest key f us) k ≡ (if same_key key k then option_map f (latest us k) else latest us k)
change_at key f [] k = go (same_key key k)
  where
    go : (t : Bool) → None ≡ (if t then option_map f None else None)
    go true = refl
    go false = refl
change_at key f (u ∷ us) k = go (same_key u.key key) (same_key u.key k) (same_key key k) refl refl refl (change_at key f us k)
  where
    go : (x y z : Bool) → same_key u.key key ≡ x → same_key u.key k ≡ y → same_key key k ≡ z
        → latest (change_latest key f us) k ≡ (if same_key key k then option_map f (latest us k) else latest us k)
        → latest (if x then record u { fact = f u.fact } ∷ us else (u ∷ change_latest key f us)) k
        ≡ (if z then option_map f (if y then Some u.fact else latest us k) else (if y then Some u.fact else latest us k))
    go true true true p q r ih = ap (λ t. if t then Some (f u.fact) else latest us k) q
    go true false false p q r ih = ap (λ t. if t then Some (f u.fact) else latest us k) q
    go false true false p q r ih = ap (λ t. if t then Some u.fact else latest (change_latest key f us) k) q
    go false false z p q r ih =
        ap (λ t. if t then Some u.fact else latest (change_latest key f us) k) q ∙ ih
        ∙ ap (λ t. if t then option_map f (latest us k) else latest us k) r
    go true true false p q r ih = apart u.key key k p q r
    go true false true p q r ih = other u.key key k p r q
    go false true true p q r ih = no_true (same_key u.key key) (key_same u.key key (key_is u.key k q ∙ sym (key_is key k r))) p

-- under a handshake
step_at : (t : Bool) (key : Key) (f : Bool → Fact → Fact) (us : List Use) → ((x : Fact) → f false x ≡ x) → (k : Key)
    → latest (if t then change_latest key (f true) us else us) k ≡ option_map (f (t && same_key key k)) (latest us k)
step_at true key f us n k = change_at key (f true) us k ∙ go (same_key key k) (latest us k)
  where
    go : (t : Bool) (o : Option Fact) → (if t then option_map (f true) o else o) ≡ option_map (f t) o
    go true o = refl
    go false None = refl
    go false (Some x) = ap Some (sym (n x))
step_at false key f us n k = go (latest us k)
  where
    go : (o : Option Fact) → o ≡ option_map (f false) o
    go None = refl
    go (Some x) = ap Some (sym (n x))

-- a commit, looked up
decide_at : (b : Bus) (start : ℕ) (us : List Use) (k : Key)
    → latest (map (decide_use b start) us) k ≡ option_map (with_decision (b.commit_hartid == k.hart) start b.commit_kill) (latest us k)
decide_at b start [] k = refl
decide_at b start (u ∷ us) k = go (same_key u.key k) refl (decide_at b start us k)
  where
    go : (t : Bool) → same_key u.key k ≡ t → latest (map (decide_use b start) us) k ≡ option_map (with_decision (b.commit_hartid == k.hart) start b.commit_kill) (latest us k)
        → (if t then Some (decide_use b start u).fact else latest (map (decide_use b start) us) k)
        ≡ option_map (with_decision (b.commit_hartid == k.hart) start b.commit_kill) (if t then Some u.fact else latest us k)
    go true q ih = ap (λ (x : Key). Some (with_decision (b.commit_hartid == x.hart) start b.commit_kill u.fact)) (key_is u.key k q)
    go false q ih = ih

-- ---- both views through a cycle

abbrev pub Agree : List Use → Facts → Type 0
Agree us facts = (k : Key) → latest us k ≡ facts k

pub continues_same : (p : Past) (b : Bus) (us : List Use) → Agree us p.facts → continues p.last us b ≡ issue_continues p b
continues_same p b us a =
    ap (λ o. issue_waits p.last && (b.issue_valid && (same_key (issue_key p.last) (issue_key b) && not (has_killed o)))) (a (issue_key b))

pub named_agree : (p : Past) (b : Bus) (us : List Use) → Agree us p.facts → Agree (with_start p.cycle p.last b us) (named p b)
named_agree p b us a k = go (b.issue_valid && not (continues p.last us b)) (ap (λ c. b.issue_valid && not c) (continues_same p b us a)) (same_key (issue_key b) k) refl
  where
    go : (t : Bool) → t ≡ is_start p b → (y : Bool) → same_key (issue_key b) k ≡ y
        → latest (if t then record { key = issue_key b; fact = new_fact p.cycle b.issue_instr } ∷ us else us) k
        ≡ (if is_start p b && same_key (issue_key b) k then Some (new_fact p.cycle b.issue_instr) else p.facts k)
    go true q y r =
        ap (λ t. if t then Some (new_fact p.cycle b.issue_instr) else latest us k) r
        ∙ ap (λ o. if y then Some (new_fact p.cycle b.issue_instr) else o) (a k)
        ∙ ap (λ t. if t then Some (new_fact p.cycle b.issue_instr) else p.facts k) (sym r)
        ∙ ap (λ t. if t && same_key (issue_key b) k then Some (new_fact p.cycle b.issue_instr) else p.facts k) q
    go false q y r = a k ∙ ap (λ t. if t && same_key (issue_key b) k then Some (new_fact p.cycle b.issue_instr) else p.facts k) q

end_none : (x : Fact) → with_end false x ≡ x
end_none x = ap (λ n. record x { finished = n }) (or_false x.finished)
  where
    or_false : (t : Bool) → (t || false) ≡ t
    or_false true = refl
    or_false false = refl

-- by the cycle, before the end
pub agree_now : (p : Past) (b : Bus) (us : List Use) → Agree us p.facts
    → Agree (with_commit b (effective_in b (with_start p.cycle p.last b us)) (with_registers b (with_answer b (with_start p.cycle p.last b us)))) (now p b)
agree_now p b us a k =
    let us1 = with_start p.cycle p.last b us in
    let a1 = named_agree p b us a in
    let us2 = with_answer b us1 in
    let us3 = with_registers b us2 in
    let a2 : Agree us2 (answered_on b (named p b)) = λ k. step_at (is_issued b) (issue_key b) (λ t. with_response t (response_on b)) us1 (λ x. refl) k ∙ ap (option_map (with_response (is_issued b && same_key (issue_key b) k) (response_on b))) (a1 k) in
    let a3 : Agree us3 (given_on b (answered_on b (named p b))) = λ k. step_at (is_given b) (register_key b) (λ t. with_operands t b.register_rs_valid) us2 (λ x. refl) k ∙ ap (option_map (with_operands (is_given b && same_key (register_key b) k) b.register_rs_valid)) (a2 k) in
    let eff : effective_in b us1 ≡ effective_start p b = ap (λ o. if b.commit_valid then undecided_start o else None) (a1 (commit_key b)) in
    ap (λ o. latest (with_commit b o us3) k) eff ∙ decided (effective_start p b) us3 (given_on b (answered_on b (named p b))) a3 k
  where
    decided : (o : Option ℕ) (us : List Use) (facts : Facts) → Agree us facts → (k : Key) → latest (with_commit b o us) k ≡ decided_on b o facts k
    decided None us facts a k = a k
    decided (Some start) us facts a k = decide_at b start us k ∙ ap (option_map (with_decision (b.commit_hartid == k.hart) start b.commit_kill)) (a k)

agree_after : (p : Past) (b : Bus) (us : List Use) → Agree us p.facts → Agree (uses_after p.cycle p.last b us) (past_after p b).facts
agree_after p b us a k =
    step_at (is_taken b) (result_key b) with_end _ end_none k ∙ ap (option_map (with_end (is_taken b && same_key (result_key b) k))) (agree_now p b us a k)

pub cycle_is : (s : List Bus) → (past_of s).cycle ≡ length s
cycle_is [] = refl
cycle_is (b ∷ s) = let ih = cycle_is s in omega arith

pub last_is : (s : List Bus) → (past_of s).last ≡ last_bus s
last_is [] = refl
last_is (b ∷ s) = refl

-- for every list of buses, with no rule
pub whole : (s : List Bus) (k : Key) → latest (uses_of s) k ≡ (past_of s).facts k
whole [] k = refl
whole (b ∷ s) k =
    ap (λ n. latest (uses_after n (last_bus s) b (uses_of s)) k) (sym (cycle_is s)) ∙ ap (λ a. latest (uses_after (past_of s).cycle a b (uses_of s)) k) (sym (last_is s))
    ∙ agree_after (past_of s) b (uses_of s) (λ k. whole s k) k

-- ---- if I2 held so far, no older use of a key is in flight

abbrev Quiet : ℕ → List Use → Type 0
Quiet profile [] = Unit {0}
Quiet profile (u ∷ us) = (none_in_flight profile us u.key ≡ true) × Quiet profile us

quiet_latest : (profile : ℕ) (us : List Use) (k : Key) → Quiet profile us → none_in_flight profile us k ≡ not (is_in_flight profile (latest us k))
quiet_latest profile [] k q = refl
quiet_latest profile (u ∷ us) k q = go (same_key u.key k) refl (quiet_latest profile us k q.1)
  where
    and_true : (a b : Bool) → b ≡ true → (a && b) ≡ a
    and_true true b h = h
    and_true false b h = refl

    go : (t : Bool) → same_key u.key k ≡ t → none_in_flight profile us k ≡ not (is_in_flight profile (latest us k))
        → (not (t && is_in_flight profile (Some u.fact)) && none_in_flight profile us k) ≡ not (is_in_flight profile (if t then Some u.fact else latest us k))
    go true q' ih = and_true (not (is_in_flight profile (Some u.fact))) (none_in_flight profile us k) (ap (λ x. none_in_flight profile us x) (sym (key_is u.key k q')) ∙ q.0)
    go false q' ih = ih

-- a change of another key
none_change : (profile : ℕ) (key : Key) (f : Fact → Fact) (us : List Use) (k : Key) → same_key key k ≡ false → none_in_flight profile (change_latest key f us) k ≡ none_in_flight profile us k
none_change profile key f [] k n = refl
none_change profile key f (u ∷ us) k n = go (same_key u.key key) (same_key u.key k) refl refl (none_change profile key f us k n)
  where
    go : (x y : Bool) → same_key u.key key ≡ x → same_key u.key k ≡ y → none_in_flight profile (change_latest key f us) k ≡ none_in_flight profile us k
        → none_in_flight profile (if x then record u { fact = f u.fact } ∷ us else (u ∷ change_latest key f us)) k
        ≡ (not (same_key u.key k && is_in_flight profile (Some u.fact)) && none_in_flight profile us k)
    go false y p q ih = ap (λ t. not (same_key u.key k && is_in_flight profile (Some u.fact)) && t) ih
    go true false p q ih =
        ap (λ t. not (t && is_in_flight profile (Some (f u.fact))) && none_in_flight profile us k) q
        ∙ ap (λ t. not (t && is_in_flight profile (Some u.fact)) && none_in_flight profile us k) (sym q)
    go true true p q ih = apart u.key key k p q n

quiet_change : (profile : ℕ) (key : Key) (f : Fact → Fact) (us : List Use) → Quiet profile us → Quiet profile (change_latest key f us)
quiet_change profile key f [] q = tt
quiet_change profile key f (u ∷ us) q = go (same_key u.key key) refl (quiet_change profile key f us q.1)
  where
    go : (t : Bool) → same_key u.key key ≡ t → Quiet profile (change_latest key f us) → Quiet profile (if t then record u { fact = f u.fact } ∷ us else (u ∷ change_latest key f us))
    go true k r = (q.0, q.1)
    go false k r = (none_change profile key f us u.key (same_key-sym key u.key ∙ k) ∙ q.0, r)

quiet_if : (profile : ℕ) (t : Bool) (key : Key) (f : Fact → Fact) (us : List Use) → Quiet profile us → Quiet profile (if t then change_latest key f us else us)
quiet_if profile true key f us q = quiet_change profile key f us q
quiet_if profile false key f us q = q

-- a decision puts nothing in flight
decide_fly : (profile : ℕ) (b : Bus) (start : ℕ) (u : Use) → is_in_flight profile (Some u.fact) ≡ false → is_in_flight profile (Some (decide_use b start u).fact) ≡ false
decide_fly profile b start u h =
    let x = or-both (is_running (Some u.fact)) _ h in
    or_false _ _ (go (is_accepted u.fact.response) ((b.commit_hartid == u.key.hart) && is_covered b.commit_kill start u.fact.start) b.commit_kill u.fact.decision u.fact.finished x.0)
    (hold (is_refused u.fact.response) ((b.commit_hartid == u.key.hart) && is_covered b.commit_kill start u.fact.start) b.commit_kill u.fact.decision (profile == 2) x.1)
  where
    or-both : (a c : Bool) → (a || c) ≡ false → (a ≡ false) × (c ≡ false)
    or-both true c h = cc
    or-both false c h = (refl, h)

    or_false : (a c : Bool) → a ≡ false → c ≡ false → (a || c) ≡ false
    or_false a c p q = rw (p, q) refl

    hold : (r t kill : Bool) (d : Decision) (x : Bool) → ((r && is_undecided d) && x) ≡ false → ((r && is_undecided (decision_after t kill d)) && x) ≡ false
    hold false t kill d x h = refl
    hold true true true Undecided x h = refl
    hold true true false Undecided x h = refl
    hold true false kill Undecided x h = h
    hold true true kill Released x h = refl
    hold true false kill Released x h = refl
    hold true true kill Killed x h = refl
    hold true false kill Killed x h = refl

    go : (a t kill : Bool) (d : Decision) (fin : Bool) → (a && not (is_killed d || fin)) ≡ false → (a && not (is_killed (decision_after t kill d) || fin)) ≡ false
    go false t kill d fin h = refl
    go true true true Undecided fin h = refl
    go true true false Undecided fin h = h
    go true false kill Undecided fin h = h
    go true true kill Released fin h = h
    go true false kill Released fin h = h
    go true true kill Killed fin h = refl
    go true false kill Killed fin h = refl

none_decide : (profile : ℕ) (b : Bus) (start : ℕ) (us : List Use) (k : Key) → none_in_flight profile us k ≡ true → none_in_flight profile (map (decide_use b start) us) k ≡ true
none_decide profile b start [] k h = refl
none_decide profile b start (u ∷ us) k h =
    let x = both-true (not (same_key u.key k && is_in_flight profile (Some u.fact))) _ h in
    and-true _ _ (go (same_key u.key k) x.0) (none_decide profile b start us k x.1)
  where
    low : (t : Bool) → not t ≡ true → t ≡ false
    low true k = cc
    low false k = refl

    go : (t : Bool) → not (t && is_in_flight profile (Some u.fact)) ≡ true → not (t && is_in_flight profile (Some (decide_use b start u).fact)) ≡ true
    go false h = refl
    go true h = ap not (decide_fly profile b start u (low (is_in_flight profile (Some u.fact)) h))

quiet_decide : (profile : ℕ) (b : Bus) (o : Option ℕ) (us : List Use) → Quiet profile us → Quiet profile (with_commit b o us)
quiet_decide profile b None us q = q
quiet_decide profile b (Some start) us q = go us q
  where
    go : (us : List Use) → Quiet profile us → Quiet profile (map (decide_use b start) us)
    go [] q = tt
    go (u ∷ us) q = (none_decide profile b start us u.key q.0, go us q.1)

quiet_start : (params : Params) (p : Past) (b : Bus) (us : List Use) → Agree us p.facts → HoldsI2 params p b → Quiet params.profile us → Quiet params.profile (with_start p.cycle p.last b us)
quiet_start params p b us a i q = go (b.issue_valid && not (continues p.last us b)) (ap (λ c. b.issue_valid && not c) (continues_same p b us a))
  where
    go : (t : Bool) → t ≡ is_start p b → Quiet params.profile (if t then record { key = issue_key b; fact = new_fact p.cycle b.issue_instr } ∷ us else us)
    go true s = (quiet_latest params.profile us (issue_key b) q ∙ ap (λ o. not (is_in_flight params.profile o)) (a (issue_key b)) ∙ ap not (i (sym s)), q)
    go false s = q

quiet_all : (params : Params) (s : List Bus) → EachCycle (HoldsI2 params) s → Quiet params.profile (uses_of s)
quiet_all params [] r = tt
quiet_all params (b ∷ s) r =
    let profile = params.profile in
    let p = past_of s in
    let us1 = with_start p.cycle p.last b (uses_of s) in
    let q1 : Quiet profile us1 = quiet_start params p b (uses_of s) (λ k. whole s k) r.0 (quiet_all params s r.1) in
    let q2 = quiet_if profile (is_issued b) (issue_key b) (with_response true (response_on b)) us1 q1 in
    let q3 = quiet_if profile (is_given b) (register_key b) (with_operands true b.register_rs_valid) (with_answer b us1) q2 in
    let q4 = quiet_decide profile b (effective_in b us1) (with_registers b (with_answer b us1)) q3 in
    let q5 : Quiet profile (uses_after p.cycle p.last b (uses_of s)) = quiet_if profile (is_taken b) (result_key b) (with_end true) (with_commit b (effective_in b us1) (with_registers b (with_answer b us1))) q4 in
    subst (λ n. Quiet profile (uses_after n (last_bus s) b (uses_of s))) (cycle_is s) (subst (λ a. Quiet profile (uses_after p.cycle a b (uses_of s))) (last_is s) q5)

-- so one use a key is enough: no use of the key is in flight if and only if the latest one isn't
pub one_use : (params : Params) (s : List Bus) → EachCycle (HoldsI2 params) s → (k : Key) → none_in_flight params.profile (uses_of s) k ≡ not (is_in_flight params.profile ((past_of s).facts k))
one_use params s r k = quiet_latest params.profile (uses_of s) k (quiet_all params s r) ∙ ap (λ o. not (is_in_flight params.profile o)) (whole s k)
