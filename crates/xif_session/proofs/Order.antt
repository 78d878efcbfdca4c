-- If I2 of profile 2 and R3 held so far, a use that was answered and is undecided is the latest of its key.
use Rattle.std.proofs.Common.{◌≡◌, ◌<◌, ◌≤◌, ◌^◌, ◌==◌, ◌&&◌, ◌||◌, not, ℕ, Bool, true, false, if◌then◌else◌, Option, Some, None, List, [], ◌∷◌, map, length, refl, sym, ap, ◌∙◌, subst}
use Rattle.std.specs.Prelude.{◌↔◌, IsTrue, IsSomeAnd, is_some}
use Rattle.xif_base.specs.declared.params.Key.{Key}
use Rattle.xif_base.specs.declared.params.Params.{Params}
use Rattle.xif_signals.specs.declared.bus.Bus.{Bus}
use Rattle.xif_session.specs.declared.fact.Response.{Response}
use Rattle.xif_session.specs.declared.fact.Fact.{Fact}
use Rattle.xif_session.specs.declared.fact.Decision.{Decision}
use Rattle.xif_session.specs.declared.fact.Decision.TheVariants.{Undecided, Released, Killed}
use Rattle.xif_session.specs.Facts.{Past, past_of, same_key, issue_key, register_key, result_key, is_issued, is_given, is_taken, is_undecided, is_killed, is_released, is_accepted, is_refused, is_pending, is_in_flight, is_start, named, now, new_fact, response_on, with_response, with_operands, with_end, decision_after, is_covered}
use Rattle.xif_session.specs.Rules.{HoldsI2, HoldsR3, MayFinish, NoneBefore}
use Rattle.xif_session.specs.Legal.{EachCycle}
use Rattle.xif_session.specs.Uses.{Use, latest, last_bus, continues, with_start, change_latest, with_answer, with_registers, decide_use, with_commit, effective_in, uses_after, uses_of, uses_with, NoneOlder}
use Rattle.xif_session.proofs.Options.{both-true, key_is, key_same, same_key-sym, no_true}
use Rattle.xif_session.proofs.Whole.{Agree, cycle_is, last_is, continues_same, named_agree, agree_now, whole}

-- what is finished is decided
abbrev Done : Fact → Type 0
Done fact = fact.finished ≡ true → is_undecided fact.decision ≡ false

-- no use of a key waits for its decision
abbrev NonePending : List Use → Key → Type 0
NonePending [] key = Unit {0}
NonePending (u ∷ us) key = (same_key u.key key ≡ true → is_pending (Some u.fact) ≡ false) × NonePending us key

-- of each use, what is finished is decided, and no older use of its key waits for its decision
abbrev Settled : List Use → Type 0
Settled [] = Unit {0}
Settled (u ∷ us) = Done u.fact × NonePending us u.key × Settled us

-- the latest of a key speaks for the older ones
none_of : (us : List Use) (key : Key) → Settled us → is_pending (latest us key) ≡ false → NonePending us key
none_of [] key f p = tt
none_of (u ∷ us) key f p = go (same_key u.key key) refl p (λ q. none_of us key f.2 q)
  where
    go : (t : Bool) → same_key u.key key ≡ t → is_pending (if t then Some u.fact else latest us key) ≡ false → (is_pending (latest us key) ≡ false → NonePending us key)
        → (same_key u.key key ≡ true → is_pending (Some u.fact) ≡ false) × NonePending us key
    go true k p r = (λ _. p, subst (NonePending us) (key_is u.key key k) f.1)
    go false k p r = (λ q. no_true (same_key u.key key) q k, r p)

latest_done : (us : List Use) (key : Key) (x : Fact) → Settled us → latest us key ≡ Some x → Done x
latest_done [] key x n q = absurd (cc)
latest_done (u ∷ us) key x n q = go (same_key u.key key) q (λ k. latest_done us key x n.2 k)
  where
    same : (a b : Fact) → Some a ≡ Some b → Done a → Done b
    same a b e d = let e' : a ≡ b = cc in subst Done e' d

    go : (t : Bool) → (if t then Some u.fact else latest us key) ≡ Some x → (latest us key ≡ Some x → Done x) → Done x
    go true k r = same u.fact x k n.0
    go false k r = r k

-- what isn't in flight, and is decided if it is finished, doesn't wait
quiet : (o : Option Fact) → ((x : Fact) → o ≡ Some x → Done x) → is_in_flight 2 o ≡ false → is_pending o ≡ false
quiet None d h = refl
quiet (Some x) d h = by_response x.response x.decision x.finished (d x refl) h
  where
    by_accept : (a : Bool) (d : Decision) (n : Bool) → (n ≡ true → is_undecided d ≡ false) → ((a && not (is_killed d || n)) || ((not a && is_undecided d) && true)) ≡ false → is_undecided d ≡ false
    by_accept a Released n k h = refl
    by_accept a Killed n k h = refl
    by_accept true Undecided true k h = k refl
    by_accept true Undecided false k h = absurd (cc)
    by_accept false Undecided n k h = absurd (cc)

    by_response : (r : Option Response) (d : Decision) (n : Bool) → (n ≡ true → is_undecided d ≡ false) → ((is_accepted r && not (is_killed d || n)) || ((is_refused r && is_undecided d) && true)) ≡ false
        → (is_some r && is_undecided d) ≡ false
    by_response None d n k h = refl
    by_response (Some r) d n k h = by_accept r.accept d n k h

-- ---- a change of the latest use of a key

none_change : (key : Key) (f : Fact → Fact) (us : List Use) (k : Key) → same_key key k ≡ false → NonePending us k → NonePending (change_latest key f us) k
none_change key f [] k n o = tt
none_change key f (u ∷ us) k n o = go (same_key u.key key) refl (none_change key f us k n o.1)
  where
    go : (t : Bool) → same_key u.key key ≡ t → NonePending (change_latest key f us) k → NonePending (if t then record u { fact = f u.fact } ∷ us else (u ∷ change_latest key f us)) k
    go true q r = (λ x. no_true (same_key key k) (key_same key k (sym (key_is u.key key q) ∙ key_is u.key k x)) n, o.1)
    go false q r = (o.0, r)

settled_change : (key : Key) (f : Fact → Fact) (us : List Use) → ((x : Fact) → latest us key ≡ Some x → Done x → Done (f x)) → Settled us → Settled (change_latest key f us)
settled_change key f [] d n = tt
settled_change key f (u ∷ us) d n = go (same_key u.key key) refl (λ k. settled_change key f us k n.2)
  where
    go : (t : Bool) → same_key u.key key ≡ t → (((x : Fact) → latest us key ≡ Some x → Done x → Done (f x)) → Settled (change_latest key f us))
        → Settled (if t then record u { fact = f u.fact } ∷ us else (u ∷ change_latest key f us))
    go true q r = (d u.fact (ap (λ t. if t then Some u.fact else latest us key) q) n.0, n.1, n.2)
    go false q r = (n.0, none_change key f us u.key (same_key-sym key u.key ∙ q) n.1, r (λ x e. d x (ap (λ t. if t then Some u.fact else latest us key) q ∙ e)))

settled_if : (t : Bool) (key : Key) (f : Fact → Fact) (us : List Use) → (t ≡ true → (x : Fact) → latest us key ≡ Some x → Done x → Done (f x)) → Settled us
    → Settled (if t then change_latest key f us else us)
settled_if true key f us d n = settled_change key f us (d refl) n
settled_if false key f us d n = n

-- ---- a decision

less : (t kill : Bool) (d : Decision) → is_undecided d ≡ false → is_undecided (decision_after t kill d) ≡ false
less t kill Undecided h = absurd (cc)
less true kill Released h = refl
less false kill Released h = refl
less true kill Killed h = refl
less false kill Killed h = refl

less_pending : (a t kill : Bool) (d : Decision) → (a && is_undecided d) ≡ false → (a && is_undecided (decision_after t kill d)) ≡ false
less_pending false t kill d h = refl
less_pending true t kill d h = less t kill d h

none_decide : (b : Bus) (start : ℕ) (us : List Use) (key : Key) → NonePending us key → NonePending (map (decide_use b start) us) key
none_decide b start [] key n = tt
none_decide b start (u ∷ us) key n = (
  λ k. less_pending (is_some u.fact.response) ((b.commit_hartid == u.key.hart) && is_covered b.commit_kill start u.fact.start) b.commit_kill u.fact.decision (n.0 k),
  none_decide b start us key n.1,
)

settled_decide : (b : Bus) (o : Option ℕ) (us : List Use) → Settled us → Settled (with_commit b o us)
settled_decide b None us n = n
settled_decide b (Some start) us n = go us n
  where
    go : (us : List Use) → Settled us → Settled (map (decide_use b start) us)
    go [] n = tt
    go (u ∷ us) n = (
      λ k. less ((b.commit_hartid == u.key.hart) && is_covered b.commit_kill start u.fact.start) b.commit_kill u.fact.decision (n.0 k),
      none_decide b start us u.key n.1,
      go us n.2,
    )

-- ---- a start

settled_start : (params : Params) (p : Past) (b : Bus) (us : List Use) → params.profile ≡ 2 → Agree us p.facts → HoldsI2 params p b → Settled us
    → Settled (with_start p.cycle p.last b us)
settled_start params p b us two a i n = go (b.issue_valid && not (continues p.last us b)) (ap (λ c. b.issue_valid && not c) (continues_same p b us a))
  where
    free : IsTrue (is_start p b) → is_in_flight 2 (latest us (issue_key b)) ≡ false
    free s = ap (is_in_flight 2) (a (issue_key b)) ∙ ap (λ n. is_in_flight n (p.facts (issue_key b))) (sym two) ∙ i s

    go : (t : Bool) → t ≡ is_start p b → Settled (if t then record { key = issue_key b; fact = new_fact p.cycle b.issue_instr } ∷ us else us)
    go true q = (
      λ k. absurd (cc),
      none_of us (issue_key b) n (quiet (latest us (issue_key b)) (λ x e. latest_done us (issue_key b) x n e) (free (sym q))),
      n,
    )
    go false q = n

-- what has a result is decided
decided : (o : Option Fact) (x : Fact) → o ≡ Some x → IsSomeAnd o MayFinish → is_undecided x.decision ≡ false
decided None x q m = absurd (cc)
decided (Some y) x q m = let e : y ≡ x = cc in ap (λ z. is_undecided z.decision) (sym e) ∙ go y.decision m.released
  where
    go : (d : Decision) → IsTrue (is_released d) → is_undecided d ≡ false
    go Undecided h = absurd (cc)
    go Released h = refl
    go Killed h = refl

pub settled_all : (params : Params) (s : List Bus) → params.profile ≡ 2 → EachCycle (HoldsI2 params) s → EachCycle HoldsR3 s → Settled (uses_of s)
settled_all params [] two r t = tt
settled_all params (b ∷ s) two r t =
    let p = past_of s in
    let us1 = with_start p.cycle p.last b (uses_of s) in
    let q1 : Settled us1 = settled_start params p b (uses_of s) two (λ k. whole s k) r.0 (settled_all params s two r.1 t.1) in
    let us2 = with_answer b us1 in
    let q2 : Settled us2 = settled_if (is_issued b) (issue_key b) (with_response true (response_on b)) us1 (λ _ x _ d. d) q1 in
    let us3 = with_registers b us2 in
    let q3 : Settled us3 = settled_if (is_given b) (register_key b) (with_operands true b.register_rs_valid) us2 (λ _ x _ d. d) q2 in
    let us4 = with_commit b (effective_in b us1) us3 in
    let q4 : Settled us4 = settled_decide b (effective_in b us1) us3 q3 in
    let q5 : Settled (uses_after p.cycle p.last b (uses_of s)) =
    settled_if (is_taken b) (result_key b) (with_end true) us4
    (λ v x e d _. decided (now p b (result_key b)) x (sym (agree_now p b (uses_of s) (λ k. whole s k) (result_key b)) ∙ e) (t.0 (both-true b.result_valid b.result_ready v).0)) q4 in
    subst (λ n. Settled (uses_after n (last_bus s) b (uses_of s))) (cycle_is s) (subst (λ a. Settled (uses_after p.cycle a b (uses_of s))) (last_is s) q5)

-- ---- so the latest use of each key is enough for the order of kills too

same_fact : (x y : Fact) (n : ℕ) → Some x ≡ Some y → n ≤ x.start → n ≤ y.start
same_fact x y n q h = let e : x ≡ y = cc in subst (λ z. n ≤ z.start) e h

abbrev key_of : (hart id : ℕ) → Key
key_of hart id = record { hart = hart; id = id }

to_latest : (params : Params) (us : List Use) (hart n : ℕ) → NoneOlder params us hart n → (id : ℕ) (x : Fact) → id < 2 ^ params.id_width → latest us (key_of hart id) ≡ Some x
    → IsTrue (is_pending (Some x)) → n ≤ x.start
to_latest params [] hart n o id x w q k = absurd (cc)
to_latest params (u ∷ us) hart n o id x w q k = go (same_key u.key (key_of hart id)) refl q (λ z. to_latest params us hart n o.1 id x w z k)
  where
    go : (t : Bool) → same_key u.key (key_of hart id) ≡ t → (if t then Some u.fact else latest us (key_of hart id)) ≡ Some x → (latest us (key_of hart id) ≡ Some x → n ≤ x.start) → n ≤ x.start
    go true y z r =
        let key = key_is u.key (key_of hart id) y in
        same_fact u.fact x n z (o.0 (ap (λ (k : Key). k.hart) key) (subst (λ (k : Key). k.id < 2 ^ params.id_width) (sym key) w) (ap is_pending z ∙ k))
    go false y z r = r z

none_latest : (us : List Use) (key : Key) (x : Fact) → NonePending us key → latest us key ≡ Some x → is_pending (Some x) ≡ false
none_latest [] key x n q = absurd (cc)
none_latest (u ∷ us) key x n q = go (same_key u.key key) refl q (λ z. none_latest us key x n.1 z)
  where
    go : (t : Bool) → same_key u.key key ≡ t → (if t then Some u.fact else latest us key) ≡ Some x → (latest us key ≡ Some x → is_pending (Some x) ≡ false) → is_pending (Some x) ≡ false
    go true y z r = sym (ap is_pending z) ∙ n.0 y
    go false y z r = r z

abbrev LatestAfter : Params → List Use → (hart n : ℕ) → Type 0
LatestAfter params us hart n = (id : ℕ) (x : Fact) → id < 2 ^ params.id_width → latest us (key_of hart id) ≡ Some x → IsTrue (is_pending (Some x)) → n ≤ x.start

to_list : (params : Params) (us : List Use) (hart n : ℕ) → Settled us → LatestAfter params us hart n → NoneOlder params us hart n
to_list params [] hart n w g = tt
to_list params (u ∷ us) hart n w g = (
  λ q l k. g u.key.id u.fact l (ap (λ t. if t then Some u.fact else latest us (key_of hart u.key.id)) (key_same u.key (key_of hart u.key.id) (λ i. record { hart = q i; id = u.key.id }))) k,
  to_list params us hart n w.2 (λ id x l e k. by_key id x (same_key u.key (key_of hart id)) refl l e k),
)
  where
    by_key : (id : ℕ) (x : Fact) (t : Bool) → same_key u.key (key_of hart id) ≡ t → id < 2 ^ params.id_width → latest us (key_of hart id) ≡ Some x → IsTrue (is_pending (Some x)) → n ≤ x.start
    by_key id x true y l e k = no_true (is_pending (Some x)) k (none_latest us (key_of hart id) x (subst (NonePending us) (key_is u.key (key_of hart id) y) w.1) e)
    by_key id x false y l e k = g id x l (ap (λ t. if t then Some u.fact else latest us (key_of hart id)) y ∙ e) k

pub order_by_latest : (params : Params) (s : List Bus) (b : Bus) → params.profile ≡ 2 → EachCycle (HoldsI2 params) (b ∷ s) → EachCycle HoldsR3 s → (hart n : ℕ)
    → NoneOlder params (uses_with s b) hart n ↔ NoneBefore params (named (past_of s) b) hart n
order_by_latest params s b two r t hart n = (
  λ o id x l q k. to_latest params (uses_with s b) hart n o id x l (agree (key_of hart id) ∙ q) k,
  λ o. to_list params (uses_with s b) hart n settled (λ id x l q k. o id x l (sym (agree (key_of hart id)) ∙ q) k),
)
  where
    agree : Agree (uses_with s b) (named (past_of s) b)
    agree =
        subst (λ c. Agree (with_start c (last_bus s) b (uses_of s)) (named (past_of s) b)) (cycle_is s)
        (subst (λ a. Agree (with_start (past_of s).cycle a b (uses_of s)) (named (past_of s) b)) (last_is s) (named_agree (past_of s) b (uses_of s) (λ k. whole s k)))

    settled : Settled (uses_with s b)
    settled =
        subst (λ c. Settled (with_start c (last_bus s) b (uses_of s))) (cycle_is s)
        (subst (λ a. Settled (with_start (past_of s).cycle a b (uses_of s))) (last_is s) (settled_start params (past_of s) b (uses_of s) two (λ k. whole s k) r.0 (settled_all params s two r.1 t)))
