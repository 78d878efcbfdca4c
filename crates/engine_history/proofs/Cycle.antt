-- What a cycle of an orderly core tells of the uses.
use Rattle.std.proofs.Common.{if◌then◌else◌, ◌≡◌, inl, inr, ◌+◌, ◌==◌, ◌<◌, ◌≤◌, ◌&&◌, not, ℕ, Bool, true, false, Option, Some, None, IfSome, List, [], ◌∷◌, map, refl, sym, ap, ap₂, ◌∙◌, subst, arith}
use Rattle.std.specs.Prelude.{is_none, is_some, nat_le}
use Rattle.std.specs.Option.{option_map, option_map_or}
use Rattle.std.proofs.lemmas.Bool.{eqb-true, eq-eqb}
use Rattle.std.proofs.lemmas.Bool.Decides.{nat_tests}
use Rattle.xif_base.specs.declared.params.Key.{Key}
use Rattle.xif_signals.specs.declared.bus.Bus.{Bus}
use Rattle.xif_session.specs.Facts.{same_key, issue_key, register_key, commit_key, result_key, is_issued, is_given, is_taken, is_covered}
use Rattle.xif_session.proofs.Options.{both-true, and-true}
use Rattle.engine_history.specs.Lives.{Life, Answer, Operands, Verdict, is_released, latest, start_of, change_if, at_start, answer_on, accepted_in, answered, operands_on, given, is_in_group, decided_by, decided, finished, changed}
use Rattle.engine_history.proofs.Keep.{Rising, HeadWaits, head_start, older_same, latest_map, answered_is, rising_changed, given_is}
use Rattle.engine_history.proofs.Grown.{Comes, Grew, Old, Each2, Grown}
use Rattle.engine_history.proofs.Ready.{Decided, Grouped, IsBy, AllBy}

-- ---- one after another

come_on : {A : Type 0} (when : A → ℕ) (cycle : ℕ) (a b c : Option A) → Comes when cycle a b → Comes when cycle b c → Comes when cycle a c
come_on when cycle a b c (inl p) (inl q) = inl (q ∙ p)
come_on when cycle a b c (inl p) (inr q) = inr (sym p ∙ q.0, q.1)
come_on when cycle a b c (inr p) (inl q) = inr (p.0, ap (option_map when) q ∙ p.1)
come_on when cycle a b c (inr p) (inr q) = absurd (let z : None ≡ Some cycle = sym (ap (option_map when) q.0) ∙ p.1 in cc)

grew_same : (cycle : ℕ) (l : Life) → Grew cycle l l
grew_same cycle l = record { key = refl; start = refl; answer = inl refl; operands = inl refl; verdict = inl refl }

grew_on : (cycle : ℕ) (a b c : Life) → Grew cycle a b → Grew cycle b c → Grew cycle a c
grew_on cycle a b c p q = record {
  key = q.key ∙ p.key;
  start = q.start ∙ p.start;
  answer = come_on (λ (a : Answer). a.cycle) cycle a.answer b.answer c.answer p.answer q.answer;
  operands = come_on (λ (o : Operands). o.cycle) cycle a.operands b.operands c.operands p.operands q.operands;
  verdict = come_on (λ (v : Verdict). v.cycle) cycle a.verdict b.verdict c.verdict p.verdict q.verdict;
}

old_same : (cycle : ℕ) (l : Life) → Old cycle l l
old_same cycle l = record { grew = grew_same cycle l; same = refl }

olds_same : (cycle : ℕ) (ls : List Life) → Each2 (Old cycle) ls ls
olds_same cycle [] = tt
olds_same cycle (l ∷ ls) = (old_same cycle l, olds_same cycle ls)

olds_on : (cycle : ℕ) (xs ys zs : List Life) → Each2 (Old cycle) xs ys → Each2 (Old cycle) ys zs → Each2 (Old cycle) xs zs
olds_on cycle [] [] [] p q = tt
olds_on cycle [] [] (c ∷ zs) p q = q
olds_on cycle [] (b ∷ ys) zs p q = absurd p
olds_on cycle (a ∷ xs) [] zs p q = absurd p
olds_on cycle (a ∷ xs) (b ∷ ys) [] p q = q
olds_on cycle (a ∷ xs) (b ∷ ys) (c ∷ zs) p q = (record { grew = grew_on cycle a b c p.0.grew q.0.grew; same = q.0.same ∙ p.0.same }, olds_on cycle xs ys zs p.1 q.1)

grown_on : (cycle : ℕ) (xs ys zs : List Life) → Grown cycle xs ys → Each2 (Old cycle) ys zs → Grown cycle xs zs
grown_on cycle [] [] [] p q = tt
grown_on cycle [] [] (c ∷ zs) p q = q
grown_on cycle [] (b ∷ ys) zs p q = absurd p
grown_on cycle (a ∷ xs) [] zs p q = absurd p
grown_on cycle (a ∷ xs) (b ∷ ys) [] p q = q
grown_on cycle (a ∷ xs) (b ∷ ys) (c ∷ zs) p q = (grew_on cycle a b c p.0 q.0.grew, olds_on cycle xs ys zs p.1 q.1)

olds_map : (cycle : ℕ) (f : Life → Life) → ((l : Life) → Old cycle l (f l)) → (ls : List Life) → Each2 (Old cycle) ls (map f ls)
olds_map cycle f h [] = tt
olds_map cycle f h (l ∷ ls) = (h l, olds_map cycle f h ls)

grown_same : (cycle : ℕ) (ls : List Life) → Grown cycle ls ls
grown_same cycle [] = tt
grown_same cycle (l ∷ ls) = (grew_same cycle l, olds_same cycle ls)

-- ---- the steps

answered_grown : (cycle bound : ℕ) (b : Bus) (ls : List Life) → Rising bound ls → (b.issue_valid ≡ true → HeadWaits (issue_key b) ls) → Grown cycle ls (answered cycle b ls)
answered_grown cycle bound b ls r h = go (is_issued b) refl ls r h
  where
    f : ℕ → Life → Life
    f k l = record l { answer = Some (answer_on cycle k b) }

    valid : (v y : Bool) → (v && y) ≡ true → v ≡ true
    valid true y h = refl
    valid false y h = cc

    go : (t : Bool) → is_issued b ≡ t → (ls : List Life) → Rising bound ls → (b.issue_valid ≡ true → HeadWaits (issue_key b) ls) → Grown cycle ls (if t then at_start (start_of (issue_key b) ls) (f (accepted_in ls)) ls else ls)
    go true q [] r h = absurd (h (valid b.issue_valid b.issue_ready q))
    go true q (l ∷ older) r h =
        let w = h (valid b.issue_valid b.issue_ready q) in
        let k = accepted_in (l ∷ older) in
        subst (Grown cycle (l ∷ older))
        (sym (ap (λ o. at_start o (f k) (l ∷ older)) (head_start (issue_key b) l older w.0) ∙ ap₂ (λ t xs. change_if t (f k) l ∷ xs) (eq-eqb l.start l.start refl) (older_same l.start (f k) older r.1)))
        (record { key = refl; start = refl; answer = inr (w.1, refl); operands = inl refl; verdict = inl refl }, olds_same cycle older)
    go false q ls r h = grown_same cycle ls

-- what holds of the use that a key names holds of each with its start
Found : (Life → Type 0) → ℕ → List Life → Type 0
Found P start [] = Unit {0}
Found P start (l ∷ ls) = (l.start ≡ start → P l) × Found P start ls

below : (P : Life → Type 0) (start bound : ℕ) (ls : List Life) → bound ≤ start → Rising bound ls → Found P start ls
unfolding Found
below P start bound [] h r = tt
below P start bound (l ∷ ls) h r = (λ q. absurd (let k = r.0 in omega (arith, h, k, q)), below P start l.start ls (let k = r.0 in omega (arith, h, k)) r.1)

pub latest_below : (key : Key) (bound : ℕ) (ls : List Life) (x : Life) → Rising bound ls → latest key ls ≡ Some x → x.start < bound
latest_below key bound [] x r q = absurd (cc)
latest_below key bound (l ∷ ls) x r q = go (same_key l.key key) q (λ k. latest_below key l.start ls x r.1 k)
  where
    some_is : (a b : Life) → Some a ≡ Some b → a ≡ b
    some_is a b h = cc

    go : (t : Bool) → (if t then Some l else latest key ls) ≡ Some x → (latest key ls ≡ Some x → x.start < l.start) → x.start < bound
    go true q ih = subst (λ (y : Life). y.start < bound) (some_is l x q) r.0
    go false q ih = let i = ih q in let k = r.0 in omega (arith, i, k)

found_all : (P : Life → Type 0) (key : Key) (bound : ℕ) (ls : List Life) (x : Life) → Rising bound ls → latest key ls ≡ Some x → P x → Found P x.start ls
unfolding Found
found_all P key bound [] x r q p = tt
found_all P key bound (l ∷ ls) x r q p = go (same_key l.key key) q (λ k. found_all P key l.start ls x r.1 k p)
  where
    some_is : (a b : Life) → Some a ≡ Some b → a ≡ b
    some_is a b h = cc

    go : (t : Bool) → (if t then Some l else latest key ls) ≡ Some x → (latest key ls ≡ Some x → Found P x.start ls) → (l.start ≡ x.start → P l) × Found P x.start ls
    go true q ih = let e : x ≡ l = some_is x l (sym q) in (λ k. subst P e p, below P x.start l.start ls (let s : x.start ≡ l.start = ap (λ (y : Life). y.start) e in omega (arith, s)) r.1)
    go false q ih = (λ k. absurd (let b = latest_below key l.start ls x r.1 q in omega (arith, b, k)), ih q)

given_old : (cycle bound : ℕ) (b : Bus) (ls : List Life) → Rising bound ls → (is_given b ≡ true → option_map_or (λ (l : Life). is_some l.operands) (latest (register_key b) ls) false ≡ false) → Each2 (Old cycle) ls (given cycle b ls)
unfolding Found
given_old cycle bound b ls r h = go (is_given b) refl (latest (register_key b) ls) refl
  where
    f : Life → Life
    f l = record l { operands = Some (operands_on cycle b) }

    none : {A : Type 0} (o : Option A) → is_some o ≡ false → o ≡ None
    none None h = refl
    none (Some x) h = cc

    one : (t : Bool) (l : Life) → (t ≡ true → l.operands ≡ None) → Old cycle l (change_if t f l)
    one true l p = record { grew = record { key = refl; start = refl; answer = inl refl; operands = inr (p refl, refl); verdict = inl refl }; same = refl }
    one false l p = old_same cycle l

    each : (s : ℕ) (ls : List Life) → Found (λ l. l.operands ≡ None) s ls → Each2 (Old cycle) ls (map (λ l. change_if (l.start == s) f l) ls)
    each s [] p = tt
    each s (l ∷ ls) p = (one (l.start == s) l (λ q. p.0 (eqb-true l.start s q)), each s ls p.1)

    go : (t : Bool) → is_given b ≡ t → (o : Option Life) → latest (register_key b) ls ≡ o → Each2 (Old cycle) ls (if t then at_start (option_map (λ (l : Life). l.start) o) f ls else ls)
    go true g None q = olds_same cycle ls
    go true g (Some x) q = each x.start ls (found_all (λ l. l.operands ≡ None) (register_key b) bound ls x r q (none x.operands (sym (ap (λ o. option_map_or (λ (l : Life). is_some l.operands) o false) q) ∙ h g)))
    go false g o q = olds_same cycle ls

decided_old : (cycle : ℕ) (b : Bus) (ls : List Life) → Each2 (Old cycle) ls (decided cycle b ls)
decided_old cycle b ls = go b.commit_valid (latest (commit_key b) ls)
  where
    f : Life → Life
    f l = record l { verdict = Some (record { cycle = cycle; kill = b.commit_kill }) }

    one : (t : Bool) (v : Option Verdict) (l : Life) → v ≡ l.verdict → Old cycle l (change_if (is_none v && t) f l)
    one true None l q = record { grew = record { key = refl; start = refl; answer = inl refl; operands = inl refl; verdict = inr (sym q, refl) }; same = refl }
    one false None l q = old_same cycle l
    one t (Some v) l q = old_same cycle l

    in_group : (named : Life) (t : Bool) → Each2 (Old cycle) ls (if t then map (λ l. change_if (is_in_group b.commit_kill named l) f l) ls else ls)
    in_group named true = olds_map cycle (λ l. change_if (is_in_group b.commit_kill named l) f l) (λ l. one ((l.key.hart == named.key.hart) && is_covered b.commit_kill named.start l.start) l.verdict l refl) ls
    in_group named false = olds_same cycle ls

    go : (t : Bool) (o : Option Life) → Each2 (Old cycle) ls (if t then decided_by cycle b.commit_kill o ls else ls)
    go true None = olds_same cycle ls
    go true (Some named) = in_group named (is_none named.verdict)
    go false o = olds_same cycle ls

finished_old : (cycle : ℕ) (b : Bus) (ls : List Life) → Each2 (Old cycle) ls (finished cycle b ls)
finished_old cycle b ls = go (is_taken b) (start_of (result_key b) ls)
  where
    f : Life → Life
    f l = record l { finish = Some cycle }

    one : (t : Bool) (l : Life) → Old cycle l (change_if t f l)
    one true l = record { grew = record { key = refl; start = refl; answer = inl refl; operands = inl refl; verdict = inl refl }; same = refl }
    one false l = old_same cycle l

    go : (t : Bool) (o : Option ℕ) → Each2 (Old cycle) ls (if t then at_start o f ls else ls)
    go true None = olds_same cycle ls
    go true (Some s) = olds_map cycle (λ l. change_if (l.start == s) f l) (λ l. one (l.start == s) l) ls
    go false o = olds_same cycle ls

-- ---- all of them

-- the answer leaves the operands as they are
operands_kept : (cycle : ℕ) (b : Bus) (key : Key) (ls : List Life) → option_map_or (λ (l : Life). is_some l.operands) (latest key (answered cycle b ls)) false ≡ option_map_or (λ (l : Life). is_some l.operands) (latest key ls) false
operands_kept cycle b key ls = go (is_issued b) (start_of (issue_key b) ls)
  where
    f : Life → Life
    f l = record l { answer = Some (answer_on cycle (accepted_in ls) b) }

    on_key : (t : Bool) (l : Life) → (change_if t f l).key ≡ l.key
    on_key true l = refl
    on_key false l = refl

    on_start : (t : Bool) (l : Life) → (change_if t f l).start ≡ l.start
    on_start true l = refl
    on_start false l = refl

    on_word : (t : Bool) (l : Life) → (change_if t f l).word ≡ l.word
    on_word true l = refl
    on_word false l = refl

    on : (t : Bool) (l : Life) → is_some (change_if t f l).operands ≡ is_some l.operands
    on true l = refl
    on false l = refl

    mapped : (s : ℕ) (o : Option Life) → option_map_or (λ (l : Life). is_some l.operands) (option_map (λ l. change_if (l.start == s) f l) o) false ≡ option_map_or (λ (l : Life). is_some l.operands) o false
    mapped s None = refl
    mapped s (Some l) = on (l.start == s) l

    go : (t : Bool) (o : Option ℕ) → option_map_or (λ (l : Life). is_some l.operands) (latest key (if t then at_start o f ls else ls)) false ≡ option_map_or (λ (l : Life). is_some l.operands) (latest key ls) false
    go true None = refl
    go true (Some s) =
        ap (λ o. option_map_or (λ (l : Life). is_some l.operands) o false) (latest_map (λ l. change_if (l.start == s) f l) (record { key = λ l. on_key (l.start == s) l; start = λ l. on_start (l.start == s) l; word = λ l. on_word (l.start == s) l }) key ls)
        ∙ mapped s (latest key ls)
    go false o = refl

pub changed_grown : (cycle bound : ℕ) (b : Bus) (ls : List Life) → Rising bound ls → (b.issue_valid ≡ true → HeadWaits (issue_key b) ls) → (is_given b ≡ true → option_map_or (λ (l : Life). is_some l.operands) (latest (register_key b) ls) false ≡ false)
    → Grown cycle ls (changed cycle b ls)
changed_grown cycle bound b ls r h once =
    let x = answered cycle b ls in
    let y = given cycle b x in
    let z = decided cycle b y in
    grown_on cycle ls z (finished cycle b z)
    (grown_on cycle ls y z
    (grown_on cycle ls x y (answered_grown cycle bound b ls r h)
    (given_old cycle bound b x (rising_changed bound ls x (answered_is cycle b ls) r) (λ g. operands_kept cycle b (register_key b) ls ∙ once g)))
    (decided_old cycle b y))
    (finished_old cycle b z)

-- ---- what was told is told by the cycle

pub come_by : {A : Type 0} (when : A → ℕ) (cycle : ℕ) (was now : Option A) → Comes when cycle was now → IfSome was (λ x. when x ≤ cycle) → IfSome now (λ x. when x ≤ cycle)
come_by when cycle was now (inl q) h = subst (λ o. IfSome o (λ x. when x ≤ cycle)) (sym q) h
come_by when cycle was None (inr q) h = tt
come_by when cycle was (Some x) (inr q) h = let e : when x ≡ cycle = some_is (when x) cycle q.1 in omega (arith, e)
  where
    some_is : (a b : ℕ) → Some a ≡ Some b → a ≡ b
    some_is a b h = cc

is_by : (cycle : ℕ) (l n : Life) → Grew cycle l n → IsBy cycle l → IsBy cycle n
is_by cycle l n g h = record {
  answer = come_by (λ (a : Answer). a.cycle) cycle l.answer n.answer g.answer h.answer;
  operands = come_by (λ (o : Operands). o.cycle) cycle l.operands n.operands g.operands h.operands;
  verdict = come_by (λ (v : Verdict). v.cycle) cycle l.verdict n.verdict g.verdict h.verdict;
}

olds_by : (cycle : ℕ) (ls now : List Life) → Each2 (Old cycle) ls now → AllBy cycle ls → AllBy cycle now
olds_by cycle [] [] e h = tt
olds_by cycle [] (n ∷ now) e h = absurd e
olds_by cycle (l ∷ ls) [] e h = absurd e
olds_by cycle (l ∷ ls) (n ∷ now) e h = (is_by cycle l n e.0.grew h.0, olds_by cycle ls now e.1 h.1)

pub grown_by : (cycle : ℕ) (ls now : List Life) → Grown cycle ls now → AllBy cycle ls → AllBy cycle now
grown_by cycle [] [] e h = tt
grown_by cycle [] (n ∷ now) e h = absurd e
grown_by cycle (l ∷ ls) [] e h = absurd e
grown_by cycle (l ∷ ls) (n ∷ now) e h = (is_by cycle l n e.0 h.0, olds_by cycle ls now e.1 h.1)

by_up : (cycle : ℕ) (l : Life) → IsBy cycle l → IsBy (cycle + 1) l
by_up cycle l h = record { answer = up (λ (a : Answer). a.cycle) l.answer h.answer; operands = up (λ (o : Operands). o.cycle) l.operands h.operands; verdict = up (λ (v : Verdict). v.cycle) l.verdict h.verdict }
  where
    up : {A : Type 0} (when : A → ℕ) (o : Option A) → IfSome o (λ x. when x ≤ cycle) → IfSome o (λ x. when x ≤ cycle + 1)
    up when None h = tt
    up when (Some x) h = omega (arith, h)

pub all_up : (cycle : ℕ) (ls : List Life) → AllBy cycle ls → AllBy (cycle + 1) ls
all_up cycle [] h = tt
all_up cycle (l ∷ ls) h = (by_up cycle l h.0, all_up cycle ls h.1)

-- ---- where a use is released, each older one of its hart is decided

-- a decision comes to uses of a hart from a start on, or up to it
decide_one : (cycle : ℕ) (kill : Bool) (named : Life) → Life → Life
decide_one cycle kill named l = change_if (is_in_group kill named l) (λ l. record l { verdict = Some (record { cycle = cycle; kill = kill }) }) l

decided_stays : (t : Bool) (f : Verdict) (l : Life) → is_some l.verdict ≡ true → is_some (change_if t (λ l. record l { verdict = Some f }) l).verdict ≡ true
decided_stays true f l h = refl
decided_stays false f l h = h

decided_key : (t : Bool) (f : Verdict) (l : Life) → (change_if t (λ l. record l { verdict = Some f }) l).key ≡ l.key
decided_key true f l = refl
decided_key false f l = refl

all_stay : (cycle : ℕ) (kill : Bool) (named : Life) (hart : ℕ) (ls : List Life) → Decided hart ls → Decided hart (map (decide_one cycle kill named) ls)
unfolding decide_one
all_stay cycle kill named hart [] h = tt
all_stay cycle kill named hart (l ∷ ls) h =
    (λ q. decided_stays (is_in_group kill named l) (record { cycle = cycle; kill = kill }) l (h.0 (ap (λ (k : Key). k.hart) (sym (decided_key (is_in_group kill named l) (record { cycle = cycle; kill = kill }) l)) ∙ q)), all_stay cycle kill named hart ls h.1)

-- a release decides all that started earlier
all_come : (cycle : ℕ) (named : Life) (bound : ℕ) (ls : List Life) → Rising bound ls → bound ≤ named.start → Decided named.key.hart (map (decide_one cycle false named) ls)
unfolding decide_one
all_come cycle named bound [] r h = tt
all_come cycle named bound (l ∷ ls) r h =
    (λ q. one l.verdict refl (hart q), all_come cycle named l.start ls r.1 (let k = r.0 in omega (arith, h, k)))
  where
    v : Verdict
    v = record { cycle = cycle; kill = false }

    hart : (change_if (is_in_group false named l) (λ l. record l { verdict = Some v }) l).key.hart ≡ named.key.hart → l.key.hart ≡ named.key.hart
    hart q = ap (λ (k : Key). k.hart) (sym (decided_key (is_in_group false named l) v l)) ∙ q

    covered : nat_le l.start named.start ≡ true
    covered = let k = r.0 in le l.start named.start (omega (arith, h, k))
      where
        le : (a b : ℕ) → a ≤ b → nat_le a b ≡ true
        le a b h = grind (arith, nat_tests)

    one : (o : Option Verdict) → l.verdict ≡ o → l.key.hart ≡ named.key.hart → is_some (change_if (is_in_group false named l) (λ l. record l { verdict = Some v }) l).verdict ≡ true
    one None q k =
        ap (λ t. is_some (change_if t (λ l. record l { verdict = Some v }) l).verdict)
        (and-true (is_none l.verdict) _ (ap is_none q) (and-true (l.key.hart == named.key.hart) _ (eq-eqb l.key.hart named.key.hart k) covered))
    one (Some x) q k = decided_stays (is_in_group false named l) v l (ap is_some q)

grouped_decided : (cycle : ℕ) (kill : Bool) (named : Life) (bound : ℕ) (ls : List Life) → Rising bound ls → Grouped ls → Grouped (map (decide_one cycle kill named) ls)
unfolding decide_one
grouped_decided cycle kill named bound [] r h = tt
grouped_decided cycle kill named bound (l ∷ ls) r h = (go (is_in_group kill named l) refl, grouped_decided cycle kill named l.start ls r.1 h.1)
  where
    go : (t : Bool) → is_in_group kill named l ≡ t → is_released (change_if t (λ l. record l { verdict = Some (record { cycle = cycle; kill = kill }) }) l) ≡ true
        → Decided (change_if t (λ l. record l { verdict = Some (record { cycle = cycle; kill = kill }) }) l).key.hart (map (decide_one cycle kill named) ls)
    go true q e =
        let kept : kill ≡ false = low kill e in
        let parts = both-true (l.key.hart == named.key.hart) _ (both-true (is_none l.verdict) _ q).1 in
        let hart : l.key.hart ≡ named.key.hart = eqb-true l.key.hart named.key.hart parts.0 in
        subst (λ h. Decided h (map (decide_one cycle kill named) ls)) (sym hart)
        (subst (λ k. Decided named.key.hart (map (decide_one cycle k named) ls)) (sym kept) (all_come cycle named l.start ls r.1 (cover kill kept parts.1)))
      where
        low : (k : Bool) → not k ≡ true → k ≡ false
        low true h = cc
        low false h = refl

        le_in : (a b : ℕ) → nat_le a b ≡ true → a ≤ b
        le_in a b h = grind (arith, nat_tests)

        cover : (k : Bool) → k ≡ false → is_covered k named.start l.start ≡ true → l.start ≤ named.start
        cover true z h = absurd (cc)
        cover false z h = le_in l.start named.start h
    go false q e = all_stay cycle kill named l.key.hart ls (h.0 e)

-- a change that leaves hart and decision
grouped_map : (f : Life → Life) → ((l : Life) → (f l).key ≡ l.key) → ((l : Life) → (f l).verdict ≡ l.verdict) → (ls : List Life) → Grouped ls → Grouped (map f ls)
grouped_map f k v [] h = tt
grouped_map f k v (l ∷ ls) h =
    (λ e. subst (λ (x : Key). Decided x.hart (map f ls)) (sym (k l)) (all ls l.key.hart (h.0 (ap (λ o. option_map_or (λ (v : Verdict). not v.kill) o false) (sym (v l)) ∙ e))), grouped_map f k v ls h.1)
  where
    all : (ls : List Life) (hart : ℕ) → Decided hart ls → Decided hart (map f ls)
    all [] hart d = tt
    all (l ∷ ls) hart d = (λ q. ap is_some (v l) ∙ d.0 (ap (λ (x : Key). x.hart) (sym (k l)) ∙ q), all ls hart d.1)

grouped_at : (o : Option ℕ) (f : Life → Life) → ((l : Life) → (f l).key ≡ l.key) → ((l : Life) → (f l).verdict ≡ l.verdict) → (ls : List Life) → Grouped ls → Grouped (at_start o f ls)
grouped_at None f k v ls h = h
grouped_at (Some s) f k v ls h = grouped_map (λ l. change_if (l.start == s) f l) (λ l. on_key (l.start == s) l) (λ l. on_verdict (l.start == s) l) ls h
  where
    on_key : (t : Bool) (l : Life) → (change_if t f l).key ≡ l.key
    on_key true l = k l
    on_key false l = refl

    on_verdict : (t : Bool) (l : Life) → (change_if t f l).verdict ≡ l.verdict
    on_verdict true l = v l
    on_verdict false l = refl

pub changed_grouped : (cycle bound : ℕ) (b : Bus) (ls : List Life) → Rising bound ls → Grouped ls → Grouped (changed cycle b ls)
unfolding decide_one
changed_grouped cycle bound b ls r h =
    ended (is_taken b) (start_of (result_key b) (decided cycle b y)) (decided cycle b y)
    (decide b.commit_valid (latest (commit_key b) y) (give (is_given b) (start_of (register_key b) x) x (answer (is_issued b) (start_of (issue_key b) ls))))
  where
    x : List Life
    x = answered cycle b ls

    y : List Life
    y = given cycle b x

    rises : Rising bound y
    rises = rising_changed bound x y (given_is cycle b x).changed (rising_changed bound ls x (answered_is cycle b ls) r)

    answer : (t : Bool) (o : Option ℕ) → Grouped (if t then at_start o (λ l. record l { answer = Some (answer_on cycle (accepted_in ls) b) }) ls else ls)
    answer true o = grouped_at o (λ l. record l { answer = Some (answer_on cycle (accepted_in ls) b) }) (λ l. refl) (λ l. refl) ls h
    answer false o = h

    give : (t : Bool) (o : Option ℕ) (xs : List Life) → Grouped xs → Grouped (if t then at_start o (λ l. record l { operands = Some (operands_on cycle b) }) xs else xs)
    give true o xs h = grouped_at o (λ l. record l { operands = Some (operands_on cycle b) }) (λ l. refl) (λ l. refl) xs h
    give false o xs h = h

    ended : (t : Bool) (o : Option ℕ) (xs : List Life) → Grouped xs → Grouped (if t then at_start o (λ l. record l { finish = Some cycle }) xs else xs)
    ended true o xs h = grouped_at o (λ l. record l { finish = Some cycle }) (λ l. refl) (λ l. refl) xs h
    ended false o xs h = h

    group : (named : Life) (t : Bool) → Grouped y → Grouped (if t then map (decide_one cycle b.commit_kill named) y else y)
    group named true h = grouped_decided cycle b.commit_kill named bound y rises h
    group named false h = h

    decide : (t : Bool) (o : Option Life) → Grouped y → Grouped (if t then decided_by cycle b.commit_kill o y else y)
    decide true None h = h
    decide true (Some named) h = group named (is_none named.verdict) h
    decide false o h = h
