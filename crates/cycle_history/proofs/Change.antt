-- What a cycle makes of each use, by one function.
use Rattle.std.proofs.Common.{◌≡◌, ◌⊎◌, inl, inr, ◌==◌, ◌&&◌, ◌++◌, not, if◌then◌else◌, ℕ, Bool, true, false, Option, Some, None, List, [], ◌∷◌, map, filter, refl, sym, ap, ◌∙◌, subst}
use Rattle.std.specs.Prelude.{is_some, is_none}
use Rattle.std.specs.Option.{option_map, option_map_or}
use Rattle.xif_base.specs.declared.params.Key.{Key}
use Rattle.xif_signals.specs.declared.bus.Bus.{Bus}
use Rattle.xif_session.specs.Facts.{same_key, issue_key, register_key, commit_key, result_key, is_issued, is_given, is_taken}
use Rattle.engine_history.specs.Lives.{Life, Answer, Operands, Verdict, is_accepted, latest, start_of, change_if, at_start, answer_on, accepted_in, answered, operands_on, given, is_in_group, decided_by, decided, changed}
use Rattle.cycle_lists.specs.Lists.{Each}
use Rattle.engine_history.proofs.Keep.{latest_map, answered_is, given_is, decided_is, start_changed}
use Rattle.engine_history.proofs.Grown.{Grew, Old, Each2, Grown, stays}

-- ---- a change of the use that a key names

abbrev pub one : Bool → Option ℕ → (Life → Life) → Life → Life
one false o change l = l
one true None change l = l
one true (Some s) change l = change_if (l.start == s) change l

one-keeps : {A : Type 0} (g : Life → A) (t : Bool) (o : Option ℕ) (change : Life → Life) (l : Life) → g (change l) ≡ g l → g (one t o change l) ≡ g l
one-keeps g false o change l h = refl
one-keeps g true None change l h = refl
one-keeps g true (Some s) change l h = go (l.start == s)
  where
    go : (t : Bool) → g (change_if t change l) ≡ g l
    go true = h
    go false = refl

map-itself : (ls : List Life) → map (λ l. l) ls ≡ ls
map-itself [] = refl
map-itself (l ∷ ls) = ap (λ x. l ∷ x) (map-itself ls)

map-on : (f g : Life → Life) (ls : List Life) → map g (map f ls) ≡ map (λ l. g (f l)) ls
map-on f g [] = refl
map-on f g (l ∷ ls) = ap (λ x. g (f l) ∷ x) (map-on f g ls)

one-map : (t : Bool) (o : Option ℕ) (change : Life → Life) (ls : List Life) → (if t then at_start o change ls else ls) ≡ map (one t o change) ls
one-map false o change ls = sym (map-itself ls)
one-map true None change ls = sym (map-itself ls)
one-map true (Some s) change ls = refl

-- ---- a commit

abbrev pub with_verdict : (cycle : ℕ) (kill : Bool) → Life → Life
with_verdict cycle kill l = record l { verdict = Some (record { cycle = cycle; kill = kill }) }

abbrev pub judged : Bool → (cycle : ℕ) (kill : Bool) → Option Life → Life → Life
judged false cycle kill o l = l
judged true cycle kill None l = l
judged true cycle kill (Some named) l = change_if (is_none named.verdict && is_in_group kill named l) (with_verdict cycle kill) l

judged-keeps : {A : Type 0} (g : Life → A) (t : Bool) (cycle : ℕ) (kill : Bool) (o : Option Life) (l : Life) → g (with_verdict cycle kill l) ≡ g l → g (judged t cycle kill o l) ≡ g l
judged-keeps g false cycle kill o l h = refl
judged-keeps g true cycle kill None l h = refl
judged-keeps g true cycle kill (Some named) l h = go (is_none named.verdict && is_in_group kill named l)
  where
    go : (t : Bool) → g (change_if t (with_verdict cycle kill) l) ≡ g l
    go true = h
    go false = refl

judged-map : (t : Bool) (cycle : ℕ) (kill : Bool) (o : Option Life) (ls : List Life) → (if t then decided_by cycle kill o ls else ls) ≡ map (judged t cycle kill o) ls
judged-map false cycle kill o ls = sym (map-itself ls)
judged-map true cycle kill None ls = sym (map-itself ls)
judged-map true cycle kill (Some named) ls = go (is_none named.verdict)
  where
    go : (t : Bool) → (if t then map (λ l. change_if (is_in_group kill named l) (λ l. record l { verdict = Some (record { cycle = cycle; kill = kill }) }) l) ls else ls)
        ≡ map (λ l. change_if (t && is_in_group kill named l) (with_verdict cycle kill) l) ls
    go true = refl
    go false = sym (map-itself ls)

-- the verdict that a commit gives is its own, and given to an undecided use
pub data Judged (t kill : Bool) (was now : Option Verdict) : Type 0 where
  Stays : now ≡ was → Judged t kill was now
  Comes : (v : Verdict) → was ≡ None → t ≡ true → v.kill ≡ kill → now ≡ Some v → Judged t kill was now

judged-verdict : (t : Bool) (cycle : ℕ) (kill : Bool) (o : Option Life) (l : Life) → Judged t kill l.verdict (judged t cycle kill o l).verdict
judged-verdict false cycle kill o l = Stays refl
judged-verdict true cycle kill None l = Stays refl
judged-verdict true cycle kill (Some named) l = go (is_none named.verdict) (is_none l.verdict) ((l.key.hart == named.key.hart) && Rattle.xif_session.specs.Facts.is_covered kill named.start l.start) refl
  where
    none : (o : Option Verdict) → is_none o ≡ true → o ≡ None
    none None h = refl
    none (Some v) h = cc

    go : (a b c : Bool) → is_none l.verdict ≡ b → Judged true kill l.verdict (change_if (a && (b && c)) (with_verdict cycle kill) l).verdict
    go true true true h = Comes (record { cycle = cycle; kill = kill }) (none l.verdict h) refl refl refl
    go true true false h = Stays refl
    go true false c h = Stays refl
    go false b c h = Stays refl

-- ---- a cycle

unfoldable pub with_answer : (cycle number : ℕ) → Bus → Life → Life
with_answer cycle number b l = record l { answer = Some (answer_on cycle number b) }

unfoldable pub with_lanes : (cycle : ℕ) → Bus → Life → Life
with_lanes cycle b l = record l { operands = Some (operands_on cycle b) }

unfoldable pub with_finish : (cycle : ℕ) → Life → Life
with_finish cycle l = record l { finish = Some cycle }

abbrev pub after_answer : (cycle : ℕ) → Bus → List Life → Life → Life
after_answer cycle b ls = one (is_issued b) (start_of (issue_key b) ls) (with_answer cycle (accepted_in ls) b)

abbrev pub after_lanes : (cycle : ℕ) → Bus → List Life → Life → Life
after_lanes cycle b ls l = one (is_given b) (start_of (register_key b) ls) (with_lanes cycle b) (after_answer cycle b ls l)

abbrev pub after_verdict : (cycle : ℕ) → Bus → List Life → Life → Life
after_verdict cycle b ls l = judged b.commit_valid cycle b.commit_kill (latest (commit_key b) (given cycle b (answered cycle b ls))) (after_lanes cycle b ls l)

-- what a cycle makes of a use, with the uses by this cycle
abbrev pub grown : (cycle : ℕ) → Bus → List Life → Life → Life
grown cycle b ls l = one (is_taken b) (start_of (result_key b) ls) (with_finish cycle) (after_verdict cycle b ls l)

pub changed-map : (cycle : ℕ) (b : Bus) (ls : List Life) → changed cycle b ls ≡ map (grown cycle b ls) ls
unfolding with_answer with_lanes with_finish
changed-map cycle b ls =
    let x = answered cycle b ls in
    let y = given cycle b x in
    let z = decided cycle b y in
    let ax : x ≡ map (after_answer cycle b ls) ls = one-map (is_issued b) (start_of (issue_key b) ls) (with_answer cycle (accepted_in ls) b) ls in
    let sx : (key : Key) → start_of key x ≡ start_of key ls = λ key. start_changed ls x (answered_is cycle b ls) key in
    let sy : (key : Key) → start_of key y ≡ start_of key ls = λ key. start_changed x y (given_is cycle b x).changed key ∙ sx key in
    let sz : (key : Key) → start_of key z ≡ start_of key ls = λ key. start_changed y z (decided_is cycle b y).changed key ∙ sy key in
    let ay : y ≡ map (after_lanes cycle b ls) ls =
    one-map (is_given b) (start_of (register_key b) x) (with_lanes cycle b) x ∙ ap (λ o. map (one (is_given b) o (with_lanes cycle b)) x) (sx (register_key b))
    ∙ ap (map (one (is_given b) (start_of (register_key b) ls) (with_lanes cycle b))) ax ∙ map-on (after_answer cycle b ls) (one (is_given b) (start_of (register_key b) ls) (with_lanes cycle b)) ls in
    let az : z ≡ map (after_verdict cycle b ls) ls =
    judged-map b.commit_valid cycle b.commit_kill (latest (commit_key b) y) y ∙ ap (map (judged b.commit_valid cycle b.commit_kill (latest (commit_key b) y))) ay
    ∙ map-on (after_lanes cycle b ls) (judged b.commit_valid cycle b.commit_kill (latest (commit_key b) y)) ls in
    one-map (is_taken b) (start_of (result_key b) z) (with_finish cycle) z ∙ ap (λ o. map (one (is_taken b) o (with_finish cycle)) z) (sz (result_key b))
    ∙ ap (map (one (is_taken b) (start_of (result_key b) ls) (with_finish cycle))) az ∙ map-on (after_verdict cycle b ls) (one (is_taken b) (start_of (result_key b) ls) (with_finish cycle)) ls

-- what it keeps
grown-keeps : {A : Type 0} (g : Life → A) (cycle : ℕ) (b : Bus) (ls : List Life) (l : Life) → ((l : Life) → g (with_answer cycle (accepted_in ls) b l) ≡ g l) → ((l : Life) → g (with_lanes cycle b l) ≡ g l)
    → ((l : Life) → g (with_verdict cycle b.commit_kill l) ≡ g l) → ((l : Life) → g (with_finish cycle l) ≡ g l) → g (grown cycle b ls l) ≡ g l
grown-keeps g cycle b ls l p q r s =
    one-keeps g (is_taken b) (start_of (result_key b) ls) (with_finish cycle) (after_verdict cycle b ls l) (s (after_verdict cycle b ls l))
    ∙ judged-keeps g b.commit_valid cycle b.commit_kill (latest (commit_key b) (given cycle b (answered cycle b ls))) (after_lanes cycle b ls l) (r (after_lanes cycle b ls l))
    ∙ one-keeps g (is_given b) (start_of (register_key b) ls) (with_lanes cycle b) (after_answer cycle b ls l) (q (after_answer cycle b ls l))
    ∙ one-keeps g (is_issued b) (start_of (issue_key b) ls) (with_answer cycle (accepted_in ls) b) l (p l)

pub grown-key : (cycle : ℕ) (b : Bus) (ls : List Life) (l : Life) → (grown cycle b ls l).key ≡ l.key
unfolding with_answer with_lanes with_finish
grown-key cycle b ls l = grown-keeps (λ l. l.key) cycle b ls l (λ l. refl) (λ l. refl) (λ l. refl) (λ l. refl)

pub grown-start : (cycle : ℕ) (b : Bus) (ls : List Life) (l : Life) → (grown cycle b ls l).start ≡ l.start
unfolding with_answer with_lanes with_finish
grown-start cycle b ls l = grown-keeps (λ l. l.start) cycle b ls l (λ l. refl) (λ l. refl) (λ l. refl) (λ l. refl)

pub grown-word : (cycle : ℕ) (b : Bus) (ls : List Life) (l : Life) → (grown cycle b ls l).word ≡ l.word
unfolding with_answer with_lanes with_finish
grown-word cycle b ls l = grown-keeps (λ l. l.word) cycle b ls l (λ l. refl) (λ l. refl) (λ l. refl) (λ l. refl)

pub grown-verdict : (cycle : ℕ) (b : Bus) (ls : List Life) (l : Life) → Judged b.commit_valid b.commit_kill l.verdict (grown cycle b ls l).verdict
unfolding with_answer with_lanes with_finish
grown-verdict cycle b ls l =
    let before : (after_lanes cycle b ls l).verdict ≡ l.verdict =
    one-keeps (λ l. l.verdict) (is_given b) (start_of (register_key b) ls) (with_lanes cycle b) (after_answer cycle b ls l) refl
    ∙ one-keeps (λ l. l.verdict) (is_issued b) (start_of (issue_key b) ls) (with_answer cycle (accepted_in ls) b) l refl in
    let behind : (grown cycle b ls l).verdict ≡ (after_verdict cycle b ls l).verdict =
    one-keeps (λ l. l.verdict) (is_taken b) (start_of (result_key b) ls) (with_finish cycle) (after_verdict cycle b ls l) refl in
    subst (Judged b.commit_valid b.commit_kill l.verdict) (sym behind)
    (subst (λ v. Judged b.commit_valid b.commit_kill v (after_verdict cycle b ls l).verdict) before
    (judged-verdict b.commit_valid cycle b.commit_kill (latest (commit_key b) (given cycle b (answered cycle b ls))) (after_lanes cycle b ls l)))

pub grown-answer : (cycle : ℕ) (b : Bus) (ls : List Life) (l : Life) → (grown cycle b ls l).answer ≡ (after_answer cycle b ls l).answer
unfolding with_answer with_lanes with_finish
grown-answer cycle b ls l =
    one-keeps (λ l. l.answer) (is_taken b) (start_of (result_key b) ls) (with_finish cycle) (after_verdict cycle b ls l) refl
    ∙ judged-keeps (λ l. l.answer) b.commit_valid cycle b.commit_kill (latest (commit_key b) (given cycle b (answered cycle b ls))) (after_lanes cycle b ls l) refl
    ∙ one-keeps (λ l. l.answer) (is_given b) (start_of (register_key b) ls) (with_lanes cycle b) (after_answer cycle b ls l) refl

-- the lanes stay, or come with the register handshake of the cycle
pub grown-operands : (cycle : ℕ) (b : Bus) (ls : List Life) (l : Life) → ((grown cycle b ls l).operands ≡ l.operands) ⊎ ((grown cycle b ls l).operands ≡ Some (operands_on cycle b))
unfolding with_answer with_lanes with_finish
grown-operands cycle b ls l =
    let behind : (grown cycle b ls l).operands ≡ (after_lanes cycle b ls l).operands =
    one-keeps (λ l. l.operands) (is_taken b) (start_of (result_key b) ls) (with_finish cycle) (after_verdict cycle b ls l) refl
    ∙ judged-keeps (λ l. l.operands) b.commit_valid cycle b.commit_kill (latest (commit_key b) (given cycle b (answered cycle b ls))) (after_lanes cycle b ls l) refl in
    let before : (after_answer cycle b ls l).operands ≡ l.operands = one-keeps (λ l. l.operands) (is_issued b) (start_of (issue_key b) ls) (with_answer cycle (accepted_in ls) b) l refl in
    go (is_given b) (start_of (register_key b) ls) behind before
  where
    by : (t : Bool) (v : Life) → v.operands ≡ l.operands → ((change_if t (with_lanes cycle b) v).operands ≡ l.operands) ⊎ ((change_if t (with_lanes cycle b) v).operands ≡ Some (operands_on cycle b))
    by true v h = inr refl
    by false v h = inl h

    go : (t : Bool) (o : Option ℕ) → (grown cycle b ls l).operands ≡ (one t o (with_lanes cycle b) (after_answer cycle b ls l)).operands → (after_answer cycle b ls l).operands ≡ l.operands
        → ((grown cycle b ls l).operands ≡ l.operands) ⊎ ((grown cycle b ls l).operands ≡ Some (operands_on cycle b))
    go false o h k = inl (h ∙ k)
    go true None h k = inl (h ∙ k)
    go true (Some s) h k = on (by ((after_answer cycle b ls l).start == s) (after_answer cycle b ls l) k)
      where
        on : ((change_if ((after_answer cycle b ls l).start == s) (with_lanes cycle b) (after_answer cycle b ls l)).operands ≡ l.operands) ⊎ ((change_if ((after_answer cycle b ls l).start == s) (with_lanes cycle b) (after_answer cycle b ls l)).operands ≡ Some (operands_on cycle b))
            → ((grown cycle b ls l).operands ≡ l.operands) ⊎ ((grown cycle b ls l).operands ≡ Some (operands_on cycle b))
        on (inl z) = inl (h ∙ z)
        on (inr z) = inr (h ∙ z)

-- the result handshake ends the use that its key names, and no other
pub grown-finish : (cycle : ℕ) (b : Bus) (ls : List Life) (l : Life) → (grown cycle b ls l).finish ≡ (one (is_taken b) (start_of (result_key b) ls) (with_finish cycle) l).finish
unfolding with_answer with_lanes with_finish
grown-finish cycle b ls l =
    let before : (after_verdict cycle b ls l).finish ≡ l.finish =
    judged-keeps (λ l. l.finish) b.commit_valid cycle b.commit_kill (latest (commit_key b) (given cycle b (answered cycle b ls))) (after_lanes cycle b ls l) refl
    ∙ one-keeps (λ l. l.finish) (is_given b) (start_of (register_key b) ls) (with_lanes cycle b) (after_answer cycle b ls l) refl
    ∙ one-keeps (λ l. l.finish) (is_issued b) (start_of (issue_key b) ls) (with_answer cycle (accepted_in ls) b) l refl in
    let start : (after_verdict cycle b ls l).start ≡ l.start =
    judged-keeps (λ l. l.start) b.commit_valid cycle b.commit_kill (latest (commit_key b) (given cycle b (answered cycle b ls))) (after_lanes cycle b ls l) refl
    ∙ one-keeps (λ l. l.start) (is_given b) (start_of (register_key b) ls) (with_lanes cycle b) (after_answer cycle b ls l) refl
    ∙ one-keeps (λ l. l.start) (is_issued b) (start_of (issue_key b) ls) (with_answer cycle (accepted_in ls) b) l refl in
    go (is_taken b) (start_of (result_key b) ls) before start
  where
    by : (t : Bool) (v : Life) → v.finish ≡ l.finish → (change_if t (with_finish cycle) v).finish ≡ (change_if t (with_finish cycle) l).finish
    by true v h = refl
    by false v h = h

    go : (t : Bool) (o : Option ℕ) → (after_verdict cycle b ls l).finish ≡ l.finish → (after_verdict cycle b ls l).start ≡ l.start → (one t o (with_finish cycle) (after_verdict cycle b ls l)).finish ≡ (one t o (with_finish cycle) l).finish
    go false o h s = h
    go true None h s = h
    go true (Some n) h s = ap (λ k. (change_if (k == n) (with_finish cycle) (after_verdict cycle b ls l)).finish) s ∙ by (l.start == n) (after_verdict cycle b ls l) h

-- ---- what a key names

pub latest-grown : (cycle : ℕ) (b : Bus) (ls : List Life) (key : Key) → latest key (map (grown cycle b ls) ls) ≡ option_map (grown cycle b ls) (latest key ls)
latest-grown cycle b ls key = latest_map (grown cycle b ls) (record { key = grown-key cycle b ls; start = grown-start cycle b ls; word = grown-word cycle b ls }) key ls

-- ---- all uses

-- what there is of a use stays
pub record Kept (was now : Life) : Type 0 where
  pub answer : is_some was.answer ≡ true → now.answer ≡ was.answer
  pub operands : is_some was.operands ≡ true → now.operands ≡ was.operands

kept-of : (cycle : ℕ) (l n : Life) → Grew cycle l n → Kept l n
kept-of cycle l n g = record {
  answer = λ h. stays (λ (a : Answer). a.cycle) cycle l.answer n.answer g.answer h;
  operands = λ h. stays (λ (o : Operands). o.cycle) cycle l.operands n.operands g.operands h;
}

olds-kept : (cycle : ℕ) (f : Life → Life) (ls : List Life) → Each2 (Old cycle) ls (map f ls) → Each (λ l. Kept l (f l)) ls
olds-kept cycle f [] h = tt
olds-kept cycle f (l ∷ ls) h = (kept-of cycle l (f l) h.0.grew, olds-kept cycle f ls h.1)

pub grown-kept : (cycle : ℕ) (f : Life → Life) (ls : List Life) → Grown cycle ls (map f ls) → Each (λ l. Kept l (f l)) ls
grown-kept cycle f [] h = tt
grown-kept cycle f (l ∷ ls) h = (kept-of cycle l (f l) h.0, olds-kept cycle f ls h.1)

-- ---- the use that is accepted

-- the last use, if the cycle accepts it
abbrev pub newly : (Life → Life) → List Life → List Life
newly f [] = []
newly f (l ∷ ls) = if not (is_accepted l) && is_accepted (f l) then l ∷ [] else []

accept-of : Option Answer → Bool
accept-of o = option_map_or (λ a. a.response.accept) o false

olds-accepted : (cycle : ℕ) (f : Life → Life) (ls : List Life) → Each2 (Old cycle) ls (map f ls) → filter (λ l. is_accepted (f l)) ls ≡ filter is_accepted ls
unfolding accept-of
olds-accepted cycle f [] h = refl
olds-accepted cycle f (l ∷ ls) h =
    ap (λ t. if t then l ∷ filter (λ l. is_accepted (f l)) ls else filter (λ l. is_accepted (f l)) ls) (ap accept-of h.0.same) ∙ ap (λ xs. if is_accepted l then l ∷ xs else xs) (olds-accepted cycle f ls h.1)

pub accepted-split : (cycle : ℕ) (f : Life → Life) (ls : List Life) → Grown cycle ls (map f ls) → filter (λ l. is_accepted (f l)) ls ≡ newly f ls ++ filter is_accepted ls
unfolding accept-of
accepted-split cycle f [] h = refl
accepted-split cycle f (l ∷ ls) h = ap (λ xs. if is_accepted (f l) then l ∷ xs else xs) (olds-accepted cycle f ls h.1) ∙ go (is_accepted l) (is_accepted (f l)) was
  where
    was : is_accepted l ≡ true → is_accepted (f l) ≡ true
    was a = ap accept-of ((kept-of cycle l (f l) h.0).answer (some l.answer a)) ∙ a
      where
        some : (o : Option Answer) → accept-of o ≡ true → is_some o ≡ true
        some None a = cc
        some (Some x) a = refl

    go : (a c : Bool) → (a ≡ true → c ≡ true) → (if c then l ∷ filter is_accepted ls else filter is_accepted ls) ≡ (if not a && c then l ∷ [] else []) ++ (if a then l ∷ filter is_accepted ls else filter is_accepted ls)
    go true true h = refl
    go true false h = absurd (let z = h refl in cc)
    go false true h = refl
    go false false h = refl
