-- Which uses are ready after a cycle, by those that were before it.
use Rattle.std.proofs.Common.{if◌then◌else◌, ◌≡◌, inl, inr, ◌==◌, ◌<◌, ◌≤◌, ◌&&◌, not, max, ℕ, Bool, true, false, Option, Some, None, IfSome, List, [], ◌∷◌, refl, sym, ap, ap₂, ◌∙◌, subst, arith}
use Rattle.std.specs.Prelude.{is_some}
use Rattle.std.specs.Option.{option_map, option_map_or}
use Rattle.std.proofs.lemmas.Bool.{eqb-true, eq-eqb}
use Rattle.xif_base.specs.declared.params.Key.{Key}
use Rattle.xif_session.proofs.Options.{both-true, and-true, no_true}
use Rattle.engine_history.specs.Lives.{Life, Answer, Operands, Verdict, is_accepted, is_killed, is_released}
use Rattle.engine_history.specs.Told.{later, answer_cycle, reads, operands_cycle, release_by, complete_cycle, counts, all_complete, ready_cycle}
use Rattle.engine_history.proofs.Grown.{Comes, Grew, Old, Each2, stays, IsLater, later_is, max_left, max_right, max_up, complete_is, complete_same, complete_stays, complete_stood}

-- ---- what holds of a history

-- each use of a hart is decided
abbrev pub Decided : ℕ → List Life → Type 0
Decided hart [] = Unit {0}
Decided hart (l ∷ ls) = (l.key.hart ≡ hart → is_some l.verdict ≡ true) × Decided hart ls

-- where a use is released, each older one of its hart is decided
abbrev pub Grouped : List Life → Type 0
Grouped [] = Unit {0}
Grouped (l ∷ ls) = (is_released l ≡ true → Decided l.key.hart ls) × Grouped ls

-- nothing was told in a later cycle
pub record IsBy (cycle : ℕ) (l : Life) : Type 0 where
  pub answer : IfSome l.answer (λ a. a.cycle ≤ cycle)
  pub operands : IfSome l.operands (λ o. o.cycle ≤ cycle)
  pub verdict : IfSome l.verdict (λ v. v.cycle ≤ cycle)

abbrev pub AllBy : ℕ → List Life → Type 0
AllBy cycle [] = Unit {0}
AllBy cycle (l ∷ ls) = IsBy cycle l × AllBy cycle ls

-- ---- uses that count

counts_if : (hart : ℕ) (l : Life) → counts hart l ≡ true → (l.key.hart ≡ hart) × (is_accepted l ≡ true) × (is_killed l ≡ false)
counts_if hart l h =
    let x = both-true (l.key.hart == hart) _ h in
    let y = both-true (is_accepted l) _ x.1 in
    (eqb-true l.key.hart hart x.0, y.0, low (is_killed l) y.1)
  where
    low : (t : Bool) → not t ≡ true → t ≡ false
    low true h = cc
    low false h = refl

pub counts_same : (hart : ℕ) (l n : Life) → n.key ≡ l.key → n.answer ≡ l.answer → n.verdict ≡ l.verdict → counts hart n ≡ counts hart l
counts_same hart l n k a v =
    ap₂ (λ (x : Key) y. (x.hart == hart) && (option_map_or (λ (a : Answer). a.response.accept) y false && not (is_killed n))) k a
    ∙ ap (λ y. (l.key.hart == hart) && (is_accepted l && not (option_map_or (λ (v : Verdict). v.kill) y false))) v

-- a use that counts now counted before, where its answer stays
pub counted : (hart cycle : ℕ) (l n : Life) → Old cycle l n → counts hart n ≡ true → counts hart l ≡ true
counted hart cycle l n o h = go o.grew.verdict
  where
    none_kills : (v : Option Verdict) → v ≡ None → option_map_or (λ (v : Verdict). v.kill) v false ≡ false
    none_kills v q = ap (λ v. option_map_or (λ (v : Verdict). v.kill) v false) q

    go : Comes (λ (v : Verdict). v.cycle) cycle l.verdict n.verdict → counts hart l ≡ true
    go (inl q) = sym (counts_same hart l n o.grew.key o.same q) ∙ h
    go (inr q) =
        let x = counts_if hart n h in
        and-true (l.key.hart == hart) _ (eq-eqb l.key.hart hart (ap (λ (k : Key). k.hart) (sym o.grew.key) ∙ x.0))
        (and-true (is_accepted l) _ (ap (λ a. option_map_or (λ (a : Answer). a.response.accept) a false) (sym o.same) ∙ x.1) (ap not (none_kills l.verdict q.0)))

-- ---- whether all are complete, before the cycle and after it

-- a decided use counts as before
decided_same : (hart cycle : ℕ) (l n : Life) → Old cycle l n → (l.key.hart ≡ hart → is_some l.verdict ≡ true) → counts hart n ≡ counts hart l
decided_same hart cycle l n o d = go (l.key.hart == hart) refl
  where
    here : l.key.hart ≡ hart → counts hart n ≡ counts hart l
    here q = counts_same hart l n o.grew.key o.same (stays (λ (v : Verdict). v.cycle) cycle l.verdict n.verdict o.grew.verdict (d q))

    go : (t : Bool) → (l.key.hart == hart) ≡ t → counts hart n ≡ counts hart l
    go true q = here (eqb-true l.key.hart hart q)
    go false q =
        ap (λ (k : Key). (k.hart == hart) && (is_accepted n && not (is_killed n))) o.grew.key
        ∙ ap (λ t. t && (is_accepted n && not (is_killed n))) q
        ∙ sym (ap (λ t. t && (is_accepted l && not (is_killed l))) q)

pub all_stays : (hart cycle m : ℕ) (ls now : List Life) → Each2 (Old cycle) ls now → Decided hart ls → all_complete hart ls ≡ Some m → all_complete hart now ≡ Some m
all_stays hart cycle m [] [] e d h = h
all_stays hart cycle m [] (n ∷ now) e d h = absurd e
all_stays hart cycle m (l ∷ ls) [] e d h = absurd e
all_stays hart cycle m (l ∷ ls) (n ∷ now) e d h =
    ap (λ t. if t then later (complete_cycle n) (all_complete hart now) else all_complete hart now) (decided_same hart cycle l n e.0 d.0)
    ∙ go (counts hart l) h (λ k q. all_stays hart cycle k ls now e.1 d.1 q)
  where
    go : (t : Bool) → (if t then later (complete_cycle l) (all_complete hart ls) else all_complete hart ls) ≡ Some m
        → ((k : ℕ) → all_complete hart ls ≡ Some k → all_complete hart now ≡ Some k)
        → (if t then later (complete_cycle n) (all_complete hart now) else all_complete hart now) ≡ Some m
    go true h ih =
        let x = later_is (complete_cycle l) (all_complete hart ls) m h in
        ap₂ later (complete_stays cycle x.one l n e.0.grew x.one_is) (ih x.other x.other_is) ∙ ap Some (sym x.is)
    go false h ih = ih m h

pub all_stood : (hart cycle m : ℕ) (ls now : List Life) → Each2 (Old cycle) ls now → Decided hart ls → all_complete hart now ≡ Some m → m < cycle → all_complete hart ls ≡ Some m
all_stood hart cycle m [] [] e d h k = h
all_stood hart cycle m [] (n ∷ now) e d h k = absurd e
all_stood hart cycle m (l ∷ ls) [] e d h k = absurd e
all_stood hart cycle m (l ∷ ls) (n ∷ now) e d h k =
    go (counts hart l)
    (sym (ap (λ t. if t then later (complete_cycle n) (all_complete hart now) else all_complete hart now) (decided_same hart cycle l n e.0 d.0)) ∙ h)
    (λ j q i. all_stood hart cycle j ls now e.1 d.1 q i)
  where
    go : (t : Bool) → (if t then later (complete_cycle n) (all_complete hart now) else all_complete hart now) ≡ Some m
        → ((j : ℕ) → all_complete hart now ≡ Some j → j < cycle → all_complete hart ls ≡ Some j)
        → (if t then later (complete_cycle l) (all_complete hart ls) else all_complete hart ls) ≡ Some m
    go true h ih =
        let x = later_is (complete_cycle n) (all_complete hart now) m h in
        let one = max_left x.one x.other in
        let other = max_right x.one x.other in
        let is = x.is in
        ap₂ later (complete_stood cycle x.one l n e.0.grew x.one_is (omega (arith, one, is, k))).1 (ih x.other x.other_is (omega (arith, other, is, k))) ∙ ap Some (sym x.is)
    go false h ih = ih m h k

-- ---- no later than the cycle

by_map : {A : Type 0} (when : A → ℕ) (o : Option A) (cycle m : ℕ) → IfSome o (λ x. when x ≤ cycle) → option_map when o ≡ Some m → m ≤ cycle
by_map when None cycle m h q = absurd (cc)
by_map when (Some x) cycle m h q = let e : when x ≡ m = some_is (when x) m q in omega (arith, e, h)
  where
    some_is : (x y : ℕ) → Some x ≡ Some y → x ≡ y
    some_is x y h = cc

complete_by : (cycle m : ℕ) (l : Life) → IsBy cycle l → complete_cycle l ≡ Some m → m ≤ cycle
complete_by cycle m l b h =
    let x = later_is (answer_cycle l) (later (operands_cycle l) (release_by l.verdict)) m h in
    let y = later_is (operands_cycle l) (release_by l.verdict) x.other x.other_is in
    let a : x.one ≤ cycle = by_map (λ (a : Answer). a.cycle) l.answer cycle x.one b.answer x.one_is in
    let o : y.one ≤ cycle = operands (reads l) y.one y.one_is in
    let r : y.other ≤ cycle = release l.verdict y.other b.verdict y.other_is in
    let z : x.other ≤ cycle = subst (λ n. n ≤ cycle) (sym y.is) (max_up y.one y.other cycle o r) in
    subst (λ n. n ≤ cycle) (sym x.is) (max_up x.one x.other cycle a z)
  where
    operands : (t : Bool) (k : ℕ) → (if t then option_map (λ (o : Operands). o.cycle) l.operands else Some 0) ≡ Some k → k ≤ cycle
    operands true k q = by_map (λ (o : Operands). o.cycle) l.operands cycle k b.operands q
    operands false k q = let e : 0 ≡ k = zero_is k q in omega (arith, e)
      where
        zero_is : (k : ℕ) → Some 0 ≡ Some k → 0 ≡ k
        zero_is k q = cc

    release : (v : Option Verdict) (k : ℕ) → IfSome v (λ v. v.cycle ≤ cycle) → release_by v ≡ Some k → k ≤ cycle
    release None k b q = absurd (cc)
    release (Some v) k b q = on v.kill q
      where
        on : (t : Bool) → (if t then None else Some v.cycle) ≡ Some k → k ≤ cycle
        on true q = absurd (cc)
        on false q = by_map (λ (v : Verdict). v.cycle) (Some v) cycle k b q

pub all_by : (hart cycle m : ℕ) (ls : List Life) → AllBy cycle ls → all_complete hart ls ≡ Some m → m ≤ cycle
all_by hart cycle m [] b h = let e : 0 ≡ m = zero_is h in omega (arith, e)
  where
    zero_is : Some 0 ≡ Some m → 0 ≡ m
    zero_is q = cc
all_by hart cycle m (l ∷ ls) b h = go (counts hart l) h (λ k q. all_by hart cycle k ls b.1 q)
  where
    go : (t : Bool) → (if t then later (complete_cycle l) (all_complete hart ls) else all_complete hart ls) ≡ Some m → ((k : ℕ) → all_complete hart ls ≡ Some k → k ≤ cycle) → m ≤ cycle
    go true h ih =
        let x = later_is (complete_cycle l) (all_complete hart ls) m h in
        subst (λ n. n ≤ cycle) (sym x.is) (max_up x.one x.other cycle (complete_by cycle x.one l b.0 x.one_is) (ih x.other x.other_is))
    go false h ih = ih m h

-- ---- a ready use

pub record IsReady (l : Life) (older : List Life) (m : ℕ) : Type 0 where
  pub counts_is : counts l.key.hart l ≡ true
  pub later_are : IsLater (complete_cycle l) (all_complete l.key.hart older) m

pub ready_is : (l : Life) (older : List Life) (m : ℕ) → ready_cycle l older ≡ Some m → IsReady l older m
ready_is l older m h = go (counts l.key.hart l) refl h
  where
    go : (t : Bool) → counts l.key.hart l ≡ t → (if t then later (complete_cycle l) (all_complete l.key.hart older) else None) ≡ Some m → IsReady l older m
    go true q h = record { counts_is = q; later_are = later_is (complete_cycle l) (all_complete l.key.hart older) m h }
    go false q h = absurd (cc)

ready_if : (l : Life) (older : List Life) (a b : ℕ) → counts l.key.hart l ≡ true → complete_cycle l ≡ Some a → all_complete l.key.hart older ≡ Some b → ready_cycle l older ≡ Some (max a b)
ready_if l older a b c x y = ap (λ t. if t then later (complete_cycle l) (all_complete l.key.hart older) else None) c ∙ ap₂ later x y

-- a complete use is released
pub complete_released : (l : Life) (m : ℕ) → complete_cycle l ≡ Some m → is_released l ≡ true
complete_released l m h = go l.verdict (complete_is l m h).release (complete_is l m h).release_is
  where
    go : (v : Option Verdict) (k : ℕ) → release_by v ≡ Some k → option_map_or (λ (v : Verdict). not v.kill) v false ≡ true
    go None k q = absurd (cc)
    go (Some v) k q = on v.kill q
      where
        on : (t : Bool) → (if t then None else Some v.cycle) ≡ Some k → not t ≡ true
        on true q = absurd (cc)
        on false q = refl

pub ready_stays : (cycle m : ℕ) (l n : Life) (older newer : List Life) → Grew cycle l n → Each2 (Old cycle) older newer → Grouped (l ∷ older) → ready_cycle l older ≡ Some m → ready_cycle n newer ≡ Some m
ready_stays cycle m l n older newer g e q h =
    let x = ready_is l older m h in
    let y = x.later_are in
    let s = complete_same cycle y.one l n g y.one_is in
    let d : Decided l.key.hart older = q.0 (complete_released l y.one y.one_is) in
    let hart : n.key.hart ≡ l.key.hart = ap (λ (k : Key). k.hart) g.key in
    let c : counts n.key.hart n ≡ true = ap (λ k. counts k n) hart ∙ counts_same l.key.hart l n g.key s.answer s.verdict ∙ x.counts_is in
    let a : all_complete n.key.hart newer ≡ Some y.other = ap (λ k. all_complete k newer) hart ∙ all_stays l.key.hart cycle y.other older newer e d y.other_is in
    ready_if n newer y.one y.other c (complete_stays cycle y.one l n g y.one_is) a ∙ ap Some (sym y.is)

-- where it comes, it comes with this cycle
pub ready_comes : (cycle m : ℕ) (l n : Life) (older newer : List Life) → Grew cycle l n → Each2 (Old cycle) older newer → Grouped (l ∷ older) → AllBy cycle (n ∷ newer)
    → ready_cycle l older ≡ None → ready_cycle n newer ≡ Some m → m ≡ cycle
ready_comes cycle m l n older newer g e q b none h =
    let x = ready_is n newer m h in
    let y = x.later_are in
    let one = max_left y.one y.other in
    let other = max_right y.one y.other in
    let is = y.is in
    let up : m ≤ cycle = subst (λ k. k ≤ cycle) (sym y.is) (max_up y.one y.other cycle (complete_by cycle y.one n b.0 y.one_is) (all_by n.key.hart cycle y.other newer b.1 y.other_is)) in
    either m cycle up (λ k. before x.counts_is y.one y.other y.one_is y.other_is (omega (arith, one, is, k)) (omega (arith, other, is, k)))
  where
    either : (a c : ℕ) → a ≤ c → (a < c → ⊥) → a ≡ c
    either a c h k = go (a == c) refl
      where
        go : (t : Bool) → (a == c) ≡ t → a ≡ c
        go true q = eqb-true a c q
        go false q = absurd (k (low a c h q))
          where
            low : (a c : ℕ) → a ≤ c → (a == c) ≡ false → a < c
            low a c h q = omega (arith, h, apart a c q)
              where
                apart : (a c : ℕ) → (a == c) ≡ false → ¬ (a ≡ c)
                apart a c q e = no_true (a == c) (eq-eqb a c e) q

    before : counts n.key.hart n ≡ true → (a b : ℕ) → complete_cycle n ≡ Some a → all_complete n.key.hart newer ≡ Some b → a < cycle → b < cycle → ⊥
    before c a b ca cb la lb =
        let z = complete_stood cycle a l n g ca la in
        let hart : n.key.hart ≡ l.key.hart = ap (λ (k : Key). k.hart) g.key in
        let d : Decided l.key.hart older = q.0 (complete_released l a z.1) in
        let cl : counts l.key.hart l ≡ true = sym (counts_same l.key.hart l n g.key z.0.answer z.0.verdict) ∙ ap (λ k. counts k n) (sym hart) ∙ c in
        let al : all_complete l.key.hart older ≡ Some b = all_stood l.key.hart cycle b older newer e d (ap (λ k. all_complete k newer) (sym hart) ∙ cb) lb in
        let r : None ≡ Some (max a b) = sym none ∙ ready_if l older a b cl z.1 al in
        cc
