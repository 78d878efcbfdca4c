-- A cycle tells more of a use, and changes nothing that was told; so a ready cycle stays.
use Rattle.std.proofs.Common.{if◌then◌else◌, ◌≡◌, ◌⊎◌, inl, inr, ◌==◌, ◌<◌, ◌≤◌, ◌&&◌, not, max, ℕ, Bool, true, false, Option, Some, None, List, [], ◌∷◌, refl, sym, ap, ap₂, ◌∙◌, subst, arith}
use Rattle.std.specs.Prelude.{is_some}
use Rattle.std.specs.Option.{option_map, option_map_or}
use Rattle.engine_history.specs.Lives.{Life, Answer, Operands, Verdict}
use Rattle.engine_history.specs.Told.{later, answer_cycle, reads, operands_cycle, release_by, complete_cycle}

-- ---- what a cycle tells of a use

-- what is told once: it stays, or it comes with this cycle
abbrev pub Comes : {A : Type 0} → (A → ℕ) → ℕ → Option A → Option A → Type 0
Comes when cycle was now = (now ≡ was) ⊎ ((was ≡ None) × (option_map when now ≡ Some cycle))

pub record Grew (cycle : ℕ) (was now : Life) : Type 0 where
  pub key : now.key ≡ was.key
  pub start : now.start ≡ was.start
  pub answer : Comes (λ (a : Answer). a.cycle) cycle was.answer now.answer
  pub operands : Comes (λ (o : Operands). o.cycle) cycle was.operands now.operands
  pub verdict : Comes (λ (v : Verdict). v.cycle) cycle was.verdict now.verdict

-- an older use is answered no more
pub record Old (cycle : ℕ) (was now : Life) : Type 0 where
  pub grew : Grew cycle was now
  pub same : now.answer ≡ was.answer

abbrev pub Each2 : (Life → Life → Type 0) → List Life → List Life → Type 0
Each2 R [] [] = Unit {0}
Each2 R [] (n ∷ now) = ⊥
Each2 R (l ∷ ls) [] = ⊥
Each2 R (l ∷ ls) (n ∷ now) = R l n × Each2 R ls now

-- all uses but the last one are older
abbrev pub Grown : ℕ → List Life → List Life → Type 0
Grown cycle [] [] = Unit {0}
Grown cycle [] (n ∷ now) = ⊥
Grown cycle (l ∷ ls) [] = ⊥
Grown cycle (l ∷ ls) (n ∷ now) = Grew cycle l n × Each2 (Old cycle) ls now

-- ---- what there is stays

pub stays : {A : Type 0} (when : A → ℕ) (cycle : ℕ) (was now : Option A) → Comes when cycle was now → is_some was ≡ true → now ≡ was
stays when cycle was now (inl q) h = q
stays when cycle None now (inr q) h = absurd (cc)
stays when cycle (Some x) now (inr q) h = absurd (let e = q.0 in cc)

-- what was told before this cycle was told already
pub stood : {A : Type 0} (when : A → ℕ) (cycle m : ℕ) (was now : Option A) → Comes when cycle was now → option_map when now ≡ Some m → m < cycle → now ≡ was
stood when cycle m was now (inl q) h l = q
stood when cycle m was now (inr q) h l = absurd (apart cycle m (sym q.1 ∙ h) l)
  where
    apart : (a b : ℕ) → Some a ≡ Some b → b < a → ⊥
    apart a b e l = let e' : a ≡ b = cc in omega (arith, e', l)

-- ---- the later of two

pub record IsLater (a b : Option ℕ) (m : ℕ) : Type 0 where
  pub one : ℕ
  pub other : ℕ
  pub one_is : a ≡ Some one
  pub other_is : b ≡ Some other
  pub is : m ≡ max one other

pub later_is : (a b : Option ℕ) (m : ℕ) → later a b ≡ Some m → IsLater a b m
later_is None b m h = absurd (cc)
later_is (Some a) None m h = absurd (cc)
later_is (Some a) (Some b) m h = record { one = a; other = b; one_is = refl; other_is = refl; is = some_is m (max a b) (sym h) }
  where
    some_is : (x y : ℕ) → Some x ≡ Some y → x ≡ y
    some_is x y h = cc

pub max_left : (a b : ℕ) → a ≤ max a b
max_left a b = grind arith

pub max_right : (a b : ℕ) → b ≤ max a b
max_right a b = grind arith

pub max_up : (a b c : ℕ) → a ≤ c → b ≤ c → max a b ≤ c
max_up a b c h k = grind arith

pub later_some : (a b : Option ℕ) → is_some (later a b) ≡ (is_some a && is_some b)
later_some None b = refl
later_some (Some a) None = refl
later_some (Some a) (Some b) = refl

-- ---- a complete use

-- what a complete use has
pub record IsComplete (l : Life) (m : ℕ) : Type 0 where
  pub answer : ℕ
  pub operands : ℕ
  pub release : ℕ
  pub answer_is : answer_cycle l ≡ Some answer
  pub operands_is : operands_cycle l ≡ Some operands
  pub release_is : release_by l.verdict ≡ Some release
  pub answer_by : answer ≤ m
  pub operands_by : operands ≤ m
  pub release_by' : release ≤ m

pub complete_is : (l : Life) (m : ℕ) → complete_cycle l ≡ Some m → IsComplete l m
complete_is l m h =
    let x = later_is (answer_cycle l) (later (operands_cycle l) (release_by l.verdict)) m h in
    let y = later_is (operands_cycle l) (release_by l.verdict) x.other x.other_is in
    record {
      answer = x.one;
      operands = y.one;
      release = y.other;
      answer_is = x.one_is;
      operands_is = y.one_is;
      release_is = y.other_is;
      answer_by = subst (λ n. x.one ≤ n) (sym x.is) (max_left x.one x.other);
      operands_by = subst (λ n. y.one ≤ n) (sym x.is) (le_trans y.one x.other (max x.one x.other) (subst (λ n. y.one ≤ n) (sym y.is) (max_left y.one y.other)) (max_right x.one x.other));
      release_by' = subst (λ n. y.other ≤ n) (sym x.is) (le_trans y.other x.other (max x.one x.other) (subst (λ n. y.other ≤ n) (sym y.is) (max_right y.one y.other)) (max_right x.one x.other));
    }
  where
    le_trans : (a b c : ℕ) → a ≤ b → b ≤ c → a ≤ c
    le_trans a b c h k = omega (arith, h, k)

some_of : {A : Type 0} (f : A → ℕ) (o : Option A) (m : ℕ) → option_map f o ≡ Some m → is_some o ≡ true
some_of f None m h = absurd (cc)
some_of f (Some x) m h = refl

released_some : (v : Option Verdict) (m : ℕ) → release_by v ≡ Some m → (is_some v ≡ true) × (option_map (λ (v : Verdict). v.cycle) v ≡ Some m)
released_some None m h = absurd (cc)
released_some (Some v) m h = go v.kill h
  where
    go : (k : Bool) → (if k then None else Some v.cycle) ≡ Some m → (true ≡ true) × (Some v.cycle ≡ Some m)
    go true h = absurd (cc)
    go false h = (refl, h)

-- the cycle from which on it is complete says all that counts of a use
from_parts : (l n : Life) → n.answer ≡ l.answer → n.verdict ≡ l.verdict → operands_cycle n ≡ operands_cycle l → complete_cycle n ≡ complete_cycle l
from_parts l n a v o = ap₂ (λ x y. later x y) (ap (option_map (λ (a : Answer). a.cycle)) a) (ap₂ later o (ap release_by v))

same_operands : (l n : Life) → n.answer ≡ l.answer → (reads l ≡ true → n.operands ≡ l.operands) → operands_cycle n ≡ operands_cycle l
same_operands l n a o =
    ap (λ x. if not (option_map_or (λ (a : Answer). a.response.register_read.0) x 0 == 0) then option_map (λ (o : Operands). o.cycle) n.operands else Some 0) a
    ∙ go (reads l) o
  where
    go : (t : Bool) → (t ≡ true → n.operands ≡ l.operands) → (if t then option_map (λ (o : Operands). o.cycle) n.operands else Some 0) ≡ (if t then option_map (λ (o : Operands). o.cycle) l.operands else Some 0)
    go true o = ap (option_map (λ (o : Operands). o.cycle)) (o refl)
    go false o = refl

operands_if : (l : Life) (m : ℕ) → operands_cycle l ≡ Some m → reads l ≡ true → option_map (λ (o : Operands). o.cycle) l.operands ≡ Some m
operands_if l m h r = ap (λ t. if t then option_map (λ (o : Operands). o.cycle) l.operands else Some 0) (sym r) ∙ h

-- what a use that was complete has stays
pub record Same (l n : Life) : Type 0 where
  pub answer : n.answer ≡ l.answer
  pub verdict : n.verdict ≡ l.verdict
  pub operands : reads l ≡ true → n.operands ≡ l.operands

pub complete_same : (cycle m : ℕ) (l n : Life) → Grew cycle l n → complete_cycle l ≡ Some m → Same l n
complete_same cycle m l n g h =
    let x = complete_is l m h in
    record {
      answer = stays (λ (a : Answer). a.cycle) cycle l.answer n.answer g.answer (some_of (λ (a : Answer). a.cycle) l.answer x.answer x.answer_is);
      verdict = stays (λ (v : Verdict). v.cycle) cycle l.verdict n.verdict g.verdict (released_some l.verdict x.release x.release_is).0;
      operands = λ r. stays (λ (o : Operands). o.cycle) cycle l.operands n.operands g.operands (some_of (λ (o : Operands). o.cycle) l.operands x.operands (operands_if l x.operands x.operands_is r));
    }

pub complete_stays : (cycle m : ℕ) (l n : Life) → Grew cycle l n → complete_cycle l ≡ Some m → complete_cycle n ≡ Some m
complete_stays cycle m l n g h =
    let s = complete_same cycle m l n g h in
    from_parts l n s.answer s.verdict (same_operands l n s.answer s.operands) ∙ h

-- a use that is complete with an earlier cycle was so
pub complete_stood : (cycle m : ℕ) (l n : Life) → Grew cycle l n → complete_cycle n ≡ Some m → m < cycle → Same l n × (complete_cycle l ≡ Some m)
complete_stood cycle m l n g h k =
    let x = complete_is n m h in
    let a : n.answer ≡ l.answer = stood (λ (a : Answer). a.cycle) cycle x.answer l.answer n.answer g.answer x.answer_is (let b = x.answer_by in omega (arith, b, k)) in
    let v : n.verdict ≡ l.verdict = stood (λ (v : Verdict). v.cycle) cycle x.release l.verdict n.verdict g.verdict (released_some n.verdict x.release x.release_is).1 (let b = x.release_by' in omega (arith, b, k)) in
    let o : reads l ≡ true → n.operands ≡ l.operands = λ r. stood (λ (o : Operands). o.cycle) cycle x.operands l.operands n.operands g.operands (operands_if n x.operands x.operands_is (ap (λ y. not (option_map_or (λ (a : Answer). a.response.register_read.0) y 0 == 0)) a ∙ r)) (let b = x.operands_by in omega (arith, b, k)) in
    (record { answer = a; verdict = v; operands = o }, sym (from_parts l n a v (same_operands l n a o)) ∙ h)
