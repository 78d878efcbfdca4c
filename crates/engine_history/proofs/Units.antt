-- What the units make of the uses in a cycle is what the history tells after it.
use Rattle.std.proofs.Common.{if◌then◌else◌, ◌≡◌, ◌++◌, ◌==◌, ◌&&◌, ◌||◌, not, ℕ, Bool, true, false, Option, Some, None, IfSome, List, [], ◌∷◌, refl, sym, ap, ap₂, ◌∙◌, subst}
use Rattle.std.specs.Prelude.{is_none, is_some}
use Rattle.std.specs.Option.{option_map, option_map_or}
use Rattle.xif_base.specs.declared.params.Key.{Key}
use Rattle.xif_base.specs.declared.params.Params.{Params}
use Rattle.coproc_config.specs.declared.accept.Hit.{Hit}
use Rattle.coproc_config.specs.Set.{UnitTable}
use Rattle.coproc_config.specs.Accept.{hit_of}
use Rattle.xif_session.specs.Facts.{same_key, verdict_of}
use Rattle.xif_session.specs.Facts as facts
use Rattle.xif_session.proofs.Options.{both-true}
use Rattle.cycle_spec.specs.declared.use_of.Use.{Use}
use Rattle.cycle_spec.specs.Engine.{register_read_of, is_complete, is_next}
use Rattle.engine_history.specs.Lives.{Life, Answer, Operands, Verdict, is_accepted, is_killed}
use Rattle.engine_history.specs.Told.{hit_by, hit_told, decision_told, use_told, others, latest_uses, later, answer_cycle, operands_cycle, release_by, complete_cycle, counts, all_complete, ready_cycle, is_ready, result_told}
use Rattle.engine_history.proofs.Tests.{killed_told, counts_hart}
use Rattle.engine_history.proofs.Lists.{any-push}
use Rattle.engine_history.proofs.Settle.{waits_in, blocked, is_due, Passed, drop_blocked}
use Rattle.engine_history.proofs.Grown.{Grew, Old, Each2, later_some, complete_stays}
use Rattle.engine_history.proofs.Ready.{counted, ready_is}

-- ---- the answers are the engine's

pub record IsAnswer (params : Params) (set : List UnitTable) (a : Answer) : Type 0 where
  pub accept : a.response.accept ≡ is_some (hit_of set params a.word)
  pub reads_are : a.response.register_read.0 ≡ register_read_of (hit_by params set a)

abbrev pub AllAnswers : Params → List UnitTable → List Life → Type 0
AllAnswers params set [] = Unit {0}
AllAnswers params set (l ∷ ls) = IfSome l.answer (IsAnswer params set) × AllAnswers params set ls

-- ---- the uses of a cycle, with the ready cycles and results of the last one

abbrev pub dress : Use → Bool → Option ℕ → ℕ → Use
dress u finished ready result = record u { finished = finished; ready = ready; result = result }

abbrev pub dressed : Params → List UnitTable → List Life → List Life → List Use
dressed params set [] now = []
dressed params set (l ∷ ls) [] = []
dressed params set (l ∷ ls) (n ∷ now) = dress (use_told params set n) (is_some n.finish) (ready_cycle l ls) (result_told params set l ls) ∷ dressed params set ls now

-- ---- the tests of one use

pub accepted_told : (params : Params) (set : List UnitTable) (o : Option Answer) → IfSome o (IsAnswer params set) → is_some (hit_told params set o) ≡ option_map_or (λ (a : Answer). a.response.accept) o false
accepted_told params set None a = refl
accepted_told params set (Some x) a = go x.response.accept (hit_of set params x.word) a.accept
  where
    go : (t : Bool) (o : Option Hit) → t ≡ is_some o → is_some (if t then o else None) ≡ t
    go true o q = sym q
    go false o q = refl

next_same : (params : Params) (set : List UnitTable) (hart : ℕ) (n : Life) (f : Bool) (r : Option ℕ) (x : ℕ) → IfSome n.answer (IsAnswer params set) → is_next hart (dress (use_told params set n) f r x) ≡ (counts hart n && is_none r)
next_same params set hart n f r x a =
    ap₂ (λ a k. (n.key.hart == hart) && (a && (not k && is_none r))) (accepted_told params set n.answer a) (killed_told n.verdict)
    ∙ go (n.key.hart == hart) (is_accepted n) (not (is_killed n)) (is_none r)
  where
    go : (a b c d : Bool) → (a && (b && (c && d))) ≡ ((a && (b && c)) && d)
    go true true c d = refl
    go true false c d = refl
    go false b c d = refl

released_same : (v : Option Verdict) → facts.is_released (decision_told v) ≡ is_some (release_by v)
released_same None = refl
released_same (Some v) = go v.kill
  where
    go : (k : Bool) → facts.is_released (verdict_of k) ≡ is_some (if k then None else Some v.cycle)
    go true = refl
    go false = refl

complete_test : (params : Params) (set : List UnitTable) (n : Life) → IfSome n.answer (IsAnswer params set) → is_accepted n ≡ true → is_complete (use_told params set n) ≡ is_some (complete_cycle n)
complete_test params set n a h = go n.answer a h ∙ sym (later_some (answer_cycle n) (later (operands_cycle n) (release_by n.verdict)) ∙ ap (λ t. is_some (answer_cycle n) && t) (later_some (operands_cycle n) (release_by n.verdict)))
  where
    operands : (t : Bool) → is_some (if not t then option_map (λ (o : Operands). o.cycle) n.operands else Some 0) ≡ (is_some n.operands || t)
    operands true = or_true (is_some n.operands)
      where
        or_true : (t : Bool) → true ≡ (t || true)
        or_true true = refl
        or_true false = refl
    operands false = there n.operands
      where
        there : (o : Option Operands) → is_some (option_map (λ (o : Operands). o.cycle) o) ≡ (is_some o || false)
        there None = refl
        there (Some o) = refl

    swap : (a b : Bool) → (a && b) ≡ (b && a)
    swap true true = refl
    swap true false = refl
    swap false true = refl
    swap false false = refl

    go : (o : Option Answer) → IfSome o (IsAnswer params set) → option_map_or (λ (a : Answer). a.response.accept) o false ≡ true
        → (facts.is_released (decision_told n.verdict) && (is_some n.operands || (register_read_of (hit_told params set o) == 0)))
        ≡ (is_some (option_map (λ (a : Answer). a.cycle) o) && (is_some (if not (option_map_or (λ (a : Answer). a.response.register_read.0) o 0 == 0) then option_map (λ (o : Operands). o.cycle) n.operands else Some 0) && is_some (release_by n.verdict)))
    go None a h = absurd (cc)
    go (Some x) a h =
        ap₂ (λ r k. r && (is_some n.operands || (k == 0))) (released_same n.verdict) (sym a.reads_are)
        ∙ ap (λ t. is_some (release_by n.verdict) && t) (sym (operands (x.response.register_read.0 == 0)))
        ∙ swap (is_some (release_by n.verdict)) _

-- a use that counts was accepted
counts_accepted : (hart : ℕ) (n : Life) → counts hart n ≡ true → is_accepted n ≡ true
counts_accepted hart n h = (both-true (is_accepted n) _ (both-true (n.key.hart == hart) _ h).1).0

-- ---- which use holds back the younger ones

some_is : {A : Type 0} (o : Option A) → is_some o ≡ not (is_none o)
some_is None = refl
some_is (Some x) = refl

-- a ready use is complete
ready_complete : (l : Life) (older : List Life) (m : ℕ) → ready_cycle l older ≡ Some m → is_some (complete_cycle l) ≡ true
ready_complete l older m h = ap is_some (ready_is l older m h).later_are.one_is

complete_some : (cycle : ℕ) (l n : Life) → Grew cycle l n → is_some (complete_cycle l) ≡ true → is_some (complete_cycle n) ≡ true
complete_some cycle l n g h = go (complete_cycle l) refl h
  where
    go : (o : Option ℕ) → complete_cycle l ≡ o → is_some o ≡ true → is_some (complete_cycle n) ≡ true
    go None q h = absurd (cc)
    go (Some m) q h = ap is_some (complete_stays cycle m l n g q)

waits_same : (params : Params) (set : List UnitTable) (hart cycle : ℕ) (l n : Life) (older : List Life) (f : Bool) (x : ℕ) → Grew cycle l n → IfSome n.answer (IsAnswer params set)
    → waits_in hart (dress (use_told params set n) f (ready_cycle l older) x) ≡ (counts hart n && is_none (complete_cycle n))
waits_same params set hart cycle l n older f x g a =
    ap (λ t. t && not (is_complete (use_told params set n))) (next_same params set hart n f (ready_cycle l older) x a)
    ∙ go (counts hart n) refl (ready_cycle l older) refl
  where
    go : (t : Bool) → counts hart n ≡ t → (r : Option ℕ) → ready_cycle l older ≡ r → ((t && is_none r) && not (is_complete (use_told params set n))) ≡ (t && is_none (complete_cycle n))
    go true c None q = ap not (complete_test params set n a (counts_accepted hart n c) ∙ some_is (complete_cycle n)) ∙ twice (is_none (complete_cycle n))
      where
        twice : (t : Bool) → not (not t) ≡ t
        twice true = refl
        twice false = refl
    go true c (Some m) q = sym (low (is_none (complete_cycle n)) (sym (some_is (complete_cycle n)) ∙ complete_some cycle l n g (ready_complete l older m q)))
      where
        low : (t : Bool) → not t ≡ true → t ≡ false
        low true h = cc
        low false h = refl
    go false c r q = refl

-- ---- what is left out of the list is passed over

-- each older use of a key is over: it doesn't count, or is ready
abbrev pub Over : Key → List Life → Type 0
Over key [] = Unit {0}
Over key (l ∷ ls) = (same_key l.key key ≡ true → counts l.key.hart l ≡ true → is_ready l ls ≡ true) × Over key ls

abbrev pub AllOver : List Life → Type 0
AllOver [] = Unit {0}
AllOver (l ∷ ls) = Over l.key ls × AllOver ls

passed_over : (params : Params) (set : List UnitTable) (hart cycle : ℕ) (key : Key) (ls now : List Life) → Each2 (Old cycle) ls now → AllAnswers params set now → Over key ls → Passed hart key (dressed params set ls now)
passed_over params set hart cycle key [] now e a o = tt
passed_over params set hart cycle key (l ∷ ls) [] e a o = tt
passed_over params set hart cycle key (l ∷ ls) (n ∷ now) e a o = (
  λ k. next_same params set hart n (is_some n.finish) (ready_cycle l ls) (result_told params set l ls) a.0 ∙ go (counts hart n) refl (ap (λ x. same_key x key) (sym e.0.grew.key) ∙ k),
  passed_over params set hart cycle key ls now e.1 a.1 o.1,
)
  where
    ready : counts hart n ≡ true → same_key l.key key ≡ true → is_ready l ls ≡ true
    ready c k =
        let d = counted hart cycle l n e.0 c in
        o.0 k (ap (λ h. counts h l) (counts_hart hart l d) ∙ d)

    go : (t : Bool) → counts hart n ≡ t → same_key l.key key ≡ true → (t && is_none (ready_cycle l ls)) ≡ false
    go true c k = on (ready_cycle l ls) (ready c k)
      where
        on : (r : Option ℕ) → is_some r ≡ true → is_none r ≡ false
        on None h = cc
        on (Some m) h = refl
    go false c k = refl

passed_push : (hart : ℕ) (key : Key) (us : List Use) (u : Use) → Passed hart key us → (same_key u.key key ≡ true → is_next hart u ≡ false) → Passed hart key (us ++ u ∷ [])
passed_push hart key [] u p h = (h, tt)
passed_push hart key (x ∷ us) u p h = (p.0, passed_push hart key us u p.1 h)

passed_others : (hart : ℕ) (key other : Key) (us : List Use) → Passed hart key us → Passed hart key (others other us)
passed_others hart key other [] p = tt
passed_others hart key other (u ∷ us) p = go (same_key u.key other) (passed_others hart key other us p.1)
  where
    go : (t : Bool) → Passed hart key (others other us) → Passed hart key (if not t then u ∷ others other us else others other us)
    go true r = r
    go false r = (p.0, r)

pub passed_latest : (hart : ℕ) (key : Key) (us : List Use) → Passed hart key us → Passed hart key (latest_uses us)
passed_latest hart key [] p = tt
passed_latest hart key (u ∷ us) p = passed_push hart key (others u.key (latest_uses us)) u (passed_others hart key u.key (latest_uses us) (passed_latest hart key us p.1)) p.0

-- the older uses of the key of a use are passed over
pub passed_older : (params : Params) (set : List UnitTable) (hart cycle : ℕ) (l n : Life) (older newer : List Life) → Grew cycle l n → Each2 (Old cycle) older newer → AllAnswers params set newer → Over l.key older → Passed hart n.key (latest_uses (dressed params set older newer))
passed_older params set hart cycle l n older newer g e a o =
    passed_latest hart n.key (dressed params set older newer) (passed_over params set hart cycle n.key older newer e a (subst (λ k. Over k older) (sym g.key) o))

-- ---- the uses of a hart that are complete

blocked_same : (params : Params) (set : List UnitTable) (hart cycle : ℕ) (ls now : List Life) → Each2 (Old cycle) ls now → AllAnswers params set now → AllOver ls → blocked hart (latest_uses (dressed params set ls now)) ≡ is_none (all_complete hart now)
blocked_same params set hart cycle [] [] e a o = refl
blocked_same params set hart cycle [] (n ∷ now) e a o = absurd e
blocked_same params set hart cycle (l ∷ ls) [] e a o = absurd e
blocked_same params set hart cycle (l ∷ ls) (n ∷ now) e a o =
    any-push (waits_in hart) (others n.key (latest_uses (dressed params set ls now))) _
    ∙ ap₂ (λ x y. x || y) (drop_blocked hart n.key (latest_uses (dressed params set ls now)) (passed_older params set hart cycle l n ls now e.0.grew e.1 a.1 o.0) ∙ blocked_same params set hart cycle ls now e.1 a.1 o.1)
    (waits_same params set hart cycle l n ls (is_some n.finish) (result_told params set l ls) e.0.grew a.0)
    ∙ go (counts hart n)
  where
    or_none : (a b : Option ℕ) → (is_none b || is_none a) ≡ is_none (later a b)
    or_none None None = refl
    or_none None (Some b) = refl
    or_none (Some a) None = refl
    or_none (Some a) (Some b) = refl

    or_false : (t : Bool) → (t || false) ≡ t
    or_false true = refl
    or_false false = refl

    go : (t : Bool) → (is_none (all_complete hart now) || (t && is_none (complete_cycle n))) ≡ is_none (if t then later (complete_cycle n) (all_complete hart now) else all_complete hart now)
    go true = or_none (complete_cycle n) (all_complete hart now)
    go false = or_false (is_none (all_complete hart now))

-- whether a use is ready with this cycle
pub due_same : (params : Params) (set : List UnitTable) (hart cycle : ℕ) (l n : Life) (older newer : List Life) (f : Bool) (x : ℕ) → Each2 (Old cycle) older newer → AllAnswers params set (n ∷ newer) → AllOver (l ∷ older)
    → is_due hart (latest_uses (dressed params set older newer)) (dress (use_told params set n) f (ready_cycle l older) x)
    ≡ (is_none (ready_cycle l older) && (counts hart n && (is_some (complete_cycle n) && is_some (all_complete hart newer))))
due_same params set hart cycle l n older newer f x e a o =
    ap₂ (λ s b. s && (is_complete (use_told params set n) && not b)) (next_same params set hart n f (ready_cycle l older) x a.0) (blocked_same params set hart cycle older newer e a.1 o.1)
    ∙ ap (λ t. (counts hart n && is_none (ready_cycle l older)) && (is_complete (use_told params set n) && t)) (sym (some_is (all_complete hart newer)))
    ∙ go (counts hart n) refl (is_none (ready_cycle l older))
  where
    none : (t : Bool) → false ≡ (t && false)
    none true = refl
    none false = refl

    go : (c : Bool) → counts hart n ≡ c → (r : Bool) → ((c && r) && (is_complete (use_told params set n) && is_some (all_complete hart newer))) ≡ (r && (c && (is_some (complete_cycle n) && is_some (all_complete hart newer))))
    go true q true = ap (λ t. t && is_some (all_complete hart newer)) (complete_test params set n a.0 (counts_accepted hart n q))
    go true q false = refl
    go false q r = none r

-- in its own hart
pub due_own : (params : Params) (set : List UnitTable) (cycle : ℕ) (l n : Life) (older newer : List Life) (f : Bool) (x : ℕ) → Each2 (Old cycle) older newer → AllAnswers params set (n ∷ newer) → AllOver (l ∷ older)
    → is_due n.key.hart (latest_uses (dressed params set older newer)) (dress (use_told params set n) f (ready_cycle l older) x)
    ≡ (is_none (ready_cycle l older) && is_ready n newer)
due_own params set cycle l n older newer f x e a o =
    due_same params set n.key.hart cycle l n older newer f x e a o
    ∙ ap (λ t. is_none (ready_cycle l older) && t) (go (counts n.key.hart n))
  where
    go : (c : Bool) → (c && (is_some (complete_cycle n) && is_some (all_complete n.key.hart newer))) ≡ is_some (if c then later (complete_cycle n) (all_complete n.key.hart newer) else None)
    go true = sym (later_some (complete_cycle n) (all_complete n.key.hart newer))
    go false = refl
