-- The accumulators, ready cycles and results after a cycle are those that the history tells.
use Rattle.std.proofs.Common.{if◌then◌else◌, ◌≡◌, ◌++◌, ◌==◌, ◌&&◌, not, ℕ, Bool, true, false, Option, Some, None, IfSome, List, [], ◌∷◌, refl, sym, ap, ap₂, ◌∙◌, subst}
use Rattle.std.specs.Prelude.{is_none, is_some}
use Rattle.std.specs.Option.{option_map_or}
use Rattle.std.proofs.lemmas.Bool.{eqb-true}
use Rattle.xif_base.specs.declared.params.Key.{Key}
use Rattle.xif_base.specs.declared.params.Params.{Params}
use Rattle.xif_base.specs.Params.{IsInRange}
use Rattle.coproc_config.specs.Set.{UnitTable}
use Rattle.coproc_config.specs.Accept.{hit_of}
use Rattle.coproc_config.specs.Apply.{Outcome}
use Rattle.xif_session.proofs.Options.{no_true}
use Rattle.cycle_spec.specs.declared.use_of.Use.{Use}
use Rattle.cycle_spec.specs.Engine.{register_read_of, is_complete, is_next, outcome_by, outcome_of, with_ready, units_behind}
use Rattle.engine_history.specs.Lives.{Life, Answer, Operands, is_accepted, is_killed}
use Rattle.engine_history.specs.Told.{hit_told, use_told, others, latest_uses, later, reads, complete_cycle, counts, all_complete, ready_cycle, is_ready, outcome_told, units_told, result_told}
use Rattle.engine_history.proofs.Tests.{counts_hart}
use Rattle.engine_history.proofs.Settle.{is_due, ready_one, push_units, Passed, drop_blocked, drop_units}
use Rattle.engine_history.proofs.Grown.{Old, Each2, Grown, later_is, Same, complete_same}
use Rattle.engine_history.proofs.Ready.{Grouped, AllBy, counted, ready_is, ready_stays}
use Rattle.engine_history.proofs.Lanes.{any_lanes}
use Rattle.engine_history.proofs.Units.{IsAnswer, AllAnswers, dress, dressed, AllOver, passed_older, due_same, due_own}

-- ---- one more use, where the older uses of its key are passed over

push_dropped : (set : List UnitTable) (h : ℕ) (st : List (List ℕ)) (key : Key) (us : List Use) (u : Use) → Passed h key us
    → units_behind set is_complete h st (others key us ++ u ∷ []) ≡ (if is_due h us u then (outcome_of set (units_behind set is_complete h st us) u).state else units_behind set is_complete h st us)
push_dropped set h st key us u p =
    push_units set h st (others key us) u
    ∙ ap₂ (λ b s. if is_next h u && (is_complete u && not b) then (outcome_of set s u).state else s) (drop_blocked h key us p) (drop_units set h key st us p)

pub one_dropped : (set : List UnitTable) (cycle h : ℕ) (st : List (List ℕ)) (key : Key) (us : List Use) (u : Use) → Passed h key us → ready_one set cycle h st (others key us) u ≡ ready_one set cycle h st us u
one_dropped set cycle h st key us u p =
    ap₂ (λ b s. if is_next h u && (is_complete u && not b) then with_ready cycle (outcome_of set s u).result u else u) (drop_blocked h key us p) (drop_units set h key st us p)

-- ---- where each use that counts is ready, nothing more is applied

abbrev pub Idle : ℕ → List Life → Type 0
Idle hart [] = Unit {0}
Idle hart (l ∷ ls) = (counts hart l ≡ true → is_ready l ls ≡ true) × Idle hart ls

-- the older uses of a ready one
all_idle : (hart m : ℕ) (ls : List Life) → all_complete hart ls ≡ Some m → Idle hart ls
all_idle hart m [] h = tt
all_idle hart m (l ∷ ls) h = go (counts hart l) refl h (λ k q. all_idle hart k ls q)
  where
    go : (t : Bool) → counts hart l ≡ t → (if t then later (complete_cycle l) (all_complete hart ls) else all_complete hart ls) ≡ Some m → ((k : ℕ) → all_complete hart ls ≡ Some k → Idle hart ls)
        → (counts hart l ≡ true → is_ready l ls ≡ true) × Idle hart ls
    go true c h ih =
        let x = later_is (complete_cycle l) (all_complete hart ls) m h in
        let q : l.key.hart ≡ hart = counts_hart hart l c in
        (λ k. ap (λ t. is_some (if t then later (complete_cycle l) (all_complete l.key.hart ls) else None)) (ap (λ h. counts h l) q ∙ c) ∙ ap (λ k. is_some (later (complete_cycle l) (all_complete k ls))) q ∙ ap is_some h, ih x.other x.other_is)
    go false c h ih = (λ k. no_true (counts hart l) k c, ih m h)

pub ready_idle : (l : Life) (older : List Life) (m : ℕ) → ready_cycle l older ≡ Some m → Idle l.key.hart older
ready_idle l older m h = let y = (ready_is l older m h).later_are in all_idle l.key.hart y.other older y.other_is

none_if : (r : Option ℕ) → is_some r ≡ true → is_none r ≡ false
none_if None h = cc
none_if (Some m) h = refl

pub idle_behind : (params : Params) (set : List UnitTable) (hart cycle : ℕ) (st : List (List ℕ)) (ls now : List Life) → Each2 (Old cycle) ls now → AllAnswers params set now → AllOver ls → Idle hart ls
    → units_behind set is_complete hart st (latest_uses (dressed params set ls now)) ≡ st
idle_behind params set hart cycle st [] now e a o i = refl
idle_behind params set hart cycle st (l ∷ ls) [] e a o i = absurd e
idle_behind params set hart cycle st (l ∷ ls) (n ∷ now) e a o i =
    push_dropped set hart st n.key (latest_uses (dressed params set ls now)) u (passed_older params set hart cycle l n ls now e.0.grew e.1 a.1 o.0)
    ∙ ap (λ t. if t then (outcome_of set (units_behind set is_complete hart st (latest_uses (dressed params set ls now))) u).state else units_behind set is_complete hart st (latest_uses (dressed params set ls now)))
    (due_same params set hart cycle l n ls now (is_some n.finish) (result_told params set l ls) e.1 a o ∙ go (counts hart n) refl)
    ∙ idle_behind params set hart cycle st ls now e.1 a.1 o.1 i.1
  where
    u : Use
    u = dress (use_told params set n) (is_some n.finish) (ready_cycle l ls) (result_told params set l ls)

    none : (t : Bool) → (t && false) ≡ false
    none true = refl
    none false = refl

    go : (t : Bool) → counts hart n ≡ t → (is_none (ready_cycle l ls) && (t && (is_some (complete_cycle n) && is_some (all_complete hart now)))) ≡ false
    go true q = ap (λ r. r && (is_some (complete_cycle n) && is_some (all_complete hart now))) (none_if (ready_cycle l ls) (i.0 (counted hart cycle l n e.0 q)))
    go false q = none (is_none (ready_cycle l ls))

-- ---- a ready use makes the same as before

pub outcome_same : (params : Params) (set : List UnitTable) (st : List (List ℕ)) (l n : Life) → IsInRange params → IfSome n.answer (IsAnswer params set) → Same l n → outcome_told params set st n ≡ outcome_told params set st l
outcome_same params set st l n range a s =
    go (reads l) refl ∙ ap (λ o. outcome_by set (hit_told params set o) st (use_told params set l).lanes) s.answer
  where
    lanes : Life → List ℕ
    lanes x = (use_told params set x).lanes

    entry : (o : Option Answer) → IfSome o (IsAnswer params set) → (option_map_or (λ (a : Answer). a.response.register_read.0) o 0 == 0) ≡ true → outcome_by set (hit_told params set o) st (lanes n) ≡ outcome_by set (hit_told params set o) st (lanes l)
    entry None a z = refl
    entry (Some x) a z = on x.response.accept (sym a.reads_are ∙ eqb-true x.response.register_read.0 0 z)
      where
        on : (t : Bool) → register_read_of (if t then hit_of set params x.word else None) ≡ 0 → outcome_by set (if t then hit_of set params x.word else None) st (lanes n) ≡ outcome_by set (if t then hit_of set params x.word else None) st (lanes l)
        on true q = any_lanes params set x.word st (lanes n) (lanes l) range q
        on false q = refl

    not_not : (t : Bool) → not t ≡ false → t ≡ true
    not_not true h = refl
    not_not false h = cc

    go : (t : Bool) → reads l ≡ t → outcome_told params set st n ≡ outcome_by set (hit_told params set n.answer) st (lanes l)
    go true q = ap (λ o. outcome_by set (hit_told params set n.answer) st (option_map_or (λ (o : Operands). o.lanes) o (0 ∷ 0 ∷ 0 ∷ []))) (s.operands q)
    go false q = entry n.answer a (ap (λ o. option_map_or (λ (a : Answer). a.response.register_read.0) o 0 == 0) s.answer ∙ not_not _ q)

-- ---- what holds of a history before a cycle and after it

pub record IsCycle (params : Params) (set : List UnitTable) (cycle : ℕ) (ls now : List Life) : Type 0 where
  pub grouped : Grouped ls
  pub by : AllBy cycle now
  pub answers : AllAnswers params set now
  pub over : AllOver ls

pub older_cycle : (params : Params) (set : List UnitTable) (cycle : ℕ) (l n : Life) (ls now : List Life) → IsCycle params set cycle (l ∷ ls) (n ∷ now) → IsCycle params set cycle ls now
older_cycle params set cycle l n ls now c = record { grouped = c.grouped.1; by = c.by.1; answers = c.answers.1; over = c.over.1 }

pub old_grown : (cycle : ℕ) (ls now : List Life) → Each2 (Old cycle) ls now → Grown cycle ls now
old_grown cycle [] [] e = tt
old_grown cycle [] (n ∷ now) e = e
old_grown cycle (l ∷ ls) [] e = e
old_grown cycle (l ∷ ls) (n ∷ now) e = (e.0.grew, e.1)

-- ---- the accumulators of a hart

-- a ready use counts for the accumulators as before
pub units_ready : (params : Params) (set : List UnitTable) (hart : ℕ) (l : Life) (older : List Life) (t : Bool) → (l.key.hart == hart) ≡ true → is_ready l older ≡ t
    → units_told params set hart (l ∷ older) ≡ (if t then (outcome_told params set (units_told params set hart older) l).state else units_told params set hart older)
units_ready params set hart l older t h r = ap₂ (λ x y. if x && y then (outcome_told params set (units_told params set hart older) l).state else units_told params set hart older) h r

pub units_other : (params : Params) (set : List UnitTable) (hart : ℕ) (l : Life) (older : List Life) → (l.key.hart == hart) ≡ false → units_told params set hart (l ∷ older) ≡ units_told params set hart older
units_other params set hart l older h = ap (λ x. if x && is_ready l older then (outcome_told params set (units_told params set hart older) l).state else units_told params set hart older) h

pub units_cycle : (params : Params) (set : List UnitTable) (hart cycle : ℕ) (ls now : List Life) → IsInRange params → Grown cycle ls now → IsCycle params set cycle ls now
    → units_behind set is_complete hart (units_told params set hart ls) (latest_uses (dressed params set ls now)) ≡ units_told params set hart now
units_cycle params set hart cycle [] [] range g c = refl
units_cycle params set hart cycle [] (n ∷ now) range g c = absurd g
units_cycle params set hart cycle (l ∷ ls) [] range g c = absurd g
units_cycle params set hart cycle (l ∷ ls) (n ∷ now) range g c =
    push_dropped set hart (units_told params set hart (l ∷ ls)) n.key older u (passed_older params set hart cycle l n ls now g.0 g.1 c.answers.1 c.over.0)
    ∙ go (l.key.hart == hart) refl (units_cycle params set hart cycle ls now range (old_grown cycle ls now g.1) (older_cycle params set cycle l n ls now c))
  where
    older : List Use
    older = latest_uses (dressed params set ls now)

    u : Use
    u = dress (use_told params set n) (is_some n.finish) (ready_cycle l ls) (result_told params set l ls)

    behind : List (List ℕ) → List (List ℕ)
    behind st = units_behind set is_complete hart st older

    hart_is : (n.key.hart == hart) ≡ (l.key.hart == hart)
    hart_is = ap (λ (k : Key). k.hart == hart) g.0.key

    none : (a b : Bool) → (a && (false && b)) ≡ false
    none true b = refl
    none false b = refl

    ready : (r : Option ℕ) → ready_cycle l ls ≡ r → (l.key.hart == hart) ≡ true → behind (units_told params set hart ls) ≡ units_told params set hart now
        → (if is_none r && is_ready n now then (outcome_of set (behind (units_told params set hart (l ∷ ls))) u).state else behind (units_told params set hart (l ∷ ls))) ≡ units_told params set hart (n ∷ now)
    ready None q h ih =
        let before : units_told params set hart (l ∷ ls) ≡ units_told params set hart ls = units_ready params set hart l ls false h (ap is_some q) in
        ap (λ st. if is_ready n now then (outcome_told params set (behind st) n).state else behind st) before
        ∙ ap (λ st. if is_ready n now then (outcome_told params set st n).state else st) ih
        ∙ sym (units_ready params set hart n now (is_ready n now) (hart_is ∙ h) refl)
    ready (Some m) q h ih =
        let before : units_told params set hart (l ∷ ls) ≡ (outcome_told params set (units_told params set hart ls) l).state = units_ready params set hart l ls true h (ap is_some q) in
        let idle : Idle hart ls = subst (λ k. Idle k ls) (eqb-true l.key.hart hart h) (ready_idle l ls m q) in
        let stay : (st : List (List ℕ)) → behind st ≡ st = λ st. idle_behind params set hart cycle st ls now g.1 c.answers.1 c.over.1 idle in
        let same = complete_same cycle (ready_is l ls m q).later_are.one l n g.0 (ready_is l ls m q).later_are.one_is in
        stay (units_told params set hart (l ∷ ls)) ∙ before
        ∙ ap (λ (o : Outcome). o.state) (sym (outcome_same params set (units_told params set hart ls) l n range c.answers.0 same))
        ∙ ap (λ st. (outcome_told params set st n).state) (sym (stay (units_told params set hart ls)) ∙ ih)
        ∙ sym (units_ready params set hart n now true (hart_is ∙ h) (ap is_some (ready_stays cycle m l n ls now g.0 g.1 c.grouped q)))

    due : (l.key.hart == hart) ≡ true → is_due hart older u ≡ (is_none (ready_cycle l ls) && is_ready n now)
    due h =
        let q : hart ≡ n.key.hart = sym (eqb-true n.key.hart hart (hart_is ∙ h)) in
        ap (λ k. is_due k older u) q ∙ due_own params set cycle l n ls now (is_some n.finish) (result_told params set l ls) g.1 c.answers c.over

    go : (t : Bool) → (l.key.hart == hart) ≡ t → behind (units_told params set hart ls) ≡ units_told params set hart now
        → (if is_due hart older u then (outcome_of set (behind (units_told params set hart (l ∷ ls))) u).state else behind (units_told params set hart (l ∷ ls))) ≡ units_told params set hart (n ∷ now)
    go true h ih =
        ap (λ t. if t then (outcome_of set (behind (units_told params set hart (l ∷ ls))) u).state else behind (units_told params set hart (l ∷ ls))) (due h)
        ∙ ready (ready_cycle l ls) refl h ih
    go false h ih =
        ap (λ t. if t then (outcome_of set (behind (units_told params set hart (l ∷ ls))) u).state else behind (units_told params set hart (l ∷ ls)))
        (due_same params set hart cycle l n ls now (is_some n.finish) (result_told params set l ls) g.1 c.answers c.over
        ∙ ap (λ t. is_none (ready_cycle l ls) && ((t && (is_accepted n && not (is_killed n))) && (is_some (complete_cycle n) && is_some (all_complete hart now)))) (hart_is ∙ h)
        ∙ none (is_none (ready_cycle l ls)) (is_some (complete_cycle n) && is_some (all_complete hart now)))
        ∙ ap behind (units_other params set hart l ls h) ∙ ih ∙ sym (units_other params set hart n now (hart_is ∙ h))
