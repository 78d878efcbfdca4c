-- So the units make of the uses of a cycle the uses that the history tells.
use Rattle.std.proofs.Common.{if◌then◌else◌, ◌≡◌, ◌⊎◌, inl, inr, ◌++◌, ◌+◌, ◌==◌, ◌<◌, ◌&&◌, ℕ, Bool, true, false, Option, Some, None, List, [], ◌∷◌, length, refl, sym, ap, ap₂, ◌∙◌, subst}
use Rattle.std.specs.Prelude.{is_none, is_some, slice_index_or}
use Rattle.std.proofs.lemmas.Bool.{eqb-true, eq-eqb}
use Rattle.xif_base.specs.declared.params.Key.{Key}
use Rattle.xif_base.specs.declared.params.Params.{Params}
use Rattle.xif_base.specs.Params.{IsInRange}
use Rattle.coproc_config.specs.Set.{UnitTable}
use Rattle.coproc_config.specs.Apply.{Outcome}
use Rattle.xif_session.proofs.Options.{no_true}
use Rattle.cycle_spec.specs.declared.use_of.Use.{Use}
use Rattle.cycle_spec.specs.Engine.{is_complete, outcome_of, with_ready, units_behind, ready_in_harts}
use Rattle.engine_history.specs.Lives.{Life}
use Rattle.engine_history.specs.Told.{use_told, others, latest_uses, counts, ready_cycle, is_ready, outcome_told, units_told, result_told, whole_use, whole_uses}
use Rattle.engine_history.proofs.Settle.{ready_one, push_at, Passed, drop_harts}
use Rattle.engine_history.proofs.Grown.{Grew, Old, Each2, Grown, complete_same}
use Rattle.engine_history.proofs.Ready.{counted, ready_is, ready_stays, ready_comes}
use Rattle.engine_history.proofs.Units.{dress, dressed, passed_older, due_own}
use Rattle.engine_history.proofs.Applied.{one_dropped, Idle, ready_idle, idle_behind, outcome_same, IsCycle, older_cycle, old_grown, units_ready, units_other, units_cycle}

-- ---- one use

one_settled : (params : Params) (set : List UnitTable) (cycle : ℕ) (st : List (List ℕ)) (l n : Life) (ls now : List Life) → IsInRange params → Grew cycle l n → Each2 (Old cycle) ls now → IsCycle params set cycle (l ∷ ls) (n ∷ now)
    → (counts n.key.hart n ≡ true → ready_cycle l ls ≡ None → st ≡ units_told params set n.key.hart ls)
    → ready_one set cycle n.key.hart st (latest_uses (dressed params set ls now)) (dress (use_told params set n) (is_some n.finish) (ready_cycle l ls) (result_told params set l ls)) ≡ whole_use params set n now
one_settled params set cycle st l n ls now range g e c start =
    ap (λ t. if t then with_ready cycle (outcome_of set (behind st) u).result u else u) (due_own params set cycle l n ls now (is_some n.finish) (result_told params set l ls) e c.answers c.over)
    ∙ go (ready_cycle l ls) refl
  where
    older : List Use
    older = latest_uses (dressed params set ls now)

    u : Use
    u = dress (use_told params set n) (is_some n.finish) (ready_cycle l ls) (result_told params set l ls)

    behind : List (List ℕ) → List (List ℕ)
    behind s = units_behind set is_complete n.key.hart s older

    hart_is : n.key.hart ≡ l.key.hart
    hart_is = ap (λ (k : Key). k.hart) g.key

    cycled : behind (units_told params set n.key.hart ls) ≡ units_told params set n.key.hart now
    cycled = units_cycle params set n.key.hart cycle ls now range (old_grown cycle ls now e) (older_cycle params set cycle l n ls now c)

    result_if : (x : Life) (xs : List Life) (t : Bool) → is_ready x xs ≡ t → result_told params set x xs ≡ (if t then (outcome_told params set (units_told params set x.key.hart xs) x).result else 0)
    result_if x xs t q = ap (λ t. if t then (outcome_told params set (units_told params set x.key.hart xs) x).result else 0) q

    -- it is ready now
    now_ready : (r : Option ℕ) → ready_cycle n now ≡ r → ready_cycle l ls ≡ None → (if is_some r then with_ready cycle (outcome_of set (behind st) u).result u else u) ≡ whole_use params set n now
    now_ready None q none =
        ap₂ (λ r x. dress (use_told params set n) (is_some n.finish) r x) (none ∙ sym q) (result_if l ls false (ap is_some none) ∙ sym (result_if n now false (ap is_some q)))
    now_ready (Some k) q none =
        let k_is : k ≡ cycle = ready_comes cycle k l n ls now g e c.grouped c.by none q in
        let st_is : behind st ≡ units_told params set n.key.hart now = ap behind (start (ready_is n now k q).counts_is none) ∙ cycled in
        ap₂ (λ r x. dress (use_told params set n) (is_some n.finish) r x) (sym (q ∙ ap Some k_is))
        (ap (λ s. (outcome_told params set s n).result) st_is ∙ sym (result_if n now true (ap is_some q)))

    go : (r : Option ℕ) → ready_cycle l ls ≡ r → (if is_none r && is_ready n now then with_ready cycle (outcome_of set (behind st) u).result u else u) ≡ whole_use params set n now
    go None q = now_ready (ready_cycle n now) refl q
    go (Some m) q =
        let stays = ready_stays cycle m l n ls now g e c.grouped q in
        let later = (ready_is l ls m q).later_are in
        let same = complete_same cycle later.one l n g later.one_is in
        let idle : Idle n.key.hart ls = subst (λ k. Idle k ls) (sym hart_is) (ready_idle l ls m q) in
        let units : units_told params set l.key.hart ls ≡ units_told params set n.key.hart now =
        ap (λ k. units_told params set k ls) (sym hart_is) ∙ sym (idle_behind params set n.key.hart cycle (units_told params set n.key.hart ls) ls now e c.answers.1 c.over.1 idle) ∙ cycled in
        ap₂ (λ r x. dress (use_told params set n) (is_some n.finish) r x) (q ∙ sym stays)
        (result_if l ls true (ap is_some q)
        ∙ ap (λ (o : Outcome). o.result) (sym (outcome_same params set (units_told params set l.key.hart ls) l n range c.answers.0 same))
        ∙ ap (λ s. (outcome_told params set s n).result) units
        ∙ sym (result_if n now true (ap is_some stays)))

-- ---- one more use in the list

settle_more : (set : List UnitTable) (cycle : ℕ) (states : List (List (List ℕ))) (u w : Use) (us ws : List Use) → u.key.hart < length states → w.key ≡ u.key → ((h : ℕ) → Passed h u.key (latest_uses us))
    → ready_one set cycle u.key.hart (slice_index_or states u.key.hart []) (latest_uses us) u ≡ w
    → ready_in_harts set cycle 0 states (latest_uses us) ≡ latest_uses ws
    → ready_in_harts set cycle 0 states (latest_uses (u ∷ us)) ≡ latest_uses (w ∷ ws)
settle_more set cycle states u w us ws l k p one rest =
    push_at set cycle states (others u.key (latest_uses us)) u l
    ∙ ap₂ (λ xs v. xs ++ v ∷ []) (drop_harts set cycle 0 u.key states (latest_uses us) p ∙ ap (others u.key) rest ∙ ap (λ x. others x (latest_uses ws)) (sym k))
    (one_dropped set cycle u.key.hart (slice_index_or states u.key.hart []) u.key (latest_uses us) u (p u.key.hart) ∙ one)

-- each use is of a hart that there is
abbrev pub AllHarts : ℕ → List Life → Type 0
AllHarts harts [] = Unit {0}
AllHarts harts (l ∷ ls) = (l.key.hart < harts) × AllHarts harts ls

-- the accumulators behind all uses, for the older ones
abbrev Behind : Params → List UnitTable → List (List (List ℕ)) → List Life → ℕ → Type 0
Behind params set states ls h = Idle h ls ⊎ (slice_index_or states h [] ≡ units_told params set h ls)

behind_older : (params : Params) (set : List UnitTable) (states : List (List (List ℕ))) (l : Life) (ls : List Life) (h : ℕ) → Behind params set states (l ∷ ls) h → Behind params set states ls h
behind_older params set states l ls h (inl i) = inl i.1
behind_older params set states l ls h (inr q) = go (l.key.hart == h) refl (ready_cycle l ls) refl
  where
    go : (t : Bool) → (l.key.hart == h) ≡ t → (r : Option ℕ) → ready_cycle l ls ≡ r → Behind params set states ls h
    go false k r e = inr (q ∙ units_other params set h l ls k)
    go true k None e = inr (q ∙ units_ready params set h l ls false k (ap is_some e))
    go true k (Some m) e = inl (subst (λ k. Idle k ls) (eqb-true l.key.hart h k) (ready_idle l ls m e))

-- where a use isn't ready, they are those of the older ones
behind_here : (params : Params) (set : List UnitTable) (states : List (List (List ℕ))) (l : Life) (ls : List Life) (h : ℕ) → l.key.hart ≡ h → slice_index_or states h [] ≡ units_told params set h (l ∷ ls) → ready_cycle l ls ≡ None → slice_index_or states h [] ≡ units_told params set h ls
behind_here params set states l ls h k q none = q ∙ units_ready params set h l ls false (eq-eqb l.key.hart h k) (ap is_some none)

settle_older : (params : Params) (set : List UnitTable) (cycle : ℕ) (states : List (List (List ℕ))) (ls now : List Life) → IsInRange params → Each2 (Old cycle) ls now → IsCycle params set cycle ls now → AllHarts (length states) now → ((h : ℕ) → h < length states → Behind params set states ls h)
    → ready_in_harts set cycle 0 states (latest_uses (dressed params set ls now)) ≡ latest_uses (whole_uses params set now)
settle_older params set cycle states [] [] range e c a b = none states 0
  where
    none : (states : List (List (List ℕ))) (h : ℕ) → ready_in_harts set cycle h states [] ≡ []
    none [] h = refl
    none (st ∷ states) h = none states (h + 1)
settle_older params set cycle states [] (n ∷ now) range e c a b = absurd e
settle_older params set cycle states (l ∷ ls) [] range e c a b = absurd e
settle_older params set cycle states (l ∷ ls) (n ∷ now) range e c a b =
    settle_more set cycle states (dress (use_told params set n) (is_some n.finish) (ready_cycle l ls) (result_told params set l ls)) (whole_use params set n now) (dressed params set ls now) (whole_uses params set now) a.0 refl
    (λ h. passed_older params set h cycle l n ls now e.0.grew e.1 c.answers.1 c.over.0)
    (one_settled params set cycle (slice_index_or states n.key.hart []) l n ls now range e.0.grew e.1 c (λ k none. start (b n.key.hart a.0) k none))
    (settle_older params set cycle states ls now range e.1 (older_cycle params set cycle l n ls now c) a.1 (λ h i. behind_older params set states l ls h (b h i)))
  where
    start : Behind params set states (l ∷ ls) n.key.hart → counts n.key.hart n ≡ true → ready_cycle l ls ≡ None → slice_index_or states n.key.hart [] ≡ units_told params set n.key.hart ls
    start (inl i) k none = no_true (is_some (ready_cycle l ls)) (i.0 (counted n.key.hart cycle l n e.0 k)) (ap is_some none)
    start (inr q) k none = behind_here params set states l ls n.key.hart (ap (λ (k : Key). k.hart) (sym e.0.grew.key)) q none

pub settled : (params : Params) (set : List UnitTable) (cycle : ℕ) (states : List (List (List ℕ))) (ls now : List Life) → IsInRange params → Grown cycle ls now → IsCycle params set cycle ls now → AllHarts (length states) now → ((h : ℕ) → h < length states → slice_index_or states h [] ≡ units_told params set h ls)
    → ready_in_harts set cycle 0 states (latest_uses (dressed params set ls now)) ≡ latest_uses (whole_uses params set now)
settled params set cycle states [] [] range g c a b = settle_older params set cycle states [] [] range g c a (λ h i. inr (b h i))
settled params set cycle states [] (n ∷ now) range g c a b = absurd g
settled params set cycle states (l ∷ ls) [] range g c a b = absurd g
settled params set cycle states (l ∷ ls) (n ∷ now) range g c a b =
    settle_more set cycle states (dress (use_told params set n) (is_some n.finish) (ready_cycle l ls) (result_told params set l ls)) (whole_use params set n now) (dressed params set ls now) (whole_uses params set now) a.0 refl
    (λ h. passed_older params set h cycle l n ls now g.0 g.1 c.answers.1 c.over.0)
    (one_settled params set cycle (slice_index_or states n.key.hart []) l n ls now range g.0 g.1 c (λ k none. behind_here params set states l ls n.key.hart (ap (λ (k : Key). k.hart) (sym g.0.key)) (b n.key.hart a.0) none))
    (settle_older params set cycle states ls now range g.1 (older_cycle params set cycle l n ls now c) a.1 (λ h i. behind_older params set states l ls h (inr (b h i))))
