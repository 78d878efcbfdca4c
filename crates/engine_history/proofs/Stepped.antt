-- The steps of the engine on the whole uses that the history tells.
use Rattle.std.proofs.Common.{if◌then◌else◌, ◌≡◌, ◌++◌, ◌==◌, ◌&&◌, ◌||◌, ℕ, Bool, true, false, Option, Some, None, IfSome, List, [], ◌∷◌, map, refl, sym, ap, ap₂, ◌∙◌}
use Rattle.std.specs.Prelude.{is_none, is_some}
use Rattle.std.specs.Option.{option_map, option_map_or}
use Rattle.xif_base.specs.declared.params.Key.{Key}
use Rattle.xif_base.specs.declared.params.Params.{Params}
use Rattle.coproc_config.specs.declared.accept.Hit.{Hit}
use Rattle.coproc_config.specs.Set.{UnitTable}
use Rattle.xif_signals.specs.declared.bus.Bus.{Bus}
use Rattle.xif_session.specs.Facts.{issue_key, register_key, commit_key, result_key, is_issued, is_given, is_undecided, verdict_of}
use Rattle.cycle_spec.specs.declared.use_of.Use.{Use}
use Rattle.cycle_spec.specs.State.{Engine}
use Rattle.cycle_spec.specs.Engine as spec
use Rattle.engine_history.specs.Lives.{Life, Verdict, new_life, latest, start_of, starts, with_start, change_if, at_start, answer_on, accepted_in, answered, operands_on, lanes_on, given, is_in_group, decided_by, decided, finished}
use Rattle.engine_history.specs.Runs.{cpu_of, cop_of, input_of}
use Rattle.engine_history.specs.Told.{hit_by, decision_told, use_told, plain, others, latest_uses, later, complete_cycle, all_complete, counts, ready_cycle, outcome_told, units_told, result_told, whole_use, whole_uses}
use Rattle.engine_history.proofs.Lists.{map_latest}
use Rattle.engine_history.proofs.Fields.{told_uses, names, one_answer, one_given, one_decided, IsTold, IsSound, starts_same, started, answer_both, given_both, decided_both}
use Rattle.engine_history.proofs.Units.{dress, dressed}

-- ---- no use is ready in the cycle in which it starts

counts_new : (hart : ℕ) (key : Key) (start word : ℕ) → counts hart (new_life key start word) ≡ false
counts_new hart key start word = go (key.hart == hart)
  where
    go : (t : Bool) → (t && false) ≡ false
    go true = refl
    go false = refl

pub ready_new : (key : Key) (start word : ℕ) (ls : List Life) → ready_cycle (new_life key start word) ls ≡ None
ready_new key start word ls = ap (λ t. if t then later (complete_cycle (new_life key start word)) (all_complete key.hart ls) else None) (counts_new key.hart key start word)

pub whole_new : (params : Params) (set : List UnitTable) (key : Key) (start word : ℕ) (ls : List Life) → whole_use params set (new_life key start word) ls ≡ spec.new_use key start word
whole_new params set key start word ls =
    ap₂ (λ r x. dress (use_told params set (new_life key start word)) false r x) (ready_new key start word ls) (ap (λ r. if is_some r then (outcome_told params set (units_told params set key.hart ls) (new_life key start word)).result else 0) (ready_new key start word ls))

pub whole_dressed : (params : Params) (set : List UnitTable) (ls : List Life) → whole_uses params set ls ≡ dressed params set ls ls
whole_dressed params set [] = refl
whole_dressed params set (l ∷ ls) = ap (λ us. whole_use params set l ls ∷ us) (whole_dressed params set ls)

-- ---- a change of each use

dressed_map : (params : Params) (set : List UnitTable) (g : Use → Use) (f : Life → Life) → ((l : Life) (r : Option ℕ) (x : ℕ) → g (dress (use_told params set l) (is_some l.finish) r x) ≡ dress (use_told params set (f l)) (is_some (f l).finish) r x)
    → (old now : List Life) → map g (dressed params set old now) ≡ dressed params set old (map f now)
dressed_map params set g f h [] now = refl
dressed_map params set g f h (l ∷ ls) [] = refl
dressed_map params set g f h (l ∷ ls) (n ∷ now) = ap₂ (λ u us. u ∷ us) (h n (ready_cycle l ls) (result_told params set l ls)) (dressed_map params set g f h ls now)

-- what the engine's list is, beside the history
pub record IsDressed (params : Params) (set : List UnitTable) (old : List Life) (us : List Use) (ls : List Life) : Type 0 where
  pub plain_is : map plain us ≡ told_uses params set ls
  pub whole_is : us ≡ latest_uses (dressed params set old ls)

step : (params : Params) (set : List UnitTable) (g : Use → Use) (f : Life → Life) (old : List Life) (us : List Use) (ls : List Life) → ((u : Use) → (g u).key ≡ u.key)
    → ((l : Life) (r : Option ℕ) (x : ℕ) → g (dress (use_told params set l) (is_some l.finish) r x) ≡ dress (use_told params set (f l)) (is_some (f l).finish) r x)
    → us ≡ latest_uses (dressed params set old ls) → map g us ≡ latest_uses (dressed params set old (map f ls))
step params set g f old us ls k h q = ap (map g) q ∙ map_latest g k (dressed params set old ls) ∙ ap latest_uses (dressed_map params set g f h old ls)

-- a change that leaves the end
ends : (t : Bool) (f : Life → Life) (l : Life) → ((l : Life) → (f l).finish ≡ l.finish) → (change_if t f l).finish ≡ l.finish
ends true f l h = h l
ends false f l h = refl

-- ---- the steps

pub start_dressed : (params : Params) (set : List UnitTable) (cycle : ℕ) (last b : Bus) (ls : List Life) (e : Engine) → IsTold params set cycle last ls e → IsSound cycle last ls → e.uses ≡ latest_uses (whole_uses params set ls)
    → IsDressed params set (with_start cycle last b ls) (spec.started_uses e (cpu_of b)) (with_start cycle last b ls)
start_dressed params set cycle last b ls e m s q = record {
  plain_is = started params set cycle last b ls e m s;
  whole_is = go (spec.starts e (cpu_of b)) (starts last b ls) (starts_same params set cycle last b ls e m s);
}
  where
    new : ℕ → Use
    new c = spec.new_use (issue_key b) c b.issue_instr

    go : (t x : Bool) → t ≡ x → (if t then spec.with_start (new e.cycle) e.uses else e.uses)
        ≡ latest_uses (dressed params set (if x then new_life (issue_key b) cycle b.issue_instr ∷ ls else ls) (if x then new_life (issue_key b) cycle b.issue_instr ∷ ls else ls))
    go true true k =
        ap₂ (λ us c. others (issue_key b) us ++ new c ∷ []) q m.cycle_is
        ∙ ap (λ u. others (issue_key b) (latest_uses (whole_uses params set ls)) ++ u ∷ []) (sym (whole_new params set (issue_key b) cycle b.issue_instr ls))
        ∙ ap latest_uses (whole_dressed params set (new_life (issue_key b) cycle b.issue_instr ∷ ls))
    go false false k = q ∙ ap latest_uses (whole_dressed params set ls)
    go true false k = absurd (cc)
    go false true k = absurd (cc)

pub answer_dressed : (params : Params) (set : List UnitTable) (cycle : ℕ) (b : Bus) (hit : Option Hit) (start number : ℕ) (old : List Life) (us : List Use) (ls : List Life)
    → (b.issue_valid ≡ true → start_of (issue_key b) ls ≡ Some start) → number ≡ accepted_in ls
    → (is_issued b ≡ true → hit ≡ hit_by params set (answer_on cycle number b))
    → IsDressed params set old us ls
    → IsDressed params set old (spec.answer_step start hit number (cpu_of b) (cop_of b) us) (answered cycle b ls)
answer_dressed params set cycle b hit start number old us ls named n h q = record {
  plain_is = answer_both params set cycle b hit start number us ls named n h q.plain_is;
  whole_is = go (is_issued b) refl;
}
  where
    f : ℕ → Life → Life
    f k l = record l { answer = Some (answer_on cycle k b) }

    valid : (v r : Bool) → (v && r) ≡ true → v ≡ true
    valid true r h = refl
    valid false r h = cc

    go : (t : Bool) → is_issued b ≡ t → (if t then map (spec.with_answer start hit number) us else us) ≡ latest_uses (dressed params set old (if t then at_start (start_of (issue_key b) ls) (f (accepted_in ls)) ls else ls))
    go true e =
        step params set (spec.with_answer start hit number) (λ l. change_if (l.start == start) (f number) l) old us ls (λ u. refl)
        (λ l r x. ap (λ u. dress u (is_some l.finish) r x) (one_answer params set start cycle number hit b l (h e)) ∙ ap (λ o. dress (use_told params set (change_if (l.start == start) (f number) l)) (is_some o) r x) (sym (ends (l.start == start) (f number) l (λ l. refl)))) q.whole_is
        ∙ ap₂ (λ o k. latest_uses (dressed params set old (at_start o (f k) ls))) (sym (named (valid b.issue_valid b.issue_ready e))) n
    go false e = q.whole_is

pub given_dressed : (params : Params) (set : List UnitTable) (cycle : ℕ) (b : Bus) (old : List Life) (us : List Use) (ls : List Life) → IsDressed params set old us ls
    → IsDressed params set old (spec.given_step (cpu_of b) (cop_of b) us) (given cycle b ls)
given_dressed params set cycle b old us ls q = record {
  plain_is = given_both params set cycle b us ls q.plain_is;
  whole_is = go (is_given b) (spec.latest (register_key b) us) (latest (register_key b) ls) (names params set us ls q.plain_is (register_key b));
}
  where
    f : Life → Life
    f l = record l { operands = Some (operands_on cycle b) }

    go : (t : Bool) (found : Option Use) (o : Option Life) → option_map plain found ≡ option_map (use_told params set) o
        → (if t then spec.given_to found (lanes_on b) us else us) ≡ latest_uses (dressed params set old (if t then at_start (option_map (λ (l : Life). l.start) o) f ls else ls))
    go true None None n = q.whole_is
    go true (Some u) (Some l) n =
        let s : u.start ≡ l.start = ap (λ x. option_map_or (λ (v : Use). v.start) x 0) n in
        ap (λ s. map (spec.with_operands s (lanes_on b)) us) s
        ∙ step params set (spec.with_operands l.start (lanes_on b)) (λ x. change_if (x.start == l.start) f x) old us ls (λ u. refl)
        (λ y r x. ap (λ u. dress u (is_some y.finish) r x) (one_given params set l.start cycle b y) ∙ ap (λ o. dress (use_told params set (change_if (y.start == l.start) f y)) (is_some o) r x) (sym (ends (y.start == l.start) f y (λ l. refl)))) q.whole_is
    go true None (Some l) n = absurd (cc)
    go true (Some u) None n = absurd (cc)
    go false found o n = q.whole_is

pub decided_dressed : (params : Params) (set : List UnitTable) (cycle : ℕ) (b : Bus) (old : List Life) (us : List Use) (ls : List Life) → IsDressed params set old us ls
    → IsDressed params set old (spec.decide_step (cpu_of b) us) (decided cycle b ls)
decided_dressed params set cycle b old us ls q = record {
  plain_is = decided_both params set cycle b us ls q.plain_is;
  whole_is = go b.commit_valid (spec.latest (commit_key b) us) (latest (commit_key b) ls) (names params set us ls q.plain_is (commit_key b));
}
  where
    f : Life → Life
    f l = record l { verdict = Some (record { cycle = cycle; kill = b.commit_kill }) }

    undecided : (v : Option Verdict) → is_undecided (decision_told v) ≡ is_none v
    undecided None = refl
    undecided (Some v) = by v.kill
      where
        by : (k : Bool) → is_undecided (verdict_of k) ≡ false
        by true = refl
        by false = refl

    some_is : (u : Use) (l : Life) → option_map plain (Some u) ≡ option_map (use_told params set) (Some l) → plain u ≡ use_told params set l
    some_is u l h = cc

    group : (u : Use) (l : Life) → plain u ≡ use_told params set l → (t : Bool) → (if t then map (spec.with_decision b.commit_kill u) us else us) ≡ latest_uses (dressed params set old (if t then map (λ x. change_if (is_in_group b.commit_kill l x) f x) ls else ls))
    group u l s true =
        ap (λ x. map (spec.with_decision b.commit_kill x) us) s
        ∙ step params set (spec.with_decision b.commit_kill (use_told params set l)) (λ x. change_if (is_in_group b.commit_kill l x) f x) old us ls (λ u. refl)
        (λ y r x. ap (λ u. dress u (is_some y.finish) r x) (one_decided params set cycle b.commit_kill l y) ∙ ap (λ o. dress (use_told params set (change_if (is_in_group b.commit_kill l y) f y)) (is_some o) r x) (sym (ends (is_in_group b.commit_kill l y) f y (λ l. refl)))) q.whole_is
    group u l s false = q.whole_is

    go : (t : Bool) (found : Option Use) (o : Option Life) → option_map plain found ≡ option_map (use_told params set) o
        → (if t then spec.decided_by b.commit_kill found us else us) ≡ latest_uses (dressed params set old (if t then decided_by cycle b.commit_kill o ls else ls))
    go true None None n = q.whole_is
    go true (Some u) (Some l) n =
        ap (λ t. if t then map (spec.with_decision b.commit_kill u) us else us) (ap (λ (x : Use). is_undecided x.decision) (some_is u l n) ∙ undecided l.verdict)
        ∙ group u l (some_is u l n) (is_none l.verdict)
    go true None (Some l) n = absurd (cc)
    go true (Some u) None n = absurd (cc)
    go false found o n = q.whole_is

-- the end, of the use that is offered
pub finished_dressed : (params : Params) (set : List UnitTable) (cycle : ℕ) (b : Bus) (offered : Option Use) (old : List Life) (us : List Use) (ls : List Life)
    → IfSome offered (λ u. start_of (result_key b) ls ≡ Some u.start) → b.result_valid ≡ is_some offered
    → us ≡ latest_uses (dressed params set old ls)
    → spec.end_step offered (cop_of b) (input_of b) us ≡ latest_uses (dressed params set old (finished cycle b ls))
finished_dressed params set cycle b offered old us ls named v q = go offered b.result_valid b.result_ready named v
  where
    f : Life → Life
    f l = record l { finish = Some cycle }

    or_true : (t : Bool) → (t || true) ≡ true
    or_true true = refl
    or_true false = refl

    or_false : (t : Bool) → (t || false) ≡ t
    or_false true = refl
    or_false false = refl

    one : (t : Bool) (l : Life) (r : Option ℕ) (x : ℕ) → dress (use_told params set l) (is_some l.finish || t) r x ≡ dress (use_told params set (change_if t f l)) (is_some (change_if t f l).finish) r x
    one true l r x = ap (λ t. dress (use_told params set l) t r x) (or_true (is_some l.finish))
    one false l r x = ap (λ t. dress (use_told params set l) t r x) (or_false (is_some l.finish))

    go : (o : Option Use) (v y : Bool) → IfSome o (λ u. start_of (result_key b) ls ≡ Some u.start) → v ≡ is_some o
        → (if v && y then spec.ended o us else us) ≡ latest_uses (dressed params set old (if v && y then at_start (start_of (result_key b) ls) f ls else ls))
    go None true y n k = absurd (cc)
    go None false y n k = q
    go (Some u) true true n k =
        step params set (spec.with_end u.start) (λ l. change_if (l.start == u.start) f l) old us ls (λ u. refl) (λ l r x. one (l.start == u.start) l r x) q
        ∙ ap (λ o. latest_uses (dressed params set old (at_start o f ls))) (sym n)
    go (Some u) true false n k = q
    go (Some u) false y n k = q
