-- The engine's uses are those of the history, but for their ends and for what the units make of
-- them: whatever the core does.
use Rattle.std.proofs.Common.{if◌then◌else◌, ◌≡◌, ◌++◌, ◌==◌, ◌&&◌, ◌||◌, not, ℕ, Bool, true, false, Option, Some, None, List, [], ◌∷◌, map, find, refl, sym, ap, ap₂, ◌∙◌, arith}
use Rattle.std.specs.Prelude.{is_none, is_some}
use Rattle.std.specs.Option.{option_map, option_map_or}
use Rattle.std.specs.List.{list_any}
use Rattle.std.proofs.lemmas.Bool.{eq-eqb, ne_eqb}
use Rattle.std.proofs.lemmas.List.{map-append}
use Rattle.xif_base.specs.declared.params.Key.{Key}
use Rattle.xif_base.specs.declared.params.Params.{Params}
use Rattle.coproc_config.specs.declared.accept.Hit.{Hit}
use Rattle.coproc_config.specs.Set.{UnitTable}
use Rattle.xif_signals.specs.declared.bus.Bus.{Bus}
use Rattle.xif_session.specs.Facts.{same_key, issue_key, register_key, commit_key, result_key, is_issued, is_given, issue_waits, is_undecided, is_covered, verdict_of, decision_after}
use Rattle.xif_session.specs.Facts as facts
use Rattle.xif_session.proofs.Options.{key_is}
use Rattle.cycle_spec.specs.declared.turn.Transaction.{Transaction}
use Rattle.cycle_spec.specs.declared.use_of.Use.{Use}
use Rattle.cycle_spec.specs.State.{Engine}
use Rattle.cycle_spec.specs.Engine as spec
use Rattle.engine_history.specs.Lives.{Life, Answer, Verdict, new_life, is_killed, latest, start_of, goes_on, starts, with_start, change_if, at_start, answer_on, accepted_in, answered, operands_on, lanes_on, given, is_in_group, decided_by, decided, finished}
use Rattle.engine_history.specs.Runs.{cpu_of, cop_of}
use Rattle.engine_history.specs.Channels.{named_start}
use Rattle.engine_history.specs.Told.{hit_by, hit_told, decision_told, use_told, plain, others, latest_uses}
use Rattle.engine_history.proofs.Tests.{killed_told}
use Rattle.engine_history.proofs.Lists.{map_others, map_latest, latest_is, any_latest}
use Rattle.engine_history.proofs.Keep.{Rising, HeadWaits, rising_up, head_start}
use Rattle.engine_history.proofs.Plain.{plain_map, latest_plain, any_plain}

-- the latest uses of a history
abbrev pub told_uses : Params → List UnitTable → List Life → List Use
told_uses params set ls = latest_uses (map (use_told params set) ls)

-- ---- what a key names

find_told : (params : Params) (set : List UnitTable) (key : Key) (ls : List Life) → find (spec.has_key key) (map (use_told params set) ls) ≡ option_map (use_told params set) (latest key ls)
find_told params set key [] = refl
find_told params set key (l ∷ ls) = go (same_key l.key key) (find_told params set key ls)
  where
    go : (t : Bool) → find (spec.has_key key) (map (use_told params set) ls) ≡ option_map (use_told params set) (latest key ls)
        → (if t then Some (use_told params set l) else find (spec.has_key key) (map (use_told params set) ls)) ≡ option_map (use_told params set) (if t then Some l else latest key ls)
    go true r = refl
    go false r = r

pub names : (params : Params) (set : List UnitTable) (us : List Use) (ls : List Life) → map plain us ≡ told_uses params set ls → (key : Key) → option_map plain (spec.latest key us) ≡ option_map (use_told params set) (latest key ls)
names params set us ls h key =
    sym (latest_plain key us) ∙ ap (spec.latest key) h ∙ latest_is key (map (use_told params set) ls) ∙ find_told params set key ls

pub start_named : (params : Params) (set : List UnitTable) (us : List Use) (ls : List Life) → map plain us ≡ told_uses params set ls → (key : Key) (cycle : ℕ) → spec.start_of key us cycle ≡ named_start key ls cycle
start_named params set us ls h key cycle = go (spec.latest key us) (latest key ls) (names params set us ls h key)
  where
    go : (found : Option Use) (o : Option Life) → option_map plain found ≡ option_map (use_told params set) o → option_map_or (λ (u : Use). u.start) found cycle ≡ option_map_or (λ s. s) (option_map (λ (l : Life). l.start) o) cycle
    go found o e = or_plain found ∙ ap (λ x. option_map_or (λ (u : Use). u.start) x cycle) e ∙ or_told o
      where
        or_plain : (found : Option Use) → option_map_or (λ (u : Use). u.start) found cycle ≡ option_map_or (λ (u : Use). u.start) (option_map plain found) cycle
        or_plain None = refl
        or_plain (Some u) = refl

        or_told : (o : Option Life) → option_map_or (λ (u : Use). u.start) (option_map (use_told params set) o) cycle ≡ option_map_or (λ s. s) (option_map (λ (l : Life). l.start) o) cycle
        or_told None = refl
        or_told (Some l) = refl

-- ---- one use in each step

pub one_answer : (params : Params) (set : List UnitTable) (start cycle number : ℕ) (hit : Option Hit) (b : Bus) (l : Life) → hit ≡ hit_by params set (answer_on cycle number b)
    → spec.with_answer start hit number (use_told params set l) ≡ use_told params set (change_if (l.start == start) (λ l. record l { answer = Some (answer_on cycle number b) }) l)
one_answer params set start cycle number hit b l h = go (l.start == start)
  where
    u : Use
    u = use_told params set l

    go : (t : Bool) → record u { hit = if t then hit else hit_told params set l.answer; order = if t then number else option_map_or (λ (a : Answer). a.number) l.answer 0 } ≡ use_told params set (change_if t (λ l. record l { answer = Some (answer_on cycle number b) }) l)
    go true = ap (λ x. record u { hit = x; order = number }) h
    go false = refl

pub one_given : (params : Params) (set : List UnitTable) (start cycle : ℕ) (b : Bus) (l : Life)
    → spec.with_operands start (lanes_on b) (use_told params set l) ≡ use_told params set (change_if (l.start == start) (λ l. record l { operands = Some (operands_on cycle b) }) l)
one_given params set start cycle b l = go (l.start == start)
  where
    u : Use
    u = use_told params set l

    or_true : (t : Bool) → (t || true) ≡ true
    or_true true = refl
    or_true false = refl

    or_false : (t : Bool) → (t || false) ≡ t
    or_false true = refl
    or_false false = refl

    go : (t : Bool) → record u { given = is_some l.operands || t; lanes = if t then lanes_on b else u.lanes } ≡ use_told params set (change_if t (λ l. record l { operands = Some (operands_on cycle b) }) l)
    go true = ap (λ x. record u { given = x; lanes = lanes_on b }) (or_true (is_some l.operands))
    go false = ap (λ x. record u { given = x }) (or_false (is_some l.operands))

pub one_decided : (params : Params) (set : List UnitTable) (cycle : ℕ) (kill : Bool) (named l : Life)
    → spec.with_decision kill (use_told params set named) (use_told params set l) ≡ use_told params set (change_if (is_in_group kill named l) (λ l. record l { verdict = Some (record { cycle = cycle; kill = kill }) }) l)
one_decided params set cycle kill named l = go ((l.key.hart == named.key.hart) && is_covered kill named.start l.start) l.verdict
  where
    u : Use
    u = use_told params set l

    go : (t : Bool) (v : Option Verdict) → record u { decision = decision_after t kill (decision_told v) } ≡ use_told params set (change_if (is_none v && t) (λ l. record l { verdict = Some (record { cycle = cycle; kill = kill }) }) (record l { verdict = v }))
    go true None = refl
    go false None = refl
    go true (Some v) = by v.kill
      where
        by : (k : Bool) → record u { decision = if is_undecided (verdict_of k) then verdict_of kill else verdict_of k } ≡ record u { decision = verdict_of k }
        by true = refl
        by false = refl
    go false (Some v) = refl

-- ---- what is kept of an engine, beside the history

pub record IsTold (params : Params) (set : List UnitTable) (cycle : ℕ) (last : Bus) (ls : List Life) (e : Engine) : Type 0 where
  pub params_is : e.params ≡ params
  pub set_is : e.set ≡ set
  pub cycle_is : e.cycle ≡ cycle
  pub uses_are : map plain e.uses ≡ told_uses params set ls
  pub accepted_is : e.accepted ≡ accepted_in ls
  pub owner_is : option_map (λ (t : Transaction). t.owner) e.issue_turns.waiting ≡ (if issue_waits last then start_of (issue_key last) ls else None)

-- what holds of its history
pub record IsSound (cycle : ℕ) (last : Bus) (ls : List Life) : Type 0 where
  pub rises : Rising cycle ls
  pub waits : issue_waits last ≡ true → HeadWaits (issue_key last) ls

-- ---- a use starts

-- no older use has the start
none_older : (params : Params) (set : List UnitTable) (key : Key) (bound owner : ℕ) (ls : List Life) → owner ≡ bound → Rising bound ls → option_map_or (λ l. spec.is_offered_on key owner (use_told params set l)) (latest key ls) false ≡ false
none_older params set key bound owner [] q r = refl
none_older params set key bound owner (l ∷ ls) q r =
    go (same_key l.key key) (none_older params set key bound owner ls q (rising_up l.start bound ls (let h = r.0 in omega arith) r.1))
  where
    apart : l.start ≡ owner → ⊥
    apart s = let h = r.0 in omega arith

    and_false : (a : Bool) → (a && false) ≡ false
    and_false true = refl
    and_false false = refl

    go : (t : Bool) → option_map_or (λ l. spec.is_offered_on key owner (use_told params set l)) (latest key ls) false ≡ false
        → option_map_or (λ l. spec.is_offered_on key owner (use_told params set l)) (if t then Some l else latest key ls) false ≡ false
    go true ih =
        ap (λ t. same_key l.key key && (t && not (facts.is_killed (decision_told l.verdict)))) (ne_eqb l.start owner apart)
        ∙ and_false (same_key l.key key)
    go false ih = ih

-- whether the transaction goes on, of the latest uses
offered_same : (params : Params) (set : List UnitTable) (key was : Key) (owner : ℕ) (l : Life) (older : List Life) → same_key l.key was ≡ true → owner ≡ l.start → Rising l.start older
    → option_map_or (λ l. spec.is_offered_on key owner (use_told params set l)) (latest key (l ∷ older)) false ≡ (same_key was key && not (option_map_or is_killed (latest key (l ∷ older)) false))
offered_same params set key was owner l older k q r =
    ap (λ (x : Key). option_map_or (λ l. spec.is_offered_on key owner (use_told params set l)) (if same_key x key then Some l else latest key older) false) (key_is l.key was k)
    ∙ go (same_key was key) refl
    ∙ ap (λ (x : Key). same_key was key && not (option_map_or is_killed (if same_key x key then Some l else latest key older) false)) (sym (key_is l.key was k))
  where
    go : (t : Bool) → same_key was key ≡ t → option_map_or (λ l. spec.is_offered_on key owner (use_told params set l)) (if t then Some l else latest key older) false
        ≡ (t && not (option_map_or is_killed (if t then Some l else latest key older) false))
    go true e =
        ap (λ t. t && ((l.start == owner) && not (facts.is_killed (decision_told l.verdict)))) (ap (λ (x : Key). same_key x key) (key_is l.key was k) ∙ e)
        ∙ ap (λ t. t && not (facts.is_killed (decision_told l.verdict))) (eq-eqb l.start owner (sym q))
        ∙ ap not (killed_told l.verdict)
    go false e = none_older params set key l.start owner older q r

some_start : (o : Option Transaction) (t : Transaction) (s : ℕ) → option_map (λ (x : Transaction). x.owner) (Some t) ≡ Some s → t.owner ≡ s
some_start o t s h = cc

goes_same : (params : Params) (set : List UnitTable) (cycle : ℕ) (last b : Bus) (ls : List Life) (e : Engine) → IsTold params set cycle last ls e → IsSound cycle last ls → b.issue_valid ≡ true
    → spec.goes_on e (cpu_of b) ≡ goes_on last b ls
goes_same params set cycle last b ls e m s v =
    go e.issue_turns.waiting (issue_waits last) ls refl m.owner_is s.waits s.rises m.uses_are
    ∙ ap (λ v. issue_waits last && (v && (same_key (issue_key last) (issue_key b) && not (option_map_or is_killed (latest (issue_key b) ls) false)))) (sym v)
  where
    key : Key
    key = issue_key b

    none_named : (owner : ℕ) (u : Use) → same_key u.key key ≡ false → spec.is_offered_on key owner u ≡ false
    none_named owner u n = ap (λ t. t && (spec.has_start owner u && not (facts.is_killed u.decision))) n

    mapped : (owner : ℕ) (o : Option Life) → option_map_or (spec.is_offered_on key owner) (option_map (use_told params set) o) false ≡ option_map_or (λ l. spec.is_offered_on key owner (use_told params set l)) o false
    mapped owner None = refl
    mapped owner (Some l) = refl

    go : (w : Option Transaction) (x : Bool) (ls : List Life) → issue_waits last ≡ x → option_map (λ (t : Transaction). t.owner) w ≡ (if x then start_of (issue_key last) ls else None)
        → (x ≡ true → HeadWaits (issue_key last) ls) → Rising cycle ls → map plain e.uses ≡ told_uses params set ls
        → spec.goes_on_in w key e.uses ≡ (x && (true && (same_key (issue_key last) key && not (option_map_or is_killed (latest key ls) false))))
    go None false ls q o h r u = refl
    go (Some t) false ls q o h r u = absurd (cc)
    go w true [] q o h r u = absurd (h refl)
    go None true (l ∷ older) q o h r u = absurd (let e = o ∙ head_start (issue_key last) l older (h refl).0 in cc)
    go (Some t) true (l ∷ older) q o h r u =
        let owner : t.owner ≡ l.start = some_start None t l.start (o ∙ head_start (issue_key last) l older (h refl).0) in
        sym (any_plain (spec.is_offered_on key t.owner) (λ x. refl) e.uses)
        ∙ ap (list_any (spec.is_offered_on key t.owner)) u
        ∙ any_latest (spec.is_offered_on key t.owner) key (none_named t.owner) (map (use_told params set) (l ∷ older))
        ∙ ap (λ x. option_map_or (spec.is_offered_on key t.owner) x false) (find_told params set key (l ∷ older))
        ∙ mapped t.owner (latest key (l ∷ older))
        ∙ offered_same params set key (issue_key last) t.owner l older (h refl).0 owner r.1

pub starts_same : (params : Params) (set : List UnitTable) (cycle : ℕ) (last b : Bus) (ls : List Life) (e : Engine) → IsTold params set cycle last ls e → IsSound cycle last ls
    → spec.starts e (cpu_of b) ≡ starts last b ls
starts_same params set cycle last b ls e m s = go b.issue_valid refl
  where
    go : (v : Bool) → b.issue_valid ≡ v → (v && not (spec.goes_on e (cpu_of b))) ≡ (v && not (goes_on last b ls))
    go true v = ap not (goes_same params set cycle last b ls e m s v)
    go false v = refl

pub started : (params : Params) (set : List UnitTable) (cycle : ℕ) (last b : Bus) (ls : List Life) (e : Engine) → IsTold params set cycle last ls e → IsSound cycle last ls
    → map plain (spec.started_uses e (cpu_of b)) ≡ told_uses params set (with_start cycle last b ls)
started params set cycle last b ls e m s = go (spec.starts e (cpu_of b)) (starts last b ls) (starts_same params set cycle last b ls e m s)
  where
    new : ℕ → Use
    new c = spec.new_use (issue_key b) c b.issue_instr

    go : (t x : Bool) → t ≡ x → map plain (if t then spec.with_start (new e.cycle) e.uses else e.uses) ≡ told_uses params set (if x then new_life (issue_key b) cycle b.issue_instr ∷ ls else ls)
    go true true q =
        map-append plain (others (issue_key b) e.uses) (new e.cycle ∷ [])
        ∙ ap₂ (λ xs c. xs ++ new c ∷ []) (map_others plain (λ u. refl) (issue_key b) e.uses ∙ ap (others (issue_key b)) m.uses_are) m.cycle_is
    go false false q = m.uses_are
    go true false q = absurd (cc)
    go false true q = absurd (cc)

-- ---- the steps behind the start

-- a change of each use, on both sides
both_map : (params : Params) (set : List UnitTable) (g : Use → Use) (f : Life → Life) (us : List Use) (ls : List Life) → ((u : Use) → plain (g u) ≡ g (plain u)) → ((u : Use) → (g u).key ≡ u.key) → ((l : Life) → g (use_told params set l) ≡ use_told params set (f l))
    → map plain us ≡ told_uses params set ls → map plain (map g us) ≡ told_uses params set (map f ls)
both_map params set g f us ls p k h q = plain_map g p us ∙ ap (map g) q ∙ map_latest g k (map (use_told params set) ls) ∙ ap latest_uses (each ls)
  where
    each : (ls : List Life) → map g (map (use_told params set) ls) ≡ map (use_told params set) (map f ls)
    each [] = refl
    each (l ∷ ls) = ap₂ (λ x xs. x ∷ xs) (h l) (each ls)

-- the answer, of the use on the channel
pub answer_both : (params : Params) (set : List UnitTable) (cycle : ℕ) (b : Bus) (hit : Option Hit) (start number : ℕ) (us : List Use) (ls : List Life)
    → (b.issue_valid ≡ true → start_of (issue_key b) ls ≡ Some start) → number ≡ accepted_in ls
    → (is_issued b ≡ true → hit ≡ hit_by params set (answer_on cycle number b))
    → map plain us ≡ told_uses params set ls
    → map plain (spec.answer_step start hit number (cpu_of b) (cop_of b) us) ≡ told_uses params set (answered cycle b ls)
answer_both params set cycle b hit start number us ls named n h q = go (is_issued b) refl
  where
    f : ℕ → Life → Life
    f k l = record l { answer = Some (answer_on cycle k b) }

    valid : (v r : Bool) → (v && r) ≡ true → v ≡ true
    valid true r h = refl
    valid false r h = cc

    go : (t : Bool) → is_issued b ≡ t → map plain (if t then map (spec.with_answer start hit number) us else us) ≡ told_uses params set (if t then at_start (start_of (issue_key b) ls) (f (accepted_in ls)) ls else ls)
    go true e =
        both_map params set (spec.with_answer start hit number) (λ l. change_if (l.start == start) (f number) l) us ls (λ u. refl) (λ u. refl)
        (λ l. one_answer params set start cycle number hit b l (h e)) q
        ∙ ap₂ (λ o k. told_uses params set (at_start o (f k) ls)) (sym (named (valid b.issue_valid b.issue_ready e))) n
    go false e = q

pub given_both : (params : Params) (set : List UnitTable) (cycle : ℕ) (b : Bus) (us : List Use) (ls : List Life) → map plain us ≡ told_uses params set ls
    → map plain (spec.given_step (cpu_of b) (cop_of b) us) ≡ told_uses params set (given cycle b ls)
given_both params set cycle b us ls q = go (is_given b) (spec.latest (register_key b) us) (latest (register_key b) ls) (names params set us ls q (register_key b))
  where
    f : Life → Life
    f l = record l { operands = Some (operands_on cycle b) }

    go : (t : Bool) (found : Option Use) (o : Option Life) → option_map plain found ≡ option_map (use_told params set) o
        → map plain (if t then spec.given_to found (lanes_on b) us else us) ≡ told_uses params set (if t then at_start (option_map (λ (l : Life). l.start) o) f ls else ls)
    go true None None n = q
    go true (Some u) (Some l) n =
        let s : u.start ≡ l.start = ap (λ x. option_map_or (λ (v : Use). v.start) x 0) n in
        ap (λ s. map plain (map (spec.with_operands s (lanes_on b)) us)) s
        ∙ both_map params set (spec.with_operands l.start (lanes_on b)) (λ x. change_if (x.start == l.start) f x) us ls (λ u. refl) (λ u. refl) (λ x. one_given params set l.start cycle b x) q
    go true None (Some l) n = absurd (cc)
    go true (Some u) None n = absurd (cc)
    go false found o n = q

pub decided_both : (params : Params) (set : List UnitTable) (cycle : ℕ) (b : Bus) (us : List Use) (ls : List Life) → map plain us ≡ told_uses params set ls
    → map plain (spec.decide_step (cpu_of b) us) ≡ told_uses params set (decided cycle b ls)
decided_both params set cycle b us ls q = go b.commit_valid (spec.latest (commit_key b) us) (latest (commit_key b) ls) (names params set us ls q (commit_key b))
  where
    f : Life → Life
    f l = record l { verdict = Some (record { cycle = cycle; kill = b.commit_kill }) }

    undecided : (v : Option Verdict) → is_undecided (decision_told v) ≡ is_none v
    undecided None = refl
    undecided (Some v) = by v.kill
      where
        by : (k : Bool) → is_undecided (verdict_of k) ≡ false
        by true = refl
        by false = refl

    some_is : (u : Use) (l : Life) → option_map plain (Some u) ≡ option_map (use_told params set) (Some l) → plain u ≡ use_told params set l
    some_is u l h = cc

    group : (u : Use) (l : Life) → plain u ≡ use_told params set l → (t : Bool) → map plain (if t then map (spec.with_decision b.commit_kill u) us else us) ≡ told_uses params set (if t then map (λ x. change_if (is_in_group b.commit_kill l x) f x) ls else ls)
    group u l s true =
        ap (λ x. map plain (map (spec.with_decision b.commit_kill x) us)) s
        ∙ both_map params set (spec.with_decision b.commit_kill (use_told params set l)) (λ x. change_if (is_in_group b.commit_kill l x) f x) us ls (λ u. refl) (λ u. refl) (λ x. one_decided params set cycle b.commit_kill l x) q
    group u l s false = q

    go : (t : Bool) (found : Option Use) (o : Option Life) → option_map plain found ≡ option_map (use_told params set) o
        → map plain (if t then spec.decided_by b.commit_kill found us else us) ≡ told_uses params set (if t then decided_by cycle b.commit_kill o ls else ls)
    go true None None n = q
    go true (Some u) (Some l) n =
        ap (λ t. map plain (if t then map (spec.with_decision b.commit_kill u) us else us)) (ap (λ (x : Use). is_undecided x.decision) (some_is u l n) ∙ undecided l.verdict)
        ∙ group u l (some_is u l n) (is_none l.verdict)
    go true None (Some l) n = absurd (cc)
    go true (Some u) None n = absurd (cc)
    go false found o n = q

-- an end changes nothing that is told here
pub finished_both : (params : Params) (set : List UnitTable) (cycle : ℕ) (b : Bus) (ls : List Life) → told_uses params set (finished cycle b ls) ≡ told_uses params set ls
finished_both params set cycle b ls = go (facts.is_taken b) (start_of (result_key b) ls)
  where
    f : Life → Life
    f l = record l { finish = Some cycle }

    on : (t : Bool) (l : Life) → use_told params set (change_if t f l) ≡ use_told params set l
    on true l = refl
    on false l = refl

    each : (s : ℕ) (ls : List Life) → map (use_told params set) (map (λ l. change_if (l.start == s) f l) ls) ≡ map (use_told params set) ls
    each s [] = refl
    each s (l ∷ ls) = ap₂ (λ x xs. x ∷ xs) (on (l.start == s) l) (each s ls)

    go : (t : Bool) (o : Option ℕ) → told_uses params set (if t then at_start o f ls else ls) ≡ told_uses params set ls
    go true None = refl
    go true (Some s) = ap latest_uses (each s ls)
    go false o = refl
