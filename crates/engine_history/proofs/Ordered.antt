-- Beside an orderly core the engine's uses, their ends, ready cycles and results, and the
-- accumulators are those that the history tells.
use Rattle.std.proofs.Common.{if◌then◌else◌, ◌≡◌, ◌⊎◌, inl, inr, ◌+◌, ◌==◌, ◌<◌, ◌&&◌, ◌||◌, not, ℕ, Bool, true, false, Option, Some, None, IfSome, List, [], ◌∷◌, map, length, refl, sym, ap, ap₂, ◌∙◌, subst, arith}
use Rattle.std.specs.Prelude.{is_none, is_some, slice_index_or}
use Rattle.std.specs.Option.{option_map, option_map_or}
use Rattle.std.proofs.lemmas.Bool.{eqb-true}
use Rattle.std.proofs.lemmas.List.{length-replicate, get_or-replicate}
use Rattle.xif_base.specs.declared.params.Key.{Key}
use Rattle.xif_base.specs.declared.params.Params.{Params}
use Rattle.xif_base.specs.Params.{IsInRange}
use Rattle.coproc_config.specs.Set.{UnitTable}
use Rattle.coproc_config.specs.Accept.{hit_of}
use Rattle.coproc_config.specs.State.{zeros}
use Rattle.xif_drive.specs.Scripts.{Lists}
use Rattle.xif_signals.specs.declared.bus.Bus.{Bus}
use Rattle.xif_signals.specs.declared.bus.CopOut.{CopOut}
use Rattle.xif_session.specs.Facts.{same_key, issue_key, register_key, commit_key, result_key, is_issued, is_given, is_taken, result_waits}
use Rattle.xif_session.specs.Uses.{last_bus}
use Rattle.xif_session.proofs.Options.{key_is, no_true, both-true}
use Rattle.cycle_spec.specs.declared.use_of.Use.{Use}
use Rattle.cycle_spec.specs.State.{Engine}
use Rattle.cycle_spec.specs.Engine as spec
use Rattle.cycle_spec.specs.Engine.{is_complete, units_behind, ready_in_harts, units_in_harts}
use Rattle.engine_history.specs.Lives.{Life, Answer, new_life, is_accepted, is_killed, latest, start_of, starts, with_start, change_if, at_start, answer_on, accepted_in, answered, operands_on, given, is_in_group, decided_by, decided, changed, lives_after, lives_of}
use Rattle.engine_history.specs.Runs.{cpu_of, cop_of, input_of, engine_of, IsDriven}
use Rattle.engine_history.specs.Told.{latest_uses, counts, ready_cycle, is_ready, outcome_told, units_told, whole_uses}
use Rattle.engine_history.proofs.Keep.{Rising, KeepsAnswers, rising_start, head_named, start_changed, behind_is, answered_is, given_is, decided_is, finished_is, changed_is}
use Rattle.engine_history.proofs.Fields.{IsTold, IsSound}
use Rattle.engine_history.proofs.Kept.{accepted_start, hit_driven, on_channel, sound, told}
use Rattle.engine_history.proofs.Settle.{units_length, units_at}
use Rattle.engine_history.proofs.Grown.{Grew, Old, Each2, Grown}
use Rattle.engine_history.proofs.Ready.{Grouped, AllBy, counted, ready_stays}
use Rattle.engine_history.proofs.Units.{IsAnswer, AllAnswers, dressed, Over, AllOver}
use Rattle.engine_history.proofs.Applied.{IsCycle, units_cycle}
use Rattle.engine_history.proofs.Settled.{AllHarts, settled}
use Rattle.engine_history.proofs.Cycle.{changed_grown, grown_by, all_up, changed_grouped}
use Rattle.engine_history.proofs.Stepped.{ready_new, start_dressed, answer_dressed, given_dressed, decided_dressed, finished_dressed}
use Rattle.engine_history.proofs.Offered.{EachAt, Waits, WaitsAt, is_running, IsOffered, offered_is, offered_named, waits_named}

-- ---- what holds of the history of an orderly core

abbrev IsEnded : Life → List Life → Type 0
IsEnded x xs = is_some x.finish ≡ true → is_ready x xs ≡ true

pub record IsKept (params : Params) (set : List UnitTable) (cycle : ℕ) (ls : List Life) : Type 0 where
  pub by : AllBy cycle ls
  pub grouped : Grouped ls
  pub answers : AllAnswers params set ls
  pub over : AllOver ls
  pub harts : AllHarts params.num_harts ls
  pub ended : EachAt IsEnded ls

-- what the core owes in a cycle
pub record IsOrderlyCycle (params : Params) (cycle : ℕ) (last b : Bus) (ls : List Life) : Type 0 where
  pub hart : starts last b ls ≡ true → (issue_key b).hart < params.num_harts
  pub free : starts last b ls ≡ true → option_map_or is_running (latest (issue_key b) ls) false ≡ false
  pub once : is_given b ≡ true → option_map_or (λ (l : Life). is_some l.operands) (latest (register_key b) (with_start cycle last b ls)) false ≡ false

-- ---- a use starts

-- a use that isn't running is over
not_running : (hart : ℕ) (l : Life) (older : List Life) → IsEnded l older → is_running l ≡ false → counts hart l ≡ true → is_ready l older ≡ true
not_running hart l older e n c =
    let x = both-true (is_accepted l) _ (both-true (l.key.hart == hart) _ c).1 in
    go (is_some l.finish) refl (sym (ap₂ (λ a k. a && not (k || is_some l.finish)) x.0 (low (is_killed l) x.1)) ∙ n)
  where
    low : (t : Bool) → not t ≡ true → t ≡ false
    low true h = cc
    low false h = refl

    go : (t : Bool) → is_some l.finish ≡ t → not t ≡ false → is_ready l older ≡ true
    go true q h = e q
    go false q h = absurd (cc)

over_key : (key : Key) (ls : List Life) → EachAt IsEnded ls → AllOver ls → option_map_or is_running (latest key ls) false ≡ false → Over key ls
over_key key [] e o n = tt
over_key key (l ∷ ls) e o n = go (same_key l.key key) refl n (λ k. over_key key ls e.1 o.1 k)
  where
    go : (t : Bool) → same_key l.key key ≡ t → option_map_or is_running (if t then Some l else latest key ls) false ≡ false → (option_map_or is_running (latest key ls) false ≡ false → Over key ls)
        → (same_key l.key key ≡ true → counts l.key.hart l ≡ true → is_ready l ls ≡ true) × Over key ls
    go true q n ih = (λ k c. not_running l.key.hart l ls e.0 n c, subst (λ k. Over k ls) (key_is l.key key q) o.0)
    go false q n ih = (λ k. no_true (same_key l.key key) k q, ih n)

start_kept : (params : Params) (set : List UnitTable) (cycle : ℕ) (last b : Bus) (ls : List Life) → IsKept params set cycle ls → IsOrderlyCycle params cycle last b ls → IsKept params set cycle (with_start cycle last b ls)
start_kept params set cycle last b ls k o = go (starts last b ls) refl
  where
    go : (t : Bool) → starts last b ls ≡ t → IsKept params set cycle (if t then new_life (issue_key b) cycle b.issue_instr ∷ ls else ls)
    go true s = record {
      by = (record { answer = tt; operands = tt; verdict = tt }, k.by);
      grouped = (λ h. absurd (cc), k.grouped);
      answers = (tt, k.answers);
      over = (over_key (issue_key b) ls k.ended k.over (o.free s), k.over);
      harts = (o.hart s, k.harts);
      ended = (λ h. absurd (cc), k.ended);
    }
    go false s = k

-- ---- the answers

answer_driven : (params : Params) (set : List UnitTable) (cycle number : ℕ) (b : Bus) (e : Engine) → e.params ≡ params → e.set ≡ set → cop_of b ≡ spec.engine_drive e (cpu_of b) → is_issued b ≡ true → IsAnswer params set (answer_on cycle number b)
answer_driven params set cycle number b e p s d i =
    let ready : b.issue_ready ≡ spec.issue_ready e (cpu_of b) = ap (λ (c : CopOut). c.issue_ready) d in
    let on : spec.issue_ready e (cpu_of b) ≡ true = sym ready ∙ right b.issue_valid b.issue_ready i in
    let hit : spec.response_hit e (cpu_of b) ≡ spec.offered_hit e (cpu_of b) = ap (λ t. if t then spec.offered_hit e (cpu_of b) else None) on in
    record {
      accept = ap (λ (c : CopOut). c.issue_accept) d ∙ ap is_some hit ∙ ap₂ (λ x y. is_some (hit_of x y b.issue_instr)) s p;
      reads_are = ap (λ (c : CopOut). c.issue_register_read) d ∙ ap spec.register_read_of (hit ∙ hit_driven params set cycle number b e p s d i);
    }
  where
    right : (v r : Bool) → (v && r) ≡ true → r ≡ true
    right true r h = h
    right false r h = cc

answers_at : (params : Params) (set : List UnitTable) (a : Answer) (s : ℕ) (ls : List Life) → IsAnswer params set a → AllAnswers params set ls → AllAnswers params set (map (λ l. change_if (l.start == s) (λ l. record l { answer = Some a }) l) ls)
answers_at params set a s [] is h = tt
answers_at params set a s (l ∷ ls) is h = (go (l.start == s), answers_at params set a s ls is h.1)
  where
    go : (t : Bool) → IfSome (change_if t (λ l. record l { answer = Some a }) l).answer (IsAnswer params set)
    go true = is
    go false = h.0

answers_kept : (params : Params) (set : List UnitTable) (ls now : List Life) → KeepsAnswers ls now → AllAnswers params set ls → AllAnswers params set now
answers_kept params set ls now k h = subst (AllAnswers params set) (sym k.changed.is) (go ls h)
  where
    go : (ls : List Life) → AllAnswers params set ls → AllAnswers params set (map k.changed.change ls)
    go [] h = tt
    go (l ∷ ls) h = (subst (λ o. IfSome o (IsAnswer params set)) (sym (k.answer l)) h.0, go ls h.1)

answers_changed : (params : Params) (set : List UnitTable) (cycle : ℕ) (b : Bus) (ls : List Life) → (is_issued b ≡ true → IsAnswer params set (answer_on cycle (accepted_in ls) b)) → AllAnswers params set ls → AllAnswers params set (changed cycle b ls)
answers_changed params set cycle b ls is h = answers_kept params set (answered cycle b ls) _ (behind_is cycle b (answered cycle b ls)) (go (is_issued b) refl (start_of (issue_key b) ls))
  where
    go : (t : Bool) → is_issued b ≡ t → (o : Option ℕ) → AllAnswers params set (if t then at_start o (λ l. record l { answer = Some (answer_on cycle (accepted_in ls) b) }) ls else ls)
    go true q None = h
    go true q (Some s) = answers_at params set (answer_on cycle (accepted_in ls) b) s ls (is q) h
    go false q o = h

-- ---- what is over stays so

over_olds : (cycle : ℕ) (key : Key) (ls now : List Life) → Each2 (Old cycle) ls now → Grouped ls → Over key ls → Over key now
over_olds cycle key [] [] e g o = tt
over_olds cycle key [] (n ∷ now) e g o = absurd e
over_olds cycle key (l ∷ ls) [] e g o = absurd e
over_olds cycle key (l ∷ ls) (n ∷ now) e g o =
    (λ k c. stays (ready_cycle l ls) refl (o.0 (ap (λ x. same_key x key) (sym e.0.grew.key) ∙ k) (before c)), over_olds cycle key ls now e.1 g.1 o.1)
  where
    before : counts n.key.hart n ≡ true → counts l.key.hart l ≡ true
    before c = ap (λ (x : Key). counts x.hart l) (sym e.0.grew.key) ∙ counted n.key.hart cycle l n e.0 c

    stays : (r : Option ℕ) → ready_cycle l ls ≡ r → is_some r ≡ true → is_ready n now ≡ true
    stays None q h = cc
    stays (Some m) q h = ap is_some (ready_stays cycle m l n ls now e.0.grew e.1 g q)

all_over_olds : (cycle : ℕ) (ls now : List Life) → Each2 (Old cycle) ls now → Grouped ls → AllOver ls → AllOver now
all_over_olds cycle [] [] e g o = tt
all_over_olds cycle [] (n ∷ now) e g o = absurd e
all_over_olds cycle (l ∷ ls) [] e g o = absurd e
all_over_olds cycle (l ∷ ls) (n ∷ now) e g o = (over_olds cycle n.key ls now e.1 g.1 (subst (λ k. Over k ls) (sym e.0.grew.key) o.0), all_over_olds cycle ls now e.1 g.1 o.1)

over_grown : (cycle : ℕ) (ls now : List Life) → Grown cycle ls now → Grouped ls → AllOver ls → AllOver now
over_grown cycle [] [] e g o = tt
over_grown cycle [] (n ∷ now) e g o = absurd e
over_grown cycle (l ∷ ls) [] e g o = absurd e
over_grown cycle (l ∷ ls) (n ∷ now) e g o = (over_olds cycle n.key ls now e.1 g.1 (subst (λ k. Over k ls) (sym e.0.key) o.0), all_over_olds cycle ls now e.1 g.1 o.1)

-- ---- the harts

harts_map : (harts : ℕ) (f : Life → Life) → ((l : Life) → (f l).key ≡ l.key) → (ls : List Life) → AllHarts harts ls → AllHarts harts (map f ls)
harts_map harts f k [] h = tt
harts_map harts f k (l ∷ ls) h = (subst (λ (x : Key). x.hart < harts) (sym (k l)) h.0, harts_map harts f k ls h.1)

-- ---- the ends

-- a use is finished in a cycle where its start is the one that is named
abbrev EndsBy : Option ℕ → Life → Life → Type 0
EndsBy o l n = (n.finish ≡ l.finish) ⊎ (o ≡ Some l.start)

-- it keeps its end
record SameEnd (l n : Life) : Type 0 where
  start : n.start ≡ l.start
  finish : n.finish ≡ l.finish

ends_same : (ls : List Life) → Each2 SameEnd ls ls
ends_same [] = tt
ends_same (l ∷ ls) = (record { start = refl; finish = refl }, ends_same ls)

ends_on : (xs ys zs : List Life) → Each2 SameEnd xs ys → Each2 SameEnd ys zs → Each2 SameEnd xs zs
ends_on [] [] [] p q = tt
ends_on [] [] (z ∷ zs) p q = q
ends_on [] (y ∷ ys) zs p q = absurd p
ends_on (x ∷ xs) [] zs p q = absurd p
ends_on (x ∷ xs) (y ∷ ys) [] p q = q
ends_on (x ∷ xs) (y ∷ ys) (z ∷ zs) p q = (record { start = q.0.start ∙ p.0.start; finish = q.0.finish ∙ p.0.finish }, ends_on xs ys zs p.1 q.1)

ends_if : (test : Life → Bool) (f : Life → Life) → ((l : Life) → SameEnd l (f l)) → (ls : List Life) → Each2 SameEnd ls (map (λ l. change_if (test l) f l) ls)
ends_if test f h [] = tt
ends_if test f h (l ∷ ls) = (go (test l), ends_if test f h ls)
  where
    go : (t : Bool) → SameEnd l (change_if t f l)
    go true = h l
    go false = record { start = refl; finish = refl }

ends_before : (cycle : ℕ) (b : Bus) (ls : List Life) → Each2 SameEnd ls (decided cycle b (given cycle b (answered cycle b ls)))
ends_before cycle b ls =
    ends_on ls (given cycle b (answered cycle b ls)) _
    (ends_on ls (answered cycle b ls) _ (at (is_issued b) (start_of (issue_key b) ls) (λ l. record l { answer = Some (answer_on cycle (accepted_in ls) b) }) (λ l. record { start = refl; finish = refl }) ls)
    (at (is_given b) (start_of (register_key b) (answered cycle b ls)) (λ l. record l { operands = Some (operands_on cycle b) }) (λ l. record { start = refl; finish = refl }) (answered cycle b ls)))
    (decide b.commit_valid (latest (commit_key b) (given cycle b (answered cycle b ls))) (given cycle b (answered cycle b ls)))
  where
    at : (t : Bool) (o : Option ℕ) (f : Life → Life) → ((l : Life) → SameEnd l (f l)) → (ls : List Life) → Each2 SameEnd ls (if t then at_start o f ls else ls)
    at true None f h ls = ends_same ls
    at true (Some s) f h ls = ends_if (λ l. l.start == s) f h ls
    at false o f h ls = ends_same ls

    group : (named : Life) (t : Bool) (ls : List Life) → Each2 SameEnd ls (if t then map (λ l. change_if (is_in_group b.commit_kill named l) (λ l. record l { verdict = Some (record { cycle = cycle; kill = b.commit_kill }) }) l) ls else ls)
    group named true ls = ends_if (is_in_group b.commit_kill named) (λ l. record l { verdict = Some (record { cycle = cycle; kill = b.commit_kill }) }) (λ l. record { start = refl; finish = refl }) ls
    group named false ls = ends_same ls

    decide : (t : Bool) (o : Option Life) (ls : List Life) → Each2 SameEnd ls (if t then decided_by cycle b.commit_kill o ls else ls)
    decide true None ls = ends_same ls
    decide true (Some named) ls = group named (is_none named.verdict) ls
    decide false o ls = ends_same ls

-- with the use that is finished in the cycle
ends_last : (cycle : ℕ) (o : Option ℕ) (ls mid : List Life) → Each2 SameEnd ls mid → Each2 (EndsBy o) ls (at_start o (λ l. record l { finish = Some cycle }) mid)
ends_last cycle None [] [] p = tt
ends_last cycle None [] (m ∷ mid) p = absurd p
ends_last cycle None (l ∷ ls) [] p = absurd p
ends_last cycle None (l ∷ ls) (m ∷ mid) p = (inl p.0.finish, ends_last cycle None ls mid p.1)
ends_last cycle (Some s) [] [] p = tt
ends_last cycle (Some s) [] (m ∷ mid) p = absurd p
ends_last cycle (Some s) (l ∷ ls) [] p = absurd p
ends_last cycle (Some s) (l ∷ ls) (m ∷ mid) p = (go (m.start == s) refl, ends_last cycle (Some s) ls mid p.1)
  where
    go : (t : Bool) → (m.start == s) ≡ t → EndsBy (Some s) l (change_if t (λ l. record l { finish = Some cycle }) m)
    go true q = inr (ap Some (sym (eqb-true m.start s q) ∙ p.0.start))
    go false q = inl p.0.finish

-- the start of the use that is finished
abbrev end_start : Bus → List Life → Option ℕ
end_start b ls = if is_taken b then start_of (result_key b) ls else None

ends_all : (cycle : ℕ) (b : Bus) (ls : List Life) → Each2 (EndsBy (end_start b (decided cycle b (given cycle b (answered cycle b ls))))) ls (changed cycle b ls)
ends_all cycle b ls = go (is_taken b)
  where
    mid : List Life
    mid = decided cycle b (given cycle b (answered cycle b ls))

    go : (t : Bool) → Each2 (EndsBy (if t then start_of (result_key b) mid else None)) ls (if t then at_start (start_of (result_key b) mid) (λ l. record l { finish = Some cycle }) mid else mid)
    go true = ends_last cycle (start_of (result_key b) mid) ls mid (ends_before cycle b ls)
    go false = ends_last cycle None ls mid (ends_before cycle b ls)

-- ---- what is finished was ready

ready_if : (cycle : ℕ) (l n : Life) (ls now : List Life) → Grew cycle l n → Each2 (Old cycle) ls now → Grouped (l ∷ ls) → is_ready l ls ≡ true → is_ready n now ≡ true
ready_if cycle l n ls now g e q h = go (ready_cycle l ls) refl h
  where
    go : (r : Option ℕ) → ready_cycle l ls ≡ r → is_some r ≡ true → is_ready n now ≡ true
    go None k h = cc
    go (Some m) k h = ap is_some (ready_stays cycle m l n ls now g e q k)

ended_one : (cycle : ℕ) (o : Option ℕ) (l n : Life) (ls now : List Life) → Grew cycle l n → Each2 (Old cycle) ls now → Grouped (l ∷ ls) → EndsBy o l n → IsEnded l ls → IfSome o (λ s. WaitsAt s l ls) → IsEnded n now
ended_one cycle o l n ls now g e q (inl same) h w = λ k. ready_if cycle l n ls now g e q (h (ap is_some (sym same) ∙ k))
ended_one cycle None l n ls now g e q (inr z) h w = absurd (cc)
ended_one cycle (Some s) l n ls now g e q (inr z) h w = λ k. ready_if cycle l n ls now g e q (w (start l.start s z)).0
  where
    start : (a b : ℕ) → Some b ≡ Some a → a ≡ b
    start a b h = cc

wait_of : (o : Option ℕ) (l : Life) (ls : List Life) → IfSome o (λ s. Waits s (l ∷ ls)) → IfSome o (λ s. WaitsAt s l ls) × IfSome o (λ s. Waits s ls)
wait_of None l ls w = (tt, tt)
wait_of (Some s) l ls w = (w.0, w.1)

ended_olds : (cycle : ℕ) (o : Option ℕ) (ls now : List Life) → Each2 (Old cycle) ls now → Grouped ls → Each2 (EndsBy o) ls now → EachAt IsEnded ls → IfSome o (λ s. Waits s ls) → EachAt IsEnded now
ended_olds cycle o [] [] e g p h w = tt
ended_olds cycle o [] (n ∷ now) e g p h w = absurd e
ended_olds cycle o (l ∷ ls) [] e g p h w = absurd e
ended_olds cycle o (l ∷ ls) (n ∷ now) e g p h w =
    let x = wait_of o l ls w in
    (ended_one cycle o l n ls now e.0.grew e.1 g p.0 h.0 x.0, ended_olds cycle o ls now e.1 g.1 p.1 h.1 x.1)

ended_grown : (cycle : ℕ) (o : Option ℕ) (ls now : List Life) → Grown cycle ls now → Grouped ls → Each2 (EndsBy o) ls now → EachAt IsEnded ls → IfSome o (λ s. Waits s ls) → EachAt IsEnded now
ended_grown cycle o [] [] e g p h w = tt
ended_grown cycle o [] (n ∷ now) e g p h w = absurd e
ended_grown cycle o (l ∷ ls) [] e g p h w = absurd e
ended_grown cycle o (l ∷ ls) (n ∷ now) e g p h w =
    let x = wait_of o l ls w in
    (ended_one cycle o l n ls now e.0 e.1 g p.0 h.0 x.0, ended_olds cycle o ls now e.1 g.1 p.1 h.1 x.1)

-- ---- a result that isn't taken waits

waits_one : (cycle s : ℕ) (l n : Life) (ls now : List Life) → Grew cycle l n → Each2 (Old cycle) ls now → Grouped (l ∷ ls) → EndsBy None l n → WaitsAt s l ls → WaitsAt s n now
waits_one cycle s l n ls now g e q (inl same) w = λ k. let x = w (sym g.start ∙ k) in (ready_if cycle l n ls now g e q x.0, same ∙ x.1)
waits_one cycle s l n ls now g e q (inr z) w = absurd (cc)

waits_olds : (cycle s : ℕ) (ls now : List Life) → Each2 (Old cycle) ls now → Grouped ls → Each2 (EndsBy None) ls now → Waits s ls → Waits s now
waits_olds cycle s [] [] e g p w = tt
waits_olds cycle s [] (n ∷ now) e g p w = absurd e
waits_olds cycle s (l ∷ ls) [] e g p w = absurd e
waits_olds cycle s (l ∷ ls) (n ∷ now) e g p w = (waits_one cycle s l n ls now e.0.grew e.1 g p.0 w.0, waits_olds cycle s ls now e.1 g.1 p.1 w.1)

waits_grown : (cycle s : ℕ) (ls now : List Life) → Grown cycle ls now → Grouped ls → Each2 (EndsBy None) ls now → Waits s ls → Waits s now
waits_grown cycle s [] [] e g p w = tt
waits_grown cycle s [] (n ∷ now) e g p w = absurd e
waits_grown cycle s (l ∷ ls) [] e g p w = absurd e
waits_grown cycle s (l ∷ ls) (n ∷ now) e g p w = (waits_one cycle s l n ls now e.0 e.1 g p.0 w.0, waits_olds cycle s ls now e.1 g.1 p.1 w.1)

-- ---- a cycle

pub record IsWhole (params : Params) (set : List UnitTable) (last : Bus) (ls : List Life) (e : Engine) : Type 0 where
  pub uses_are : e.uses ≡ latest_uses (whole_uses params set ls)
  pub count_is : length e.units ≡ params.num_harts
  pub units_are : (h : ℕ) → h < params.num_harts → slice_index_or e.units h [] ≡ units_told params set h ls
  pub waits : IfSome e.result_waiting (λ s. Waits s ls)
  pub waiting_is : e.result_waiting ≡ (if result_waits last then start_of (result_key last) ls else None)

-- the key of the result is that of the use that is offered
offered_key : (b : Bus) (e : Engine) (u : Use) → cop_of b ≡ spec.engine_drive e (cpu_of b) → spec.offered_use e ≡ Some u → result_key b ≡ u.key
offered_key b e u d q =
    ap (λ (c : CopOut). record { hart = c.result_hartid; id = c.result_id }) d
    ∙ ap (λ o. (spec.use_or o).key) q

units_new : (params : Params) (set : List UnitTable) (h cycle : ℕ) (last b : Bus) (ls : List Life) → units_told params set h (with_start cycle last b ls) ≡ units_told params set h ls
units_new params set h cycle last b ls = go (starts last b ls)
  where
    none : (t : Bool) → (t && false) ≡ false
    none true = refl
    none false = refl

    go : (t : Bool) → units_told params set h (if t then new_life (issue_key b) cycle b.issue_instr ∷ ls else ls) ≡ units_told params set h ls
    go true =
        ap (λ r. if ((issue_key b).hart == h) && is_some r then (outcome_told params set (units_told params set h ls) (new_life (issue_key b) cycle b.issue_instr)).state else units_told params set h ls) (ready_new (issue_key b) cycle b.issue_instr ls)
        ∙ ap (λ t. if t then (outcome_told params set (units_told params set h ls) (new_life (issue_key b) cycle b.issue_instr)).state else units_told params set h ls) (none ((issue_key b).hart == h))
    go false = refl

pub record IsBoth (params : Params) (set : List UnitTable) (cycle : ℕ) (last : Bus) (ls : List Life) (e : Engine) : Type 0 where
  pub kept_is : IsKept params set cycle ls
  pub whole_is : IsWhole params set last ls e

pub cycle_both : (params : Params) (set : List UnitTable) (cycle : ℕ) (last b : Bus) (ls : List Life) (e : Engine) → IsInRange params → IsTold params set cycle last ls e → IsSound cycle last ls → IsBoth params set cycle last ls e
    → IsOrderlyCycle params cycle last b ls → cop_of b ≡ spec.engine_drive e (cpu_of b)
    → IsBoth params set (cycle + 1) b (lives_after cycle last b ls) (spec.engine_clock e (cpu_of b) (cop_of b) (input_of b))
cycle_both params set cycle last b ls e range m s both o d = record {
  kept_is = record {
    by = all_up cycle now by_now;
    grouped = changed_grouped cycle (cycle + 1) b named rises k.grouped;
    answers = answers_now;
    over = over_grown cycle named now grown k.grouped k.over;
    harts = subst (AllHarts params.num_harts) (sym (changed_is cycle b named).is) (harts_map params.num_harts (changed_is cycle b named).change (changed_is cycle b named).keeps.key named k.harts);
    ended = ended_grown cycle (end_start b mid) named now grown k.grouped (ends_all cycle b named) k.ended (ends (spec.offered_use e) refl b.result_valid b.result_ready valid);
  };
  whole_is = record {
    uses_are =
        ap₂ (λ x c. ready_in_harts x c 0 e.units ended_now) m.set_is m.cycle_is
        ∙ ap (ready_in_harts set cycle 0 e.units) ended_is
        ∙ settled params set cycle e.units named now range grown cycled harts_now units_named;
    count_is = units_length e.set 0 e.units ended_now ∙ both.whole_is.count_is;
    units_are = λ h l. units_now h (subst (λ n. h < n) (sym both.whole_is.count_is) l);
    waits = waiting (spec.offered_use e) refl b.result_ready refl valid;
    waiting_is =
        awaited (spec.offered_use e) refl b.result_valid b.result_ready valid
        ∙ ap (λ o. if result_waits b then o else None) (sym (start_changed mid now (finished_is cycle b mid).changed (result_key b)));
  };
}
  where
    named : List Life
    named = with_start cycle last b ls

    now : List Life
    now = changed cycle b named

    mid : List Life
    mid = decided cycle b (given cycle b (answered cycle b named))

    rises : Rising (cycle + 1) named
    rises = rising_start cycle last b ls s.rises

    k : IsKept params set cycle named
    k = start_kept params set cycle last b ls both.kept_is o

    grown : Grown cycle named now
    grown = changed_grown cycle (cycle + 1) b named rises (head_named cycle last b ls s.waits) o.once

    by_now : AllBy cycle now
    by_now = grown_by cycle named now grown k.by

    answers_now : AllAnswers params set now
    answers_now = answers_changed params set cycle b named (answer_driven params set cycle (accepted_in named) b e m.params_is m.set_is d) k.answers

    cycled : IsCycle params set cycle named now
    cycled = record { grouped = k.grouped; by = by_now; answers = answers_now; over = k.over }

    harts_now : AllHarts (length e.units) now
    harts_now = subst (λ n. AllHarts n now) (sym both.whole_is.count_is) (subst (AllHarts params.num_harts) (sym (changed_is cycle b named).is) (harts_map params.num_harts (changed_is cycle b named).change (changed_is cycle b named).keeps.key named k.harts))

    units_named : (h : ℕ) → h < length e.units → slice_index_or e.units h [] ≡ units_told params set h named
    units_named h l = both.whole_is.units_are h (subst (λ n. h < n) both.whole_is.count_is l) ∙ sym (units_new params set h cycle last b ls)

    valid : b.result_valid ≡ is_some (spec.offered_use e)
    valid = ap (λ (c : CopOut). c.result_valid) d

    offered : (u : Use) → spec.offered_use e ≡ Some u → IsOffered params set cycle ls u
    offered u q = offered_is params set cycle ls e u s.rises both.whole_is.uses_are both.whole_is.waits q

    -- what is finished is named by its key
    start_named : (u : Use) → spec.offered_use e ≡ Some u → start_of (result_key b) mid ≡ Some u.start
    start_named u q =
        start_changed (given cycle b (answered cycle b named)) mid (decided_is cycle b (given cycle b (answered cycle b named))).changed (result_key b)
        ∙ start_changed (answered cycle b named) _ (given_is cycle b (answered cycle b named)).changed (result_key b)
        ∙ start_changed named _ (answered_is cycle b named) (result_key b)
        ∙ ap (λ x. start_of x named) (offered_key b e u d q)
        ∙ offered_named params set cycle last b ls u (offered u q) o.free

    if_offered : (o : Option Use) → spec.offered_use e ≡ o → IfSome o (λ u. start_of (result_key b) mid ≡ Some u.start)
    if_offered None q = tt
    if_offered (Some u) q = start_named u q

    waits_now : (u : Use) → spec.offered_use e ≡ Some u → Waits u.start named
    waits_now u q = let x = offered u q in waits_named cycle u.start last b ls x.below x.waits

    ends : (o : Option Use) → spec.offered_use e ≡ o → (v y : Bool) → v ≡ is_some o → IfSome (if v && y then start_of (result_key b) mid else None) (λ s. Waits s named)
    ends None q true y z = absurd (no_true true refl z)
    ends None q false y z = tt
    ends (Some u) q true true z = subst (λ o. IfSome o (λ s. Waits s named)) (sym (start_named u q)) (waits_now u q)
    ends (Some u) q true false z = tt
    ends (Some u) q false y z = tt

    waiting : (o : Option Use) → spec.offered_use e ≡ o → (y : Bool) → b.result_ready ≡ y → b.result_valid ≡ is_some o → IfSome (if y then None else option_map (λ (u : Use). u.start) o) (λ s. Waits s now)
    waiting o q true y v = tt
    waiting None q false y v = tt
    waiting (Some u) q false y v =
        waits_grown cycle u.start named now grown k.grouped
        (subst (λ o. Each2 (EndsBy o) named now) (ap (λ t. if t then start_of (result_key b) mid else None) (ap (λ t. b.result_valid && t) y ∙ none b.result_valid)) (ends_all cycle b named)) (waits_now u q)
      where
        none : (t : Bool) → (t && false) ≡ false
        none true = refl
        none false = refl

    awaited : (o : Option Use) → spec.offered_use e ≡ o → (v y : Bool) → v ≡ is_some o → (if y then None else option_map (λ (u : Use). u.start) o) ≡ (if v && not y then start_of (result_key b) mid else None)
    awaited None q true y z = absurd (no_true true refl z)
    awaited None q false true z = refl
    awaited None q false false z = refl
    awaited (Some u) q true true z = refl
    awaited (Some u) q true false z = sym (start_named u q)
    awaited (Some u) q false y z = absurd (no_true true refl (sym z))

    ended_now : List Use
    ended_now = spec.ended_uses e (cpu_of b) (cop_of b) (input_of b)

    ended_is : ended_now ≡ latest_uses (dressed params set named now)
    ended_is =
        finished_dressed params set cycle b (spec.offered_use e) named (spec.decided_uses e (cpu_of b) (cop_of b)) mid (if_offered (spec.offered_use e) refl) valid
        (decided_dressed params set cycle b named (spec.given_uses e (cpu_of b) (cop_of b)) (given cycle b (answered cycle b named))
        (given_dressed params set cycle b named (spec.answered_uses e (cpu_of b) (cop_of b)) (answered cycle b named)
        (answer_dressed params set cycle b (spec.offered_hit e (cpu_of b)) (spec.issue_start e (cpu_of b)) e.accepted named (spec.started_uses e (cpu_of b)) named
        (on_channel params set cycle last b ls e m s) (m.accepted_is ∙ sym (accepted_start cycle last b ls))
        (hit_driven params set cycle e.accepted b e m.params_is m.set_is d)
        (start_dressed params set cycle last b ls e m s both.whole_is.uses_are)))).whole_is

    units_now : (h : ℕ) → h < length e.units → slice_index_or (units_in_harts e.set 0 e.units ended_now) h [] ≡ units_told params set h now
    units_now h l =
        ap (λ x. slice_index_or (units_in_harts x 0 e.units ended_now) h []) m.set_is
        ∙ units_at set h e.units ended_now l
        ∙ ap₂ (λ st us. units_behind set is_complete h st us) (units_named h l) ended_is
        ∙ units_cycle params set h cycle named now range grown cycled

-- ---- a session

abbrev pub AllOrderly : Params → List Bus → Type 0
AllOrderly params [] = Unit {0}
AllOrderly params (b ∷ session) = IsOrderlyCycle params (length session) (last_bus session) b (lives_of session) × AllOrderly params session

pub both_told : (params : Params) (set : List UnitTable) (script : Lists) (session : List Bus) → IsInRange params → IsDriven params set script session → AllOrderly params session
    → IsBoth params set (length session) (last_bus session) (lives_of session) (engine_of params set script session)
both_told params set script [] range d o = record {
  kept_is = record { by = tt; grouped = tt; answers = tt; over = tt; harts = tt; ended = tt };
  whole_is = record {
    uses_are = refl;
    count_is = length-replicate params.num_harts (zeros set);
    units_are = λ h l. get_or-replicate params.num_harts h (zeros set) [] l;
    waits = tt;
    waiting_is = refl;
  };
}
both_told params set script (b ∷ session) range d o =
    let n : length session + 1 ≡ length (b ∷ session) = omega arith in
    subst (λ k. IsBoth params set k b (lives_of (b ∷ session)) (engine_of params set script (b ∷ session))) n
    (cycle_both params set (length session) (last_bus session) b (lives_of session) (engine_of params set script session) range (told params set script session d.1) (sound session)
    (both_told params set script session range d.1 o.1) o.0 d.0)
