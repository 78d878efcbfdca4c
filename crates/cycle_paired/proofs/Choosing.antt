-- What the core chooses, in facts.
use Rattle.std.proofs.Common.{◌≡◌, ◌≢◌, ◌==◌, ◌&&◌, ◌||◌, ◌+◌, ◌++◌, ℕ, zero, suc, Bool, true, false, cond, not, List, [], ◌∷◌, filter, take, drop, length, Option, Some, None, refl, sym, ap, ◌∙◌, subst, arith, append_assoc}
use Rattle.std.specs.Prelude.{find, is_some, IfSome, ⊤}
use Rattle.std.specs.Option.{option_or, option_and_then, option_map}
use Rattle.std.specs.List.{last_or}
use Rattle.std.proofs.lemmas.Bool.{eq-eqb, ne_eqb}
use Rattle.std.proofs.lemmas.List.{take-append-drop, drop_at}
use Rattle.std.proofs.Math.Seq.{take-append-add}
use Rattle.rv32_table.specs.declared.instr.Kind.{Kind}
use Rattle.rv32_table.specs.declared.instr.Kind.TheVariants as row
use Rattle.rv32_table.specs.Instr.{kind_of}
use Rattle.xif_drive.specs.Predictors.{following}
use Rattle.inorder_machine.specs.declared.line.Store.{Store}
use Rattle.inorder_machine.specs.declared.line.Stepped.{Stepped}
use Rattle.inorder_machine.specs.declared.line.Stepped.TheVariants.{Retired, Stop}
use Rattle.inorder_machine.specs.declared.stop.StopCause.{StopCause}
use Rattle.cycle_spec.specs.declared.choices.Choices.{Choices}
use Rattle.cycle_spec.specs.declared.choices.Executed.{Executed}
use Rattle.cycle_spec.specs.declared.choices.Mode.{Mode}
use Rattle.cycle_spec.specs.declared.choices.Mode.TheVariants.{Running, DrainBegins, Draining}
use Rattle.cycle_spec.specs.declared.choices.Presented.{Presented}
use Rattle.cycle_spec.specs.declared.entry.Entry.{Entry}
use Rattle.cycle_spec.specs.declared.entry.EntryKind.{EntryKind}
use Rattle.cycle_spec.specs.declared.entry.EntryKind.TheVariants.{Local, Unknown, Nowhere}
use Rattle.cycle_spec.specs.declared.log.Cut.{Cut}
use Rattle.cycle_spec.specs.Flight.{is_row, is_store_row, is_control, is_control_row, is_open, is_pending, is_undecided, is_waiting, is_stopping, older_than, count_through, may_execute, may_execute_kind, ready_behind, ready_oldest, is_safe, is_safe_kind, is_safe_row, behind_safe, certain, youngest_released}
use Rattle.cycle_spec.specs.State.{Core}
use Rattle.cycle_spec.specs.Choices.{stop_at, retirement, outcome_of, executed_kind, executed_entry, execution, is_any_hit, store_cut, transfer_cut, control_cut, offer_in, presented_entry, presentation_of, kill_among, choices_with, choices_running, choices_by, choices_draining, choices_drain_begins, choices_in, choices, stay_with}
use Rattle.cycle_spec.specs.Core.{cut_step, drain_step}
use Rattle.cycle_lists.specs.Lists.{Each, Pairs, FirstAt}
use Rattle.cycle_lists.specs.Order.{Before}
use Rattle.cycle_lists.proofs.Tests.{and-left, and-false, not-both, not-in, false-or, or-false_left, some-is, some-from}
use Rattle.cycle_lists.proofs.Every.{Each-from, Pairs-younger}
use Rattle.cycle_lists.proofs.Places.{first-at, first-if, last-found}
use Rattle.cycle_paired.specs.Paired.{IsEntry, Behind}
use Rattle.cycle_paired.proofs.Facts.{only, other-numbers}
use Rattle.cycle_paired.proofs.Executing.{Exec, Execs}
use Rattle.cycle_paired.proofs.Ending.{HeadDone}

abbrev pub Unreleased : Entry → Type 0
Unreleased e = e.released ≡ false

-- what the invariant says of the entries
pub record Facts (es : List Entry) : Type 0 where
  pub before : Pairs Before es
  pub ok : Each IsEntry es
  pub behind : Pairs Behind es

-- an undecided use behind safe entries alone
pub record CertainAt (es : List Entry) (p : Entry) : Type 0 where
  pub older : List Entry
  pub younger : List Entry
  pub here : es ≡ older ++ p ∷ younger
  pub safe : Each (λ x. is_safe x ≡ true) older
  pub undecided : is_undecided p ≡ true

-- the three ways of a cycle: nothing is decided, a use is released, or the youngest entries go
pub data Way (es : List Entry) (ch : Choices) : Type 0 where
  Quiet : ch.kill ≡ None → ch.release ≡ None → ch.cut ≡ None → ch.drain ≡ None → Way es ch
  Releases : (p : Entry) → ch.kill ≡ None → ch.release ≡ Some p → ch.cut ≡ None → ch.drain ≡ None → CertainAt es p → Way es ch
  Cuts : (k : ℕ) → ch.release ≡ None → ((fs : List Entry) → drain_step ch.drain (cut_step ch.cut fs) ≡ take k fs) → ch.kill ≡ kill_among (drop k es) ch.offer → Each Unreleased (drop k es) → Way es ch

-- what the register channel carries
abbrev pub Presents : (split : Bool) → List Entry → (offer : Option Entry) → Option Presented → Type 0
Presents true es offer present = IfSome present (λ x. FirstAt is_waiting es x.entry)
Presents false es None None = ⊤
Presents false es None (Some x) = ⊥
Presents false es (Some p) None = ⊥
Presents false es (Some p) (Some x) = x.entry ≡ p

pub record Sound (split : Bool) (es : List Entry) (ch : Choices) : Type 0 where
  pub offer : IfSome ch.offer (FirstAt is_open es)
  pub present : Presents split es ch.offer ch.present
  pub execute : IfSome ch.execute (λ x. Each (Execs x.entry.seq x.outcome) es)
  pub retire : IfSome ch.retire (λ e. HeadDone es)
  pub way : Way es ch

-- ---- execution

-- the entry that executes, in its place
pub record ExecAt (es : List Entry) (x : Executed) : Type 0 where
  pub older : List Entry
  pub younger : List Entry
  pub here : es ≡ older ++ x.entry ∷ younger
  pub exec : Exec x.outcome x.entry
  pub unsafe_control : is_control x.entry ≡ true → is_safe x.entry ≡ false

pub record ReadyAt (dual : Bool) (registers : List ℕ) (before es : List Entry) (e : Entry) : Type 0 where
  pub older : List Entry
  pub younger : List Entry
  pub here : es ≡ older ++ e ∷ younger
  pub may : may_execute dual registers (before ++ older) e ≡ true

pub ready-at : (dual : Bool) (registers : List ℕ) (before es : List Entry) (e : Entry) → ready_behind dual registers before es ≡ Some e → ReadyAt dual registers before es e
ready-at dual registers before [] e h = cc
ready-at dual registers before (x ∷ xs) e h = go (may_execute dual registers before x) refl h (λ k. ready-at dual registers (before ++ x ∷ []) xs e k)
  where
    nil : (ys : List Entry) → ys ++ [] ≡ ys
    nil [] = refl
    nil (y ∷ ys) = ap (λ l. y ∷ l) (nil ys)

    go : (t : Bool) → may_execute dual registers before x ≡ t → cond t (Some x) (ready_behind dual registers (before ++ x ∷ []) xs) ≡ Some e
        → (ready_behind dual registers (before ++ x ∷ []) xs ≡ Some e → ReadyAt dual registers (before ++ x ∷ []) xs e) → ReadyAt dual registers before (x ∷ xs) e
    go true q k ih =
        let same : x ≡ e = some-is x e k in
        record { older = []; younger = xs; here = ap (λ y. y ∷ xs) same; may = ap (λ l. may_execute dual registers l e) (nil before) ∙ ap (may_execute dual registers before) (sym same) ∙ q }
    go false q k ih =
        let r = ih k in
        record { older = x ∷ r.older; younger = r.younger; here = ap (λ l. x ∷ l) r.here; may = ap (λ l. may_execute dual registers l e) (sym (append_assoc before (x ∷ []) r.older)) ∙ r.may }

control-unsafe : (k : Kind) (done : Bool) → done ≡ false → is_control_row k ≡ true → is_safe_row k done ≡ false
control-unsafe row.Control done d h = d
control-unsafe row.Alu done d h = cc
control-unsafe row.Load done d h = cc
control-unsafe row.Store done d h = cc
control-unsafe row.Fence done d h = cc
control-unsafe row.Stop done d h = cc

control-unsafe-kind : (k : EntryKind) (e : Entry) → e.done ≡ false → is_row is_control_row k ≡ true → is_safe_kind k e ≡ false
control-unsafe-kind (Local i) e d h = control-unsafe (kind_of i) e.done d h
control-unsafe-kind Unknown e d h = cc
control-unsafe-kind Nowhere e d h = cc

exec-kind : (w : Core) (e : Entry) (k : EntryKind) (x : Executed) → e.kind ≡ k → e.done ≡ false → executed_kind w e k ≡ Some x → (x.entry ≡ e) × Exec x.outcome e
exec-kind w e (Local i) x q d h =
    let same : record { entry = e; outcome = outcome_of w e i } ≡ x = some-is (record { entry = e; outcome = outcome_of w e i }) x h in
    (ap (λ y. y.entry) (sym same), record { instr = i; kind_is = q; not_done = d; memory = w.memory; at_word = record { pc = e.pc; word = e.word }; a = _; b = _; is_it = ap (λ y. y.outcome) (sym same) })
exec-kind w e Unknown x q d h = cc
exec-kind w e Nowhere x q d h = cc

undone : (e : Entry) → (e.done || is_stopping e) ≡ false → e.done ≡ false
undone e h = or-false_left e.done (is_stopping e) h

exec-from : (w : Core) (es : List Entry) (e : Entry) (x : Executed) → ReadyAt w.params.dual_write w.registers [] es e → executed_entry w e ≡ Some x → ExecAt es x
exec-from w es e x r h =
    let d = undone e (not-in (e.done || is_stopping e) (and-left (not (e.done || is_stopping e)) (may_execute_kind w.params.dual_write w.registers r.older e.kind) r.may)) in
    let k = exec-kind w e e.kind x refl d h in
    record {
      older = r.older;
      younger = r.younger;
      here = r.here ∙ ap (λ y. r.older ++ y ∷ r.younger) (sym k.0);
      exec = subst (Exec x.outcome) (sym k.0) k.1;
      unsafe_control = λ c.
          ap is_safe k.0 ∙ ap (λ t. not (is_stopping e) && t) (control-unsafe-kind e.kind e d (ap is_control (sym k.0) ∙ c)) ∙ and-false (not (is_stopping e));
    }

exec-if : (w : Core) (es : List Entry) → IfSome (execution w es) (ExecAt es)
exec-if w es = go (ready_oldest w.params.dual_write w.registers es) refl
  where
    then' : (e : Entry) → ReadyAt w.params.dual_write w.registers [] es e → (o : Option Executed) → executed_entry w e ≡ o → IfSome o (ExecAt es)
    then' e r None h = tt
    then' e r (Some x) h = exec-from w es e x r h

    go : (o : Option Entry) → ready_oldest w.params.dual_write w.registers es ≡ o → IfSome (option_and_then (executed_entry w) o) (ExecAt es)
    go None h = tt
    go (Some e) h = then' e (ready-at w.params.dual_write w.registers [] es e h) (executed_entry w e) refl

execs-all : (es : List Entry) (x : Executed) → Pairs Before es → ExecAt es x → Each (Execs x.entry.seq x.outcome) es
execs-all es x b h =
    let all = Each-from (λ y. y.seq ≡ x.entry.seq → y ≡ x.entry) (Execs x.entry.seq x.outcome) (h.older ++ x.entry ∷ h.younger)
    (λ y k q. subst (Exec x.outcome) (sym (k q)) h.exec) (only h.older x.entry h.younger (subst (Pairs Before) h.here b)) in
    subst (Each (Execs x.entry.seq x.outcome)) (sym h.here) all

-- an execution among the oldest is one of all
exec-take : (k : ℕ) (es : List Entry) (x : Executed) → ExecAt (take k es) x → ExecAt es x
exec-take k es x h = record {
  older = h.older;
  younger = h.younger ++ drop k es;
  here = sym (take-append-drop k es) ∙ ap (λ l. l ++ drop k es) h.here ∙ append_assoc h.older (x.entry ∷ h.younger) (drop k es);
  exec = h.exec;
  unsafe_control = h.unsafe_control;
}

-- ---- retirement

retire-head : (es : List Entry) → IfSome (retirement es) (λ e. HeadDone es)
retire-head [] = tt
retire-head (e ∷ es) = go e.done refl
  where
    go : (b : Bool) → e.done ≡ b → IfSome {T = Entry} (cond b (Some e) None) (λ x. e.done ≡ true)
    go true h = h
    go false h = tt

retire-take : (k : ℕ) (es : List Entry) → IfSome (retirement (take k es)) (λ e. HeadDone es)
retire-take zero es = tt
retire-take (suc k) [] = tt
retire-take (suc k) (e ∷ es) = retire-head (e ∷ es)

-- ---- what goes isn't released

-- those older than an entry are before it
pub older-at : (xs : List Entry) (e : Entry) (ys : List Entry) → Each (λ x. x.seq ≢ e.seq) xs → older_than e.seq (xs ++ e ∷ ys) ≡ xs
older-at [] e ys h = ap (λ t. cond t [] (e ∷ older_than e.seq ys)) (eq-eqb e.seq e.seq refl)
older-at (x ∷ xs) e ys h = ap (λ t. cond t [] (x ∷ older_than e.seq (xs ++ e ∷ ys))) (ne_eqb x.seq e.seq h.0) ∙ ap (λ l. x ∷ l) (older-at xs e ys h.1)

pub take-through : (xs : List Entry) (e : Entry) (ys : List Entry) → Pairs Before (xs ++ e ∷ ys) → take (count_through e.seq (xs ++ e ∷ ys)) (xs ++ e ∷ ys) ≡ xs ++ e ∷ []
take-through xs e ys b = ap (λ l. take (length l + 1) (xs ++ e ∷ ys)) (older-at xs e ys (other-numbers xs e ys b).0) ∙ take-append-add xs (e ∷ ys) 1

pub drop-through : (xs : List Entry) (e : Entry) (ys : List Entry) → Pairs Before (xs ++ e ∷ ys) → drop (count_through e.seq (xs ++ e ∷ ys)) (xs ++ e ∷ ys) ≡ ys
drop-through xs e ys b =
    let count : count_through e.seq (xs ++ e ∷ ys) ≡ length xs + 1 = ap (λ l. length l + 1) (older-at xs e ys (other-numbers xs e ys b).0) in
    let long : length (xs ++ e ∷ []) ≡ length xs + 1 = len xs in
    ap (λ n. drop n (xs ++ e ∷ ys)) count ∙ ap (drop (length xs + 1)) (sym (append_assoc xs (e ∷ []) ys)) ∙ drop_at (xs ++ e ∷ []) ys (length xs + 1) long
  where
    len : (zs : List Entry) → length (zs ++ e ∷ []) ≡ length zs + 1
    len [] = refl
    len (z ∷ zs) = let ih = len zs in omega arith

-- behind an entry that isn't safe nothing is released
unreleased-behind : (e : Entry) (es : List Entry) → is_safe e ≡ false → Each (Behind e) es → Each Unreleased es
unreleased-behind e es n b = Each-from (Behind e) Unreleased es (λ y k. false-or y.released (λ r. not-both (is_safe e) n (k.safe r))) b

abbrev CutOk : List Entry → Option Cut → Type 0
CutOk es cut = IfSome cut (λ c. Each Unreleased (drop c.keep es))

store-unsafe : (k : Kind) (done : Bool) → is_store_row k ≡ true → is_safe_row k done ≡ false
store-unsafe row.Store done h = refl
store-unsafe row.Alu done h = cc
store-unsafe row.Load done h = cc
store-unsafe row.Control done h = cc
store-unsafe row.Fence done h = cc
store-unsafe row.Stop done h = cc

store-unsafe-kind : (k : EntryKind) (e : Entry) → is_row is_store_row k ≡ true → is_safe_kind k e ≡ false
store-unsafe-kind (Local i) e h = store-unsafe (kind_of i) e.done h
store-unsafe-kind Unknown e h = cc
store-unsafe-kind Nowhere e h = cc

store-ok : (target : ℕ) (e : Entry) (es : List Entry) (o : Option Store) → e.store ≡ o → IsEntry e → Each (Behind e) es → CutOk (e ∷ es) (cond (is_any_hit o es) (Some (record { keep = 1; target = target })) None)
store-ok target e es None h ok b = tt
store-ok target e es (Some s) h ok b = go (is_any_hit (Some s) es)
  where
    unsafe : is_safe e ≡ false
    unsafe = ap (λ t. not (is_stopping e) && t) (store-unsafe-kind e.kind e (ok.stores (ap is_some h))) ∙ and-false (not (is_stopping e))

    go : (t : Bool) → CutOk (e ∷ es) (cond t (Some (record { keep = 1; target = target })) None)
    go true = unreleased-behind e es unsafe b
    go false = tt

cut-store-ok : (es : List Entry) → Each IsEntry es → Pairs Behind es → CutOk es (store_cut (retirement es) (drop 1 es))
cut-store-ok [] ok b = tt
cut-store-ok (e ∷ es) ok b = go e.done
  where
    go : (t : Bool) → CutOk (e ∷ es) (store_cut (cond t (Some e) None) es)
    go true = store-ok (following e.pc) e es e.store refl ok.0 b.0
    go false = tt

transfer-ok : (es : List Entry) (x : Executed) (o : Stepped) → Facts es → ExecAt es x → CutOk es (transfer_cut x.entry o es)
transfer-ok es x (Stop cause) f h = tt
transfer-ok es x (Retired line) f h = go (is_control x.entry) refl (not (line.next == x.entry.predicted))
  where
    gone : is_control x.entry ≡ true → Each Unreleased (drop (count_through x.entry.seq es) es)
    gone c =
        let b : Pairs Before (h.older ++ x.entry ∷ h.younger) = subst (Pairs Before) h.here f.before in
        let k : Pairs Behind (h.older ++ x.entry ∷ h.younger) = subst (Pairs Behind) h.here f.behind in
        subst (λ l. Each Unreleased (drop (count_through x.entry.seq l) l)) (sym h.here)
        (subst (Each Unreleased) (sym (drop-through h.older x.entry h.younger b)) (unreleased-behind x.entry h.younger (h.unsafe_control c) (Pairs-younger Behind h.older x.entry h.younger k)))

    go : (c : Bool) → is_control x.entry ≡ c → (d : Bool) → CutOk es (cond (c && d) (Some (record { keep = count_through x.entry.seq es; target = line.next })) None)
    go true q true = gone q
    go true q false = tt
    go false q d = tt

control-ok : (es : List Entry) (o : Option Executed) → Facts es → IfSome o (ExecAt es) → CutOk es (control_cut o es)
control-ok es None f h = tt
control-ok es (Some x) f h = transfer-ok es x x.outcome f h

or-ok : (es : List Entry) (a b : Option Cut) → CutOk es a → CutOk es b → CutOk es (option_or a b)
or-ok es None b h k = k
or-ok es (Some c) b h k = h

-- ---- the release

-- an entry behind safe ones
record SafeAt (es : List Entry) (p : Entry) : Type 0 where
  pub older : List Entry
  pub younger : List Entry
  pub here : es ≡ older ++ p ∷ younger
  pub safe : Each (λ x. is_safe x ≡ true) older

safe-at : (es xs : List Entry) (p : Entry) (ys : List Entry) → behind_safe es ≡ xs ++ p ∷ ys → SafeAt es p
safe-at [] [] p ys h = cc
safe-at [] (x ∷ xs) p ys h = cc
safe-at (e ∷ es) [] p ys h = let same : e ≡ p = cc in record { older = []; younger = es; here = ap (λ y. y ∷ es) same; safe = tt }
safe-at (e ∷ es) (x ∷ xs) p ys h = go (is_safe e) refl tail (λ k. safe-at es xs p ys k)
  where
    tail : cond (is_safe e) (behind_safe es) [] ≡ xs ++ p ∷ ys
    tail = cc

    none : (zs : List Entry) → [] ≡ zs ++ p ∷ ys → ⊥
    none [] k = cc
    none (z ∷ zs) k = cc

    go : (t : Bool) → is_safe e ≡ t → cond t (behind_safe es) [] ≡ xs ++ p ∷ ys → (behind_safe es ≡ xs ++ p ∷ ys → SafeAt es p) → SafeAt (e ∷ es) p
    go true q k ih = let r = ih k in record { older = e ∷ r.older; younger = r.younger; here = ap (λ l. e ∷ l) r.here; safe = (q, r.safe) }
    go false q k ih = absurd (none xs k)

certain-at : (es : List Entry) (p : Entry) → certain es ≡ Some p → CertainAt es p
certain-at es p h =
    let l = last-found is_undecided (behind_safe es) p h in
    let s = safe-at es l.older p l.younger l.here in
    record { older = s.older; younger = s.younger; here = s.here; safe = s.safe; undecided = l.passes }

-- ---- the kill

no-kill : (offer : Option Entry) → kill_among [] offer ≡ None
no-kill None = refl
no-kill (Some p) = refl

kill-without : (gone : List Entry) → find is_pending gone ≡ kill_among gone None
kill-without gone = go (find is_pending gone)
  where
    go : (o : Option Entry) → o ≡ option_or o None
    go None = refl
    go (Some x) = refl

-- ---- a cycle without a drain

way-running : (w : Core) (retire : Option Entry) (execute : Option Executed) (cut : Option Cut) → CutOk w.flight cut → Way w.flight (choices_with w retire execute cut)
way-running w retire execute (Some c) ok = Cuts c.keep refl (λ fs. refl) refl ok
way-running w retire execute None ok = go (certain w.flight) refl
  where
    go : (o : Option Entry) → certain w.flight ≡ o → Way w.flight (choices_with w retire execute None)
    go None h = Quiet (no-kill (offer_in w.flight)) h refl refl
    go (Some p) h = Releases p (no-kill (offer_in w.flight)) h refl refl (certain-at w.flight p h)

presents : (w : Core) (split : Bool) → Presents split w.flight (offer_in w.flight) (option_map (presentation_of w) (presented_entry split (offer_in w.flight) w.flight))
presents w true = go (find is_waiting w.flight) refl
  where
    go : (o : Option Entry) → find is_waiting w.flight ≡ o → IfSome (option_map (presentation_of w) o) (λ x. FirstAt is_waiting w.flight x.entry)
    go None h = tt
    go (Some e) h = first-at is_waiting w.flight e h
presents w false = go (offer_in w.flight)
  where
    go : (o : Option Entry) → Presents false w.flight o (option_map (presentation_of w) o)
    go None = tt
    go (Some e) = refl

abbrev execute-or : Core → Option Cut → Option Executed
execute-or w hit = cond (is_some hit) None (execution w w.flight)

execute-if : (w : Core) (hit : Option Cut) → IfSome (execute-or w hit) (ExecAt w.flight)
execute-if w hit = go (is_some hit)
  where
    go : (t : Bool) → IfSome {T = Executed} (cond t None (execution w w.flight)) (ExecAt w.flight)
    go true = tt
    go false = exec-if w w.flight

sound-running : (w : Core) → Facts w.flight → Sound w.params.split w.flight (choices_running w)
sound-running w f =
    let es = w.flight in
    let hit = store_cut (retirement es) (drop 1 es) in
    let ex = execute-if w hit in
    record {
      offer = first-if is_open es;
      present = presents w w.params.split;
      execute = some-from (ExecAt es) (λ x. Each (Execs x.entry.seq x.outcome) es) (execute-or w hit) (λ x h. execs-all es x f.before h) ex;
      retire = retire-head es;
      way = way-running w (retirement es) (execute-or w hit) (option_or hit (control_cut (execute-or w hit) es))
          (or-ok es hit (control_cut (execute-or w hit) es) (cut-store-ok es f.ok f.behind) (control-ok es (execute-or w hit) f ex));
    }

-- ---- a drain

last-some : (x : Entry) (xs : List Entry) → last_or (Some x) xs ≡ None → ⊥
last-some x [] h = cc
last-some x (y ∷ ys) h = last-some y ys h

no-last : (test : Entry → Bool) (es : List Entry) → last_or None (filter test es) ≡ None → Each (λ e. test e ≡ false) es
no-last test [] h = tt
no-last test (e ∷ es) h = go (test e) refl h (λ k. no-last test es k)
  where
    go : (t : Bool) → test e ≡ t → last_or None (cond t (e ∷ filter test es) (filter test es)) ≡ None → (last_or None (filter test es) ≡ None → Each (λ e. test e ≡ false) es) → Each (λ e. test e ≡ false) (e ∷ es)
    go true q k ih = absurd (last-some e (filter test es) k)
    go false q k ih = (q, ih k)

stay-unreleased : (es : List Entry) → Pairs Before es → Each Unreleased (drop (stay_with (youngest_released es) es) es)
stay-unreleased es b = go (youngest_released es) refl
  where
    go : (o : Option Entry) → youngest_released es ≡ o → Each Unreleased (drop (stay_with o es) es)
    go None h = no-last (λ e. e.released) es h
    go (Some p) h =
        let l = last-found (λ e. e.released) es p h in
        let b' : Pairs Before (l.older ++ p ∷ l.younger) = subst (Pairs Before) l.here b in
        subst (λ fs. Each Unreleased (drop (count_through p.seq fs) fs)) (sym l.here) (subst (Each Unreleased) (sym (drop-through l.older p l.younger b')) l.others)

first-take : (test : Entry → Bool) (k : ℕ) (es : List Entry) (e : Entry) → FirstAt test (take k es) e → FirstAt test es e
first-take test k es e f = record {
  older = f.older;
  younger = f.younger ++ drop k es;
  here = sym (take-append-drop k es) ∙ ap (λ l. l ++ drop k es) f.here ∙ append_assoc f.older (e ∷ f.younger) (drop k es);
  passes = f.passes;
  others = f.others;
}

presents-drain : (w : Core) (split : Bool) (k : ℕ) → Presents split w.flight None (option_map (presentation_of w) (presented_entry split None (take k w.flight)))
presents-drain w true k = go (find is_waiting (take k w.flight)) refl
  where
    go : (o : Option Entry) → find is_waiting (take k w.flight) ≡ o → IfSome (option_map (presentation_of w) o) (λ x. FirstAt is_waiting w.flight x.entry)
    go None h = tt
    go (Some e) h = first-take is_waiting k w.flight e (first-at is_waiting (take k w.flight) e h)
presents-drain w false k = tt

execute-drain : (w : Core) (k : ℕ) → Pairs Before w.flight → IfSome (execution w (take k w.flight)) (λ x. Each (Execs x.entry.seq x.outcome) w.flight)
execute-drain w k b = some-from (ExecAt (take k w.flight)) (λ x. Each (Execs x.entry.seq x.outcome) w.flight) (execution w (take k w.flight)) (λ x h. execs-all w.flight x b (exec-take k w.flight x h)) (exec-if w (take k w.flight))

sound-draining : (w : Core) (k : ℕ) → Facts w.flight → Sound w.params.split w.flight (choices_draining w k)
sound-draining w k f = record {
  offer = tt;
  present = presents-drain w w.params.split k;
  execute = execute-drain w k f.before;
  retire = retire-take k w.flight;
  way = Quiet refl refl refl refl;
}

sound-begins : (w : Core) (k : ℕ) → Facts w.flight → Each Unreleased (drop k w.flight) → Sound w.params.split w.flight (choices_drain_begins w k)
sound-begins w k f u = record {
  offer = tt;
  present = presents-drain w w.params.split k;
  execute = execute-drain w k f.before;
  retire = retire-take k w.flight;
  way = Cuts k refl (λ fs. refl) (kill-without (drop k w.flight)) u;
}

-- ---- each cycle but that of the stop

pub sound : (w : Core) → Facts w.flight → (choices w).stop ≡ None → Sound w.params.split w.flight (choices w)
sound w f h = go w.mode h
  where
    by : (o : Option StopCause) → (choices_by w o).stop ≡ None → Sound w.params.split w.flight (choices_by w o)
    by None k = sound-running w f
    by (Some cause) k = cc

    go : (mode : Mode) → (choices_in w mode).stop ≡ None → Sound w.params.split w.flight (choices_in w mode)
    go Running k = by (stop_at w.flight) k
    go DrainBegins k = sound-begins w (stay_with (youngest_released w.flight) w.flight) f (stay-unreleased w.flight f.before)
    go Draining k = sound-draining w (length w.flight) f
