-- What the core chooses, in the words of the guards.
use Rattle.std.proofs.Common.{◌≡◌, ◌==◌, ◌&&◌, ◌||◌, ◌++◌, ℕ, Bool, true, false, cond, not, List, [], ◌∷◌, length, take, drop, Option, Some, None, refl, sym, ap, ◌∙◌, subst, append_assoc}
use Rattle.std.specs.Prelude.{is_some, IfSome}
use Rattle.std.specs.Option.{option_and_then, option_map}
use Rattle.std.proofs.lemmas.Bool.{eqb-true}
use Rattle.std.proofs.lemmas.List.{take-append-drop}
use Rattle.rv32_table.specs.declared.instr.Instr.{Instr}
use Rattle.rv32_table.specs.declared.instr.Kind.{Kind}
use Rattle.rv32_table.specs.declared.instr.Kind.TheVariants as row
use Rattle.rv32_table.specs.Instr.{kind_of, sources_of}
use Rattle.xif_drive.specs.Predictors.{following}
use Rattle.inorder_machine.specs.declared.line.Retire.{Retire}
use Rattle.inorder_machine.specs.declared.line.Store.{Store}
use Rattle.inorder_machine.specs.declared.line.Stepped.{Stepped}
use Rattle.inorder_machine.specs.declared.line.Stepped.TheVariants.{Retired, Stop}
use Rattle.inorder_machine.specs.declared.stop.StopCause.{StopCause}
use Rattle.inorder_machine.specs.Execute.{executed}
use Rattle.cycle_spec.specs.declared.choices.Choices.{Choices}
use Rattle.cycle_spec.specs.declared.choices.Executed.{Executed}
use Rattle.cycle_spec.specs.declared.choices.Mode.TheVariants.{Running}
use Rattle.cycle_spec.specs.declared.entry.Entry.{Entry}
use Rattle.cycle_spec.specs.declared.entry.EntryKind.{EntryKind}
use Rattle.cycle_spec.specs.declared.entry.EntryKind.TheVariants.{Local, Unknown, Nowhere}
use Rattle.cycle_spec.specs.declared.entry.Operand.{Operand}
use Rattle.cycle_spec.specs.declared.entry.Operand.TheVariants.{Here, NotYet}
use Rattle.cycle_spec.specs.declared.log.Cut.{Cut}
use Rattle.cycle_spec.specs.Flight.{is_row, is_control_row, is_store, is_control, is_stopping, older_than, count_through, source_behind, is_here, value_or_zero, are_sources_here, is_held_back, may_execute_kind, ready_oldest}
use Rattle.cycle_spec.specs.State.{Core}
use Rattle.cycle_spec.specs.Choices.{outcome_of, executed_kind, executed_entry, execution, is_hit, is_any_hit, transfer_cut, control_cut, presentation_of}
use Rattle.cycle_spec.specs.Core.{cut_step, drain_step}
use Rattle.cycle_lists.specs.Lists.{Each, Pairs}
use Rattle.cycle_lists.specs.Order.{Before}
use Rattle.cycle_lists.proofs.Tests.{and-left, and-right, not-in, not-both, or-false_left, or-false_right, some-is}
use Rattle.cycle_lists.proofs.Every.{each, Each-at}
use Rattle.cycle_lists.proofs.Places.{any-none}
use Rattle.cycle_paired.specs.Paired.{IsEntry}
use Rattle.cycle_paired.proofs.Facts.{other-numbers}
use Rattle.cycle_paired.proofs.Choosing.{ReadyAt, ready-at, older-at}
use Rattle.ahead_laws.proofs.Rows.{straight}
use Rattle.cycle_events.specs.Shown.{IsCalm}
use Rattle.cycle_events.proofs.Executed.{Reads}
use Rattle.cycle_events.proofs.Retired.{Missed}

-- what the core keeps, before it retires
abbrev pub kept : Choices → List Entry → List Entry
kept ch es = drain_step ch.drain (cut_step ch.cut es)

-- only a control transfer leads elsewhere than to the instruction behind it
pub record GoesOn (e : Entry) : Type 0 where
  pub predicted : is_control e ≡ false → e.predicted ≡ following e.pc
  pub next : is_control e ≡ false → e.done ≡ true → e.next ≡ following e.pc

-- an execution leads on as was predicted
abbrev pub LeadsOn : Executed → Type 0
LeadsOn x = (line : Retire) → x.outcome ≡ Retired line → line.next ≡ x.entry.predicted

-- the entry that executes, in its place
pub record ReadsAt (w : Core) (es : List Entry) (x : Executed) : Type 0 where
  pub older : List Entry
  pub younger : List Entry
  pub here : es ≡ older ++ x.entry ∷ younger
  pub reads : Reads w.params.dual_write w.registers w.memory older x.entry x.outcome

-- the entry that retires, and what is behind it
pub record RetiresAt (w : Core) (ch : Choices) (e : Entry) : Type 0 where
  pub done : e.done ≡ true
  pub rest : List Entry
  pub here : kept ch w.flight ≡ e ∷ rest
  pub missed : Each (Missed e.store) rest

-- how a cycle ends: nothing is cut, or a store cut all that is younger, or a control transfer did
pub data Ends (w : Core) (ch : Choices) : Type 0 where
  Plain : ch.cut ≡ None → ch.drain ≡ None → IfSome ch.execute LeadsOn → Ends w ch
  Stored : (c : Cut) (e : Entry) → ch.cut ≡ Some c → kept ch w.flight ≡ e ∷ [] → ch.execute ≡ None → e.done ≡ true → c.target ≡ e.next → Ends w ch
  Turned : (c : Cut) (x : Executed) (r : ReadsAt w (kept ch w.flight) x) (line : Retire) → ch.cut ≡ Some c → ch.execute ≡ Some x → r.younger ≡ [] → x.outcome ≡ Retired line → c.target ≡ line.next → Ends w ch

pub record IsChosen (w : Core) (ch : Choices) : Type 0 where
  pub shows : IfSome ch.present (λ x. x ≡ presentation_of w x.entry)
  pub execute : IfSome ch.execute (ReadsAt w (kept ch w.flight))
  pub retire : IfSome ch.retire (RetiresAt w ch)
  pub drained : (w.mode ≡ Running → ⊥) → Each IsCalm (kept ch w.flight)
  pub leads : (w.mode ≡ Running → ⊥) → IfSome ch.execute LeadsOn
  pub ends : w.mode ≡ Running → Ends w ch

-- ---- what is presented

pub shows-it : (w : Core) (o : Option Entry) → IfSome (option_map (presentation_of w) o) (λ x. x ≡ presentation_of w x.entry)
shows-it w None = tt
shows-it w (Some e) = refl

-- ---- the entry that executes

-- those older than an entry are before it
pub older-of : (es older : List Entry) (e : Entry) (younger : List Entry) → es ≡ older ++ e ∷ younger → Pairs Before es → older_than e.seq es ≡ older
older-of es older e younger h b = ap (older_than e.seq) h ∙ older-at older e younger (other-numbers older e younger (subst (Pairs Before) h b)).0

here-is : (o : Operand) → is_here o ≡ true → o ≡ Here (value_or_zero o)
here-is (Here v) h = refl
here-is NotYet h = cc

no-stores : (k : Kind) (older : List Entry) → is_held_back k older ≡ false → k ≡ row.Load → Each (λ y. is_store y ≡ false) older
no-stores row.Load older h e = any-none is_store older h
no-stores row.Alu older h e = cc
no-stores row.Store older h e = cc
no-stores row.Control older h e = cc
no-stores row.Fence older h e = cc
no-stores row.Stop older h e = cc

reads-local : (w : Core) (older : List Entry) (e : Entry) (i : Instr) (x : Executed) → older_than e.seq w.flight ≡ older → e.kind ≡ Local i → (e.done || is_stopping e) ≡ false → (are_sources_here w.params.dual_write w.registers older i && not (is_held_back (kind_of i) older)) ≡ true
    → record { entry = e; outcome = outcome_of w e i } ≡ x → (x.entry ≡ e) × Reads w.params.dual_write w.registers w.memory older e x.outcome
reads-local w older e i x h k d may same =
    let dual = w.params.dual_write in
    let both = and-left (are_sources_here dual w.registers older i) (not (is_held_back (kind_of i) older)) may in
    let held = not-in (is_held_back (kind_of i) older) (and-right (are_sources_here dual w.registers older i) (not (is_held_back (kind_of i) older)) may) in
    let s1 = source_behind dual w.registers older (sources_of i).0 in
    let s2 = source_behind dual w.registers older (sources_of i).1 in
    let outcome : executed w.memory (record { pc = e.pc; word = e.word }) i (value_or_zero s1) (value_or_zero s2) ≡ outcome_of w e i =
    ap (λ l. executed w.memory (record { pc = e.pc; word = e.word }) i (value_or_zero (source_behind dual w.registers l (sources_of i).0)) (value_or_zero (source_behind dual w.registers l (sources_of i).1))) (sym h) in (
      ap (λ y. y.entry) (sym same),
      record {
        instr = i;
        kind_is = k;
        not_done = or-false_left e.done (is_stopping e) d;
        not_stopping = or-false_right e.done (is_stopping e) d;
        a = value_or_zero s1;
        b = value_or_zero s2;
        rs1 = here-is s1 (and-left (is_here s1) (is_here s2) both);
        rs2 = here-is s2 (and-right (is_here s1) (is_here s2) both);
        stores = λ l. no-stores (kind_of i) older held l;
        outcome_is = outcome ∙ ap (λ y. y.outcome) same;
      },
    )

reads-kind : (w : Core) (older : List Entry) (e : Entry) (k : EntryKind) (x : Executed) → older_than e.seq w.flight ≡ older → e.kind ≡ k → (e.done || is_stopping e) ≡ false → may_execute_kind w.params.dual_write w.registers older k ≡ true → executed_kind w e k ≡ Some x
    → (x.entry ≡ e) × Reads w.params.dual_write w.registers w.memory older e x.outcome
reads-kind w older e (Local i) x h q d may o = reads-local w older e i x h q d may (some-is (record { entry = e; outcome = outcome_of w e i }) x o)
reads-kind w older e Unknown x h q d may o = cc
reads-kind w older e Nowhere x h q d may o = cc

-- among the oldest entries
pub reads-at : (w : Core) (k : ℕ) → Pairs Before w.flight → IfSome (execution w (take k w.flight)) (ReadsAt w (take k w.flight))
reads-at w k b = go (ready_oldest w.params.dual_write w.registers (take k w.flight)) refl
  where
    es : List Entry
    es = take k w.flight

    by : (e : Entry) → ReadyAt w.params.dual_write w.registers [] es e → (o : Option Executed) → executed_entry w e ≡ o → IfSome o (ReadsAt w es)
    by e r None h = tt
    by e r (Some x) h =
        let here : w.flight ≡ r.older ++ e ∷ (r.younger ++ drop k w.flight) = sym (take-append-drop k w.flight) ∙ ap (λ l. l ++ drop k w.flight) r.here ∙ append_assoc r.older (e ∷ r.younger) (drop k w.flight) in
        let older = older-of w.flight r.older e (r.younger ++ drop k w.flight) here b in
        let d = not-in (e.done || is_stopping e) (and-left (not (e.done || is_stopping e)) (may_execute_kind w.params.dual_write w.registers r.older e.kind) r.may) in
        let m = and-right (not (e.done || is_stopping e)) (may_execute_kind w.params.dual_write w.registers r.older e.kind) r.may in
        let q = reads-kind w r.older e e.kind x older refl d m h in
        record { older = r.older; younger = r.younger; here = r.here ∙ ap (λ y. r.older ++ y ∷ r.younger) (sym q.0); reads = subst (λ y. Reads w.params.dual_write w.registers w.memory r.older y x.outcome) (sym q.0) q.1 }

    go : (o : Option Entry) → ready_oldest w.params.dual_write w.registers es ≡ o → IfSome (option_and_then (executed_entry w) o) (ReadsAt w es)
    go None h = tt
    go (Some e) h = by e (ready-at w.params.dual_write w.registers [] es e h) (executed_entry w e) refl

pub all-taken : (es : List Entry) → take (length es) es ≡ es
all-taken [] = refl
all-taken (e ∷ es) = ap (λ l. e ∷ l) (all-taken es)

pub reads-all : (w : Core) → Pairs Before w.flight → IfSome (execution w w.flight) (ReadsAt w w.flight)
reads-all w b = subst (λ es. IfSome (execution w es) (ReadsAt w es)) (all-taken w.flight) (reads-at w (length w.flight) b)

-- one that is no control transfer goes on
plain-next : (w : Core) (older : List Entry) (e : Entry) (o : Stepped) (line : Retire) → Reads w.params.dual_write w.registers w.memory older e o → is_control e ≡ false → o ≡ Retired line → line.next ≡ following e.pc
plain-next w older e o line r c h = straight w.memory (record { pc = e.pc; word = e.word }) r.instr r.a r.b line (sym (ap (is_row is_control_row) r.kind_is) ∙ c) (r.outcome_is ∙ h)

-- ---- where nothing is cut by it

pub leads-on : (w : Core) (es : List Entry) (x : Executed) → Each GoesOn es → ReadsAt w es x → (is_control x.entry ≡ true → (line : Retire) → x.outcome ≡ Retired line → line.next ≡ x.entry.predicted) → LeadsOn x
leads-on w es x g r k = λ line h. go (is_control x.entry) refl line h
  where
    go : (c : Bool) → is_control x.entry ≡ c → (line : Retire) → x.outcome ≡ Retired line → line.next ≡ x.entry.predicted
    go true e line h = k e line h
    go false e line h = plain-next w r.older x.entry x.outcome line r.reads e h ∙ sym ((Each-at GoesOn es r.older x.entry r.younger r.here g).predicted e)

-- ---- the cuts

no-stop : (c : StopCause) (line : Retire) → Stop c ≡ Retired line → ⊥
no-stop c line h = cc

abbrev turn_to : Executed → List Entry → Retire → Cut
turn_to x es line = record { keep = count_through x.entry.seq es; target = line.next }

-- no cut, so it went as predicted
pub uncut-on : (x : Executed) (es : List Entry) → control_cut (Some x) es ≡ None → is_control x.entry ≡ true → (line : Retire) → x.outcome ≡ Retired line → line.next ≡ x.entry.predicted
uncut-on x es h c line o = eqb-true line.next x.entry.predicted (go (line.next == x.entry.predicted) (sym cut ∙ h))
  where
    cut : control_cut (Some x) es ≡ cond (not (line.next == x.entry.predicted)) (Some (turn_to x es line)) None
    cut = ap (λ s. transfer_cut x.entry s es) o ∙ ap (λ t. cond (t && not (line.next == x.entry.predicted)) (Some (turn_to x es line)) None) c

    go : (t : Bool) → cond (not t) (Some (turn_to x es line)) None ≡ None → t ≡ true
    go true k = refl
    go false k = cc

pub record TurnedBy (es : List Entry) (x : Executed) (c : Cut) : Type 0 where
  pub line : Retire
  pub outcome : x.outcome ≡ Retired line
  pub keep : c.keep ≡ count_through x.entry.seq es
  pub target : c.target ≡ line.next

pub turned-by : (es : List Entry) (x : Executed) (c : Cut) → control_cut (Some x) es ≡ Some c → TurnedBy es x c
turned-by es x c h = go x.outcome refl h
  where
    go : (o : Stepped) → x.outcome ≡ o → transfer_cut x.entry o es ≡ Some c → TurnedBy es x c
    go (Stop cause) e k = cc
    go (Retired line) e k = by (is_control x.entry && not (line.next == x.entry.predicted)) k
      where
        by : (t : Bool) → cond t (Some (turn_to x es line)) None ≡ Some c → TurnedBy es x c
        by true q = let same = some-is (turn_to x es line) c q in record { line = line; outcome = e; keep = ap (λ z. z.keep) (sym same); target = ap (λ z. z.target) (sym same) }
        by false q = cc

-- ---- the store that retires

pub missed-none : (store : Option Store) (es : List Entry) → store ≡ None → Each (Missed store) es
missed-none store es h = subst (λ o. Each (Missed o) es) (sym h) (each (Missed None) es (λ e. tt))

pub no-hits : (store : Option Store) (es : List Entry) → is_any_hit store es ≡ false → Each (Missed store) es
no-hits None es h = each (Missed None) es (λ e. tt)
no-hits (Some store) es h = any-none (is_hit store) es h

-- an entry that isn't a store has none
pub storeless : (e : Entry) → IsEntry e → is_store e ≡ false → e.store ≡ None
storeless e ok n = go e.store refl
  where
    go : (o : Option Store) → e.store ≡ o → e.store ≡ None
    go None h = h
    go (Some s) h = absurd (not-both (is_store e) n (ok.stores (ap is_some h)))
