-- A retirement and a dispatch are events.
use Rattle.std.proofs.Common.{◌≡◌, ◌++◌, ℕ, true, false, List, [], ◌∷◌, Option, Some, None, refl, sym, ap, ◌∙◌, subst, if◌then◌else◌}
use Rattle.std.specs.Prelude.{⊤}
use Rattle.xif_base.specs.Params.{IsInRange}
use Rattle.xif_image.specs.Region.{Region, word_at}
use Rattle.inorder_machine.specs.declared.line.Store.{Store}
use Rattle.inorder_machine.specs.declared.line.Retire.{Retire}
use Rattle.inorder_machine.specs.declared.line.Stepped.TheVariants.{Retired, Stop}
use Rattle.inorder_machine.specs.Lines.{IsStore}
use Rattle.inorder_machine.specs.Machine.{Extension, State, registers_after, memory_after, register_of}
use Rattle.cycle_spec.specs.declared.entry.Entry.{Entry}
use Rattle.cycle_spec.specs.declared.entry.EntryKind.{EntryKind}
use Rattle.cycle_spec.specs.declared.entry.EntryKind.TheVariants.{Local, Unknown, Nowhere}
use Rattle.cycle_spec.specs.declared.use_of.Use.{Use}
use Rattle.cycle_spec.specs.Flight.{is_unknown_kind}
use Rattle.cycle_spec.specs.Choices.{is_hit}
use Rattle.cycle_spec.specs.Core.{line_of, entry_at}
use Rattle.cycle_lists.specs.Lists.{Each}
use Rattle.cycle_lists.proofs.Every.{each, Each-from, Each-push}
use Rattle.ahead_spec.specs.Walk.{Item, entries, outcome, Walked, path_end}
use Rattle.ahead_spec.specs.World.{World, Retires, Dispatches, new_item}
use Rattle.ahead_spec.specs.Guards.{MayRetire}
use Rattle.ahead_spec.specs.Invariant.{Agrees}
use Rattle.ahead_laws.proofs.Rows.{fitting}
use Rattle.ahead_laws.proofs.Fetches.{word-stays}
use Rattle.ahead_laws.proofs.Outcomes.{entry-outcome-local, outcome-nowhere}
use Rattle.ahead_laws.proofs.Retiring.{keeps}
use Rattle.cycle_events.specs.Becomes.{Becomes}
use Rattle.cycle_events.specs.Shown.{Tied, Left, Shows}
use Rattle.cycle_events.proofs.Moving.{event, entries-append, to-items, path-last}
use Rattle.cycle_events.proofs.Tying.{tied-dead}

-- ---- a retirement

-- a store changes no byte of an instruction's word
abbrev pub Missed : Option Store → Entry → Type 0
Missed None y = ⊤
Missed (Some store) y = is_hit store y ≡ false

-- the store of a done instruction fits into the memory
store-fits : (x : Extension) (s : State) (y : Item) → Agrees x s.memory s y → y.entry.done ≡ true → IsStore s.memory y.entry.store
store-fits x s y g d = go y.entry.kind refl
  where
    no : {c : _} → Stop c ≡ Retired (line_of y.entry) → ⊥
    no k = cc

    go : (k : EntryKind) → y.entry.kind ≡ k → IsStore s.memory y.entry.store
    go (Local i) e = fitting s.memory (record { pc = y.entry.pc; word = y.entry.word }) i (register_of s i.rs1) (register_of s i.rs2) (line_of y.entry) (sym (entry-outcome-local x s.memory s y i g e) ∙ g.done_is d)
    go Unknown e = subst (IsStore s.memory) (sym (g.store_is (ap is_unknown_kind e))) tt
    go Nowhere e = absurd (no (sym (ap (λ q. outcome x s y.entry.pc q y.entry.word) e ∙ outcome-nowhere x s y.entry.pc y.entry.word) ∙ g.done_is d))

words-stay : (memory : Region) (store : Option Store) (es : List Entry) → IsStore memory store → Each (Missed store) es → Each (λ e. word_at (memory_after memory store) e.pc ≡ word_at memory e.pc) es
words-stay memory None es f h = each (λ e. word_at memory e.pc ≡ word_at memory e.pc) es (λ e. refl)
words-stay memory (Some store) es f h = Each-from (Missed (Some store)) (λ e. word_at (memory_after memory (Some store)) e.pc ≡ word_at memory e.pc) es (λ e k. word-stays memory store e.pc f.0 f.1 k) h

-- what is left behind a line
abbrev pub left_after : Left → Retire → Left
left_after left l = record {
  pc = l.next;
  registers = registers_after left.registers l.write;
  memory = memory_after left.memory l.store;
  retired = l ∷ left.retired;
  units = left.units;
}

pub retires : (x : Extension) (start : State) (hart : ℕ) (left : Left) (at : ℕ) (w : World) (l : Retire) (e : Entry) (es : List Entry) (us : List Use)
    → IsInRange x.params → e.done ≡ true → line_of e ≡ l → Each (Missed l.store) es
    → Shows x start hart left (e ∷ es) us at w → Becomes x (Shows x start hart (left_after left l) es us at) w
retires x start hart left at w l e es us range d line miss m = go w.flight refl
  where
    go : (ys : List Item) → w.flight ≡ ys → Becomes x (Shows x start hart (left_after left l) es us at) w
    go [] h = absurd (none (sym m.entries_are ∙ ap entries h))
      where
        none : e ∷ es ≡ [] → ⊥
        none k = cc
    go (y ∷ ys) h =
        let all : y.entry ∷ entries ys ≡ e ∷ es = sym (ap entries h) ∙ m.entries_are in
        let hd : y.entry ≡ e = cc in
        let tl : entries ys ≡ es = cc in
        let done : y.entry.done ≡ true = ap (λ z. z.done) hd ∙ d in
        let same : line_of y.entry ≡ l = ap line_of hd ∙ line in
        let store : y.entry.store ≡ l.store = ap (λ z. z.store) same in
        let agree : Agrees x m.runs.now.memory m.runs.now y = (subst (λ z. Walked x (Agrees x m.runs.now.memory) m.runs.now z) h m.runs.agree).0 in
        let fits : IsStore w.memory y.entry.store = subst (λ r. IsStore r y.entry.store) (sym m.runs.memory_is) (store-fits x m.runs.now y agree done) in
        let missed : Each (Missed y.entry.store) (entries ys) = subst (λ o. Each (Missed o) (entries ys)) (sym store) (subst (Each (Missed l.store)) (sym tl) miss) in
        let may : MayRetire w y ys = record { here = h; done = done; fetched = to-items (λ z. word_at (memory_after w.memory y.entry.store) z.pc ≡ word_at w.memory z.pc) ys (words-stay w.memory y.entry.store (entries ys) fits missed) } in
        let tied0 : Each (Tied x hart us) (y ∷ ys) = subst (Each (Tied x hart us)) h m.tied in
        event x (Shows x start hart (left_after left l) es us at) w (Retires y ys) may (record {
          runs = keeps x start w (Retires y ys) range may m.runs;
          left_is = ap (λ g. left_after g (line_of y.entry)) m.left_is ∙ ap (left_after left) same;
          entries_are = tl;
          leads = sym (ap (λ b. path_end (if b then y.entry.next else y.entry.predicted) ys) done) ∙ sym (ap (path_end w.pc) h) ∙ m.leads;
          tied = tied0.1;
        })

-- ---- a dispatch

pub dispatches : (x : Extension) (start : State) (hart : ℕ) (left : Left) (at : ℕ) (w : World) (answer : ℕ → ℕ → ℕ) (seq id : ℕ) (es : List Entry) (us : List Use)
    → IsInRange x.params → Shows x start hart left es us at w
    → Becomes x (Shows x start hart left (es ++ entry_at answer seq id at (word_at left.memory at) ∷ []) us (entry_at answer seq id at (word_at left.memory at)).predicted) w
dispatches x start hart left at w answer seq id es us range m =
    let y = new_item answer seq id w in
    let e = entry_at answer seq id at (word_at left.memory at) in
    let same : y.entry ≡ e = ap (λ n. entry_at answer seq id n (word_at w.memory n)) m.leads ∙ ap (λ r. entry_at answer seq id at (word_at r at)) (ap (λ l. l.memory) m.left_is) in
    event x (Shows x start hart left (es ++ e ∷ []) us e.predicted) w (Dispatches answer seq id) tt (record {
      runs = keeps x start w (Dispatches answer seq id) range tt m.runs;
      left_is = m.left_is;
      entries_are = entries-append w.flight (y ∷ []) ∙ ap (λ l. l ++ y.entry ∷ []) m.entries_are ∙ ap (λ d. es ++ d ∷ []) same;
      leads = path-last w.pc w.flight y ∙ ap (λ d. d.predicted) same;
      tied = Each-push (Tied x hart us) w.flight y m.tied (tied-dead x hart us y refl);
    })
