-- An execution is an event.
use Rattle.std.proofs.Common.{◌≡◌, ◌≢◌, ◌⊎◌, ◌++◌, ℕ, Bool, false, List, [], ◌∷◌, map, refl, sym, ap, ◌∙◌, subst, inl, inr, if◌then◌else◌}
use Rattle.std.proofs.lemmas.Bool.{ne_eqb}
use Rattle.rv32_table.specs.declared.instr.Instr.{Instr}
use Rattle.rv32_table.specs.declared.instr.Kind.TheVariants as row
use Rattle.rv32_table.specs.Instr.{kind_of, sources_of}
use Rattle.xif_base.specs.Params.{IsInRange}
use Rattle.xif_image.specs.Region.{Region}
use Rattle.inorder_machine.specs.declared.line.Retire.{Retire}
use Rattle.inorder_machine.specs.declared.line.Stepped.{Stepped}
use Rattle.inorder_machine.specs.declared.line.Stepped.TheVariants.{Retired, Stop}
use Rattle.inorder_machine.specs.Execute.{executed}
use Rattle.inorder_machine.specs.Machine.{Extension, State}
use Rattle.cycle_spec.specs.declared.entry.Entry.{Entry}
use Rattle.cycle_spec.specs.declared.entry.EntryKind.TheVariants.{Local}
use Rattle.cycle_spec.specs.declared.entry.Operand.TheVariants.{Here}
use Rattle.cycle_spec.specs.declared.use_of.Use.{Use}
use Rattle.cycle_spec.specs.Flight.{is_store, is_stopping, source_behind, with_outcome, with_line, with_stop}
use Rattle.cycle_lists.specs.Lists.{Each, Pairs}
use Rattle.cycle_lists.specs.Order.{Before}
use Rattle.cycle_lists.proofs.Every.{Each-append, Each-front, Each-back}
use Rattle.cycle_paired.proofs.Facts.{done-dead}
use Rattle.ahead_spec.specs.Walk.{Item, entries, leads_to, IsPath, path_end}
use Rattle.ahead_spec.specs.World.{World, Spot, executed_with, halted_with, with_entry, Executes, Halts}
use Rattle.ahead_spec.specs.Guards.{MayExecute}
use Rattle.ahead_laws.proofs.Walks.{path-at}
use Rattle.ahead_laws.proofs.EntryChanges.{with_line-here, with_line-other, with_stop-here, with_stop-other}
use Rattle.cycle_events.specs.Becomes.{Becomes}
use Rattle.cycle_events.specs.Shown.{Tied, Left, Shows}
use Rattle.cycle_events.proofs.Moving.{to-items, item-at, path-same, path-last, entries-swap, swap}
use Rattle.cycle_events.proofs.Tying.{tied-dead, tied-item}

-- an instruction of RV32IM that may execute, on registers and a memory, with its outcome
pub record Reads (dual : Bool) (registers : List ℕ) (memory : Region) (older : List Entry) (e : Entry) (o : Stepped) : Type 0 where
  pub instr : Instr
  pub kind_is : e.kind ≡ Local instr
  pub not_done : e.done ≡ false
  pub not_stopping : is_stopping e ≡ false
  pub a : ℕ
  pub b : ℕ
  pub rs1 : source_behind dual registers older (sources_of instr).0 ≡ Here a
  pub rs2 : source_behind dual registers older (sources_of instr).1 ≡ Here b
  pub stores : kind_of instr ≡ row.Load → Each (λ y. is_store y ≡ false) older
  pub outcome_is : executed memory (record { pc = e.pc; word = e.word }) instr a b ≡ o

-- where it leads: where the path went on before, or nothing is behind it
abbrev pub Route : Stepped → (e : Entry) → (younger : List Entry) → (at to : ℕ) → Type 0
Route (Retired line) e younger at to = ((line.next ≡ e.predicted) × (to ≡ at)) ⊎ ((younger ≡ []) × (to ≡ line.next))
Route (Stop cause) e younger at to = to ≡ at

no-items : (ys : List Item) → entries ys ≡ [] → ys ≡ []
no-items [] h = refl
no-items (y ∷ ys) h = cc

may-execute : (x : Extension) (left : Left) (w : World) (spot : Spot) (older : List Entry) (e : Entry) (o : Stepped) → w.flight ≡ spot.older ++ spot.item ∷ spot.younger → w.registers ≡ left.registers → w.memory ≡ left.memory → entries spot.older ≡ older → spot.item.entry ≡ e
    → Reads x.params.dual_write left.registers left.memory older e o → MayExecute x w spot o
may-execute x left w spot older e o h regs mem olders here r = record {
  here = h;
  instr = r.instr;
  is_row = ap (λ d. d.kind) here ∙ r.kind_is;
  not_done = ap (λ d. d.done) here ∙ r.not_done;
  not_stopping = ap is_stopping here ∙ r.not_stopping;
  a = r.a;
  b = r.b;
  rs1 = ap (λ g. source_behind x.params.dual_write g (entries spot.older) (sources_of r.instr).0) regs ∙ ap (λ l. source_behind x.params.dual_write left.registers l (sources_of r.instr).0) olders ∙ r.rs1;
  rs2 = ap (λ g. source_behind x.params.dual_write g (entries spot.older) (sources_of r.instr).1) regs ∙ ap (λ l. source_behind x.params.dual_write left.registers l (sources_of r.instr).1) olders ∙ r.rs2;
  stores = λ k. to-items (λ d. is_store d ≡ false) spot.older (subst (Each (λ d. is_store d ≡ false)) (sym olders) (r.stores k));
  outcome_is = ap (λ m. executed m (record { pc = spot.item.entry.pc; word = spot.item.entry.word }) r.instr r.a r.b) mem
      ∙ ap (λ d. executed left.memory (record { pc = d.pc; word = d.word }) r.instr r.a r.b) here ∙ r.outcome_is;
}

pub executes : (x : Extension) (start : State) (hart : ℕ) (left : Left) (at to : ℕ) (w : World) (o : Stepped) (es older : List Entry) (e : Entry) (younger : List Entry) (us : List Use)
    → IsInRange x.params → es ≡ older ++ e ∷ younger → Pairs Before es → Reads x.params.dual_write left.registers left.memory older e o → Route o e younger at to
    → Shows x start hart left es us at w → Becomes x (Shows x start hart left (map (with_outcome e.seq o) es) us to) w
executes x start hart left at to w (Retired line) es older e younger us range h b r route m =
    let q = item-at w.flight older e younger (m.entries_are ∙ h) in
    let y = q.item in
    let spot : Spot = record { older = q.front; item = y; younger = q.back } in
    let z = with_entry y (executed_with line y.entry) in
    let may = may-execute x left w spot older e (Retired line) q.here (ap (λ l. l.registers) m.left_is) (ap (λ l. l.memory) m.left_is) q.fronts q.entry_is r in
    let undone : leads_to y.entry ≡ e.predicted = ap leads_to q.entry_is ∙ ap (λ d. if d then e.next else e.predicted) r.not_done in
    let seq : y.entry.seq ≡ e.seq = ap (λ d. d.seq) q.entry_is in
    let change : z.entry ≡ with_line e.seq line y.entry = sym (with_line-here y.entry line) ∙ ap (λ n. with_line n line y.entry) seq in
    let others = λ (d : Entry) (n : d.seq ≢ y.entry.seq). with_line-other e.seq d line (ne_eqb d.seq e.seq (λ k. n (k ∙ sym seq))) in
    let fs_is = entries-swap (with_line e.seq line) es spot z (ap entries (sym q.here) ∙ m.entries_are) b others change in
    let tied0 : Each (Tied x hart us) (q.front ++ y ∷ q.back) = subst (Each (Tied x hart us)) q.here m.tied in
    let path : IsPath (leads_to y.entry) q.back = path-at q.front y q.back m.runs.now.pc (subst (IsPath m.runs.now.pc) q.here m.runs.path) in
    let end : path_end w.pc (q.front ++ y ∷ q.back) ≡ at = sym (ap (path_end w.pc) q.here) ∙ m.leads in
    let tied1 = Each-append (Tied x hart us) q.front (z ∷ q.back) (Each-front (Tied x hart us) q.front (y ∷ q.back) tied0) (tied-dead x hart us z (done-dead z.entry refl), (Each-back (Tied x hart us) q.front (y ∷ q.back) tied0).1) in
    let go : ((line.next ≡ e.predicted) × (to ≡ at)) ⊎ ((younger ≡ []) × (to ≡ line.next)) → IsPath line.next q.back × (path_end w.pc (q.front ++ z ∷ q.back) ≡ to) =
    by line y z q.front q.back w.pc undone path end (λ n. no-items q.back (q.backs ∙ n)) refl in
    let k = go route in
    swap x start hart left es (map (with_line e.seq line) es) us us at to w spot z (Executes spot line) range m (record { executes = may; path = k.0 }) refl fs_is k.1 tied1
  where
    by : (line : Retire) (y z : Item) (front back : List Item) (pc : ℕ) → leads_to y.entry ≡ e.predicted → IsPath (leads_to y.entry) back → path_end pc (front ++ y ∷ back) ≡ at → (younger ≡ [] → back ≡ []) → leads_to z.entry ≡ line.next
        → ((line.next ≡ e.predicted) × (to ≡ at)) ⊎ ((younger ≡ []) × (to ≡ line.next)) → IsPath line.next back × (path_end pc (front ++ z ∷ back) ≡ to)
    by line y z front back pc u p end nil l (inl k) =
        let same : line.next ≡ leads_to y.entry = k.0 ∙ sym u in
        (subst (λ n. IsPath n back) (sym same) p, path-same pc front y z back (l ∙ same) ∙ end ∙ sym k.1)
    by line y z front back pc u p end nil l (inr k) =
        let e0 = nil k.0 in
        (subst (IsPath line.next) (sym e0) tt, ap (λ g. path_end pc (front ++ z ∷ g)) e0 ∙ path-last pc front z ∙ l ∙ sym k.1)
executes x start hart left at to w (Stop cause) es older e younger us range h b r route m =
    let q = item-at w.flight older e younger (m.entries_are ∙ h) in
    let y = q.item in
    let spot : Spot = record { older = q.front; item = y; younger = q.back } in
    let z = with_entry y (halted_with cause y.entry) in
    let may = may-execute x left w spot older e (Stop cause) q.here (ap (λ l. l.registers) m.left_is) (ap (λ l. l.memory) m.left_is) q.fronts q.entry_is r in
    let seq : y.entry.seq ≡ e.seq = ap (λ d. d.seq) q.entry_is in
    let change : z.entry ≡ with_stop e.seq cause y.entry = sym (with_stop-here y.entry cause) ∙ ap (λ n. with_stop n cause y.entry) seq in
    let others = λ (d : Entry) (n : d.seq ≢ y.entry.seq). with_stop-other e.seq d cause (ne_eqb d.seq e.seq (λ k. n (k ∙ sym seq))) in
    let fs_is = entries-swap (with_stop e.seq cause) es spot z (ap entries (sym q.here) ∙ m.entries_are) b others change in
    let tied0 : Each (Tied x hart us) (q.front ++ y ∷ q.back) = subst (Each (Tied x hart us)) q.here m.tied in
    let rest = Each-back (Tied x hart us) q.front (y ∷ q.back) tied0 in
    let new = tied-item x hart us y z (record { live = λ l. l; id = refl; word = refl; sent = refl; result = refl }) rest.0 in
    swap x start hart left es (map (with_stop e.seq cause) es) us us at to w spot z (Halts spot cause) range m may refl fs_is
    (path-same w.pc q.front y z q.back refl ∙ sym (ap (path_end w.pc) q.here) ∙ m.leads ∙ sym route)
    (Each-append (Tied x hart us) q.front (z ∷ q.back) (Each-front (Tied x hart us) q.front (y ∷ q.back) tied0) (new, rest.1))
