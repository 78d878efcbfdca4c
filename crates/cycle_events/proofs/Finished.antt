-- The result that is taken is an event.
use Rattle.std.proofs.Common.{◌≡◌, ◌≢◌, ◌++◌, ℕ, true, false, List, ◌∷◌, map, Option, Some, None, refl, sym, ap, ◌∙◌, subst, if◌then◌else◌}
use Rattle.std.specs.Prelude.{IsSome}
use Rattle.std.proofs.lemmas.Bool.{ne_eqb}
use Rattle.rv32_table.specs.Instr.{rd_field}
use Rattle.xif_base.specs.Params.{IsInRange}
use Rattle.inorder_machine.specs.Machine.{Extension, State}
use Rattle.inorder_machine.specs.Units.{unit_write}
use Rattle.cycle_spec.specs.declared.entry.Entry.{Entry}
use Rattle.cycle_spec.specs.declared.entry.EntryKind.{EntryKind}
use Rattle.cycle_spec.specs.declared.entry.EntryKind.TheVariants.{Local, Unknown, Nowhere}
use Rattle.cycle_spec.specs.declared.use_of.Use.{Use}
use Rattle.cycle_spec.specs.Flight.{is_unknown, is_unknown_kind, is_row, is_control_row, with_result}
use Rattle.cycle_spec.specs.Engine.{writeback_of, with_end}
use Rattle.cycle_lists.specs.Lists.{Each, Pairs}
use Rattle.cycle_lists.specs.Order.{Before}
use Rattle.cycle_lists.proofs.Every.{Each-at, Each-append, Each-front, Each-back}
use Rattle.cycle_paired.specs.Paired.{is_live}
use Rattle.cycle_paired.proofs.Facts.{live-undone, done-dead}
use Rattle.cycle_paired.proofs.Carrying.{Carries}
use Rattle.ahead_spec.specs.Walk.{entries, leads_to, path_end}
use Rattle.ahead_spec.specs.World.{World, Spot, finished_with, result_write, with_entry, Finishes}
use Rattle.ahead_spec.specs.Guards.{MayFinish}
use Rattle.ahead_laws.proofs.Keeping.{agrees-at}
use Rattle.ahead_laws.proofs.EntryChanges.{with_result-here, with_result-other}
use Rattle.cycle_events.specs.Becomes.{Becomes}
use Rattle.cycle_events.specs.Shown.{shown, Tied, Left, Shows}
use Rattle.cycle_events.proofs.Moving.{item-at, path-same, entries-swap, swap}
use Rattle.cycle_events.proofs.Tying.{Tie, tied-dead, all-tied-map}

shown-some : (r : Option ℕ) (v : ℕ) → IsSome r → shown r v ≡ Some v
shown-some None v h = cc
shown-some (Some c) v h = refl

pub unknown-control : (k : EntryKind) → is_unknown_kind k ≡ true → is_row is_control_row k ≡ false
unknown-control (Local i) h = cc
unknown-control Unknown h = refl
unknown-control Nowhere h = refl

pub finished : (x : Extension) (start : State) (hart : ℕ) (left : Left) (at : ℕ) (w : World) (u : Use) (es older : List Entry) (p : Entry) (younger : List Entry) (us : List Use)
    → IsInRange x.params → es ≡ older ++ p ∷ younger → Pairs Before es → is_live p ≡ true → is_unknown p ≡ true → p.id ≡ u.key.id → u.key.hart ≡ hart → Carries u us
    → Shows x start hart left es us at w → Becomes x (Shows x start hart left (map (with_result p.seq (unit_write (rd_field p.word) (writeback_of u.hit) u.result)) es) (map (with_end u.start) us) at) w
finished x start hart left at w u es older p younger us range h b live unknown id own k m =
    let q = item-at w.flight older p younger (m.entries_are ∙ h) in
    let y = q.item in
    let spot : Spot = record { older = q.front; item = y; younger = q.back } in
    let v = k.carried in
    let l : is_live y.entry ≡ true = ap is_live q.entry_is ∙ live in
    let tie = Each-at (Tie x hart y) us k.front v k.back k.here (Each-at (Tied x hart us) w.flight q.front y q.back q.here m.tied) l (ap (λ n. n.hart) k.key ∙ own) (ap (λ n. n.id) k.key ∙ sym id ∙ ap (λ d. d.id) (sym q.entry_is)) in
    let result : y.result ≡ Some u.result = tie.result_is ∙ shown-some v.ready v.result k.ready ∙ ap Some k.result in
    let hit : u.hit ≡ _ = sym k.hit ∙ tie.hit_is in
    let may : MayFinish w spot u.result = record { here = q.here; result_is = result } in
    let written = unit_write (rd_field p.word) (writeback_of u.hit) u.result in
    let z = with_entry y (finished_with (result_write x y.entry.word u.result) y.entry) in
    let seq : y.entry.seq ≡ p.seq = ap (λ d. d.seq) q.entry_is in
    let same : result_write x y.entry.word u.result ≡ written = ap (λ d. unit_write (rd_field y.entry.word) (writeback_of d) u.result) (sym hit) ∙ ap (λ d. unit_write (rd_field d.word) (writeback_of u.hit) u.result) q.entry_is in
    let change : z.entry ≡ with_result p.seq written y.entry = ap (λ d. finished_with d y.entry) same ∙ sym (with_result-here y.entry written) ∙ ap (λ n. with_result n written y.entry) seq in
    let others = λ (d : Entry) (n : d.seq ≢ y.entry.seq). with_result-other p.seq d written (ne_eqb d.seq p.seq (λ r. n (r ∙ sym seq))) in
    let fs_is = entries-swap (with_result p.seq written) es spot z (ap entries (sym q.here) ∙ m.entries_are) b others change in
    let g = agrees-at x start w spot m.runs q.here in
    let un : is_unknown y.entry ≡ true = ap is_unknown q.entry_is ∙ unknown in
    let leads : leads_to z.entry ≡ leads_to y.entry = g.next_is un ∙ sym (g.predicted_is (unknown-control y.entry.kind un)) ∙ sym (ap (λ d. if d then y.entry.next else y.entry.predicted) (live-undone y.entry l)) in
    let vs = map (with_end u.start) us in
    let tied0 : Each (Tied x hart us) (q.front ++ y ∷ q.back) = subst (Each (Tied x hart us)) q.here m.tied in
    let tied1 = all-tied-map x hart (with_end u.start) us (q.front ++ y ∷ q.back) (λ d. record { key = refl; hit = refl; given = refl; lanes = refl; ready = refl; result = refl }) tied0 in
    swap x start hart left es (map (with_result p.seq written) es) us vs at at w spot z (Finishes spot u.result) range m may refl fs_is
    (path-same w.pc q.front y z q.back leads ∙ sym (ap (path_end w.pc) q.here) ∙ m.leads)
    (Each-append (Tied x hart vs) q.front (z ∷ q.back) (Each-front (Tied x hart vs) q.front (y ∷ q.back) tied1) (tied-dead x hart vs z (done-dead z.entry refl), (Each-back (Tied x hart vs) q.front (y ∷ q.back) tied1).1))
