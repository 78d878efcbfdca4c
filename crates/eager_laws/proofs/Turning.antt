-- A control transfer that cuts leads, along what is in flight, elsewhere than was predicted.
use Rattle.std.proofs.Common.{◌≡◌, ◌≢◌, ◌==◌, ◌&&◌, ◌+◌, ◌++◌, Bool, true, false, cond, not, List, ◌∷◌, map, length, Some, None, refl, sym, ap, ◌∙◌, subst}
use Rattle.std.proofs.lemmas.Bool.{eqb-false}
use Rattle.rv32_table.specs.Instr.{sources_of}
use Rattle.xif_base.specs.Params.{IsInRange}
use Rattle.inorder_machine.specs.declared.line.Retire.{Retire}
use Rattle.inorder_machine.specs.declared.line.Stepped.{Stepped}
use Rattle.inorder_machine.specs.declared.line.Stepped.TheVariants.{Retired, Stop}
use Rattle.inorder_machine.specs.Execute.{At, executed}
use Rattle.inorder_machine.specs.Machine.{Extension, State, register_of}
use Rattle.cycle_spec.specs.declared.choices.Executed.{Executed}
use Rattle.cycle_spec.specs.declared.log.Cut.{Cut}
use Rattle.cycle_spec.specs.declared.entry.Entry.{Entry}
use Rattle.cycle_spec.specs.Flight.{is_row, is_control_row, is_control, is_store, count_through}
use Rattle.cycle_spec.specs.State.{Core}
use Rattle.cycle_spec.specs.Choices.{execution, transfer_cut, control_cut}
use Rattle.cycle_lists.specs.Lists.{Pairs}
use Rattle.cycle_lists.specs.Order.{Before}
use Rattle.cycle_lists.proofs.Tests.{some-is, some-at}
use Rattle.ahead_spec.specs.Walk.{Item, entries, outcome, along, Walked}
use Rattle.ahead_spec.specs.Invariant.{Agrees}
use Rattle.ahead_laws.proofs.Walks.{walked-front, walked-at}
use Rattle.ahead_laws.proofs.Sources.{if_read, unread, first_source, second_source}
use Rattle.ahead_laws.proofs.Memories.{along-bounds, along-memory, executed-memory}
use Rattle.ahead_laws.proofs.Outcomes.{entry-outcome-local}
use Rattle.ahead_laws.proofs.Views.{source-value}
use Rattle.cycle_events.proofs.Moving.{to-items, item-at}
use Rattle.cycle_events.proofs.Executed.{Reads}
use Rattle.cycle_events.proofs.Chosen.{ReadsAt, reads-all, older-of}
use Rattle.eager_laws.specs.Flights.{outcome_along, state_along, told_of}
use Rattle.eager_laws.specs.Eager.{IsCutByTransfer}
use Rattle.eager_laws.proofs.Views.{Tells, told-append, told-length}
use Rattle.eager_laws.proofs.Along.{outcome-told, tells, along-told}

-- ---- what the cut says

record TurnedAt (es : List Entry) (x : Executed) (c : Cut) : Type 0 where
  line : Retire
  outcome : x.outcome ≡ Retired line
  control : is_control x.entry ≡ true
  elsewhere : line.next ≢ x.entry.predicted
  keep : c.keep ≡ count_through x.entry.seq es
  target : c.target ≡ line.next

turned-at : (es : List Entry) (x : Executed) (c : Cut) → control_cut (Some x) es ≡ Some c → TurnedAt es x c
turned-at es x c h = go x.outcome refl h
  where
    by : (line : Retire) → x.outcome ≡ Retired line → (t u : Bool) → is_control x.entry ≡ t → (line.next == x.entry.predicted) ≡ u → cond (t && not u) (Some (record { keep = count_through x.entry.seq es; target = line.next })) None ≡ Some c → TurnedAt es x c
    by line e false u p q k = cc
    by line e true true p q k = cc
    by line e true false p q k =
        let same : record { keep = count_through x.entry.seq es; target = line.next } ≡ c = some-is (record { keep = count_through x.entry.seq es; target = line.next }) c k in
        record { line = line; outcome = e; control = p; elsewhere = eqb-false line.next x.entry.predicted q; keep = ap (λ z. z.keep) (sym same); target = ap (λ z. z.target) (sym same) }

    go : (o : Stepped) → x.outcome ≡ o → transfer_cut x.entry o es ≡ Some c → TurnedAt es x c
    go (Stop cause) e k = cc
    go (Retired line) e k = by line e (is_control x.entry) (line.next == x.entry.predicted) refl refl k

-- ---- what executes does what the in-order machine does there

outcome-there : (x : Extension) (now : State) (older : List Item) (y : Item) (o : Stepped) → IsInRange x.params → length now.registers ≡ 32 → Walked x (Agrees x now.memory) now older → Agrees x now.memory (along x now older) y
    → Reads x.params.dual_write now.registers now.memory (entries older) y.entry o → outcome x (along x now older) y.entry.pc y.entry.kind y.entry.word ≡ o
outcome-there x now older y o range n w g r =
    let s = along x now older in
    let i = r.instr in
    let place : At = record { pc = y.entry.pc; word = y.entry.word } in
    let a = source-value x now.memory (sources_of i).0 i.rs1 r.a older now range n w (first_source i) r.rs1 in
    let b = source-value x now.memory (sources_of i).1 i.rs2 r.b older now range n w (second_source i) r.rs2 in
    entry-outcome-local x now.memory s y i g r.kind_is
    ∙ sym (unread s.memory place i (register_of s i.rs1) (register_of s i.rs2))
    ∙ ap (λ v. executed s.memory place i v (if_read (sources_of i).1 (register_of s i.rs2))) a
    ∙ ap (λ v. executed s.memory place i r.a v) b
    ∙ executed-memory now.memory s.memory place i r.a r.b (along-bounds x now.memory older now w) (λ k. along-memory x now.memory older now w (to-items (λ d. is_store d ≡ false) older (r.stores k)))
    ∙ r.outcome_is

pub transfer-cut : (x : Extension) (now : State) (ys : List Item) (w : Core) (d : Executed) (c : Cut) → IsInRange x.params → w.params ≡ x.params → w.registers ≡ now.registers → w.memory ≡ now.memory → length now.registers ≡ 32
    → Walked x (Agrees x now.memory) now ys → entries ys ≡ w.flight → Pairs Before w.flight → execution w w.flight ≡ Some d → control_cut (Some d) w.flight ≡ Some c → IsCutByTransfer x now (map told_of w.flight) c
transfer-cut x now ys w d c range params regs mem n g f b e h =
    let r : ReadsAt w w.flight d = some-at (ReadsAt w w.flight) (execution w w.flight) d e (reads-all w b) in
    let t = turned-at w.flight d c h in
    let q = item-at ys r.older d.entry r.younger (f ∙ r.here) in
    let walk : Walked x (Agrees x now.memory) now (q.front ++ q.item ∷ q.back) = subst (Walked x (Agrees x now.memory) now) q.here g in
    let front = walked-front x (Agrees x now.memory) q.front (q.item ∷ q.back) now walk in
    let here = walked-at x (Agrees x now.memory) q.front q.item q.back now walk in
    let s = along x now q.front in
    let r1 = subst (λ p. Reads p.dual_write w.registers w.memory r.older d.entry d.outcome) params r.reads in
    let r2 = subst (λ z. Reads x.params.dual_write z w.memory r.older d.entry d.outcome) regs r1 in
    let r3 = subst (λ z. Reads x.params.dual_write now.registers z r.older d.entry d.outcome) mem r2 in
    let r4 = subst (λ l. Reads x.params.dual_write now.registers now.memory l d.entry d.outcome) (sym q.fronts) r3 in
    let r5 = subst (λ z. Reads x.params.dual_write now.registers now.memory (entries q.front) z d.outcome) (sym q.entry_is) r4 in
    let goes = outcome-there x now q.front q.item d.outcome range n front here r5 in
    let tell : Tells d.entry = subst Tells q.entry_is (tells x now.memory s q.item here) in
    record {
      older = map told_of r.older;
      entry = told_of d.entry;
      younger = map told_of r.younger;
      here = ap (map told_of) r.here ∙ told-append r.older (d.entry ∷ r.younger);
      transfer = ap (is_row is_control_row) tell.kind_is ∙ t.control;
      line = t.line;
      leads = ap (λ l. outcome_along x (state_along x now (map told_of l)) (told_of d.entry)) (sym q.fronts)
          ∙ ap (λ z. outcome_along x z (told_of d.entry)) (along-told x q.front now)
          ∙ ap (λ z. outcome_along x s (told_of z)) (sym q.entry_is)
          ∙ outcome-told x s q.item.entry ∙ goes ∙ t.outcome;
      elsewhere = t.elsewhere;
      keep = t.keep ∙ ap (λ l. length l + 1) (older-of w.flight r.older d.entry r.younger r.here b) ∙ ap (λ k. k + 1) (sym (told-length r.older));
      target = t.target;
    }
