-- The events of one instruction in flight keep what holds of the machine that runs ahead.
use Rattle.std.proofs.Common.{◌≡◌, ◌&&◌, ℕ, Bool, true, false, Some, is_some, is_none, IsSome, List, [], ◌∷◌, ◌++◌, refl, sym, ap, subst, ◌∙◌, if◌then◌else◌}
use Rattle.std.specs.List.{AllByRecursion}
use Rattle.rv32_table.specs.Instr.{sources_of}
use Rattle.xif_base.specs.Params.{IsInRange}
use Rattle.xif_drive.specs.Predictors.{following}
use Rattle.inorder_machine.specs.declared.line.Retire.{Retire}
use Rattle.inorder_machine.specs.declared.line.Stepped.{Stepped}
use Rattle.inorder_machine.specs.declared.line.Stepped.TheVariants.{Retired, Stop}
use Rattle.inorder_machine.specs.declared.stop.StopCause.{StopCause}
use Rattle.inorder_machine.specs.declared.units.Half.{Half}
use Rattle.inorder_machine.specs.Execute.{At, executed}
use Rattle.inorder_machine.specs.Machine.{Extension, State, register_of}
use Rattle.xif_session.specs.Facts.{is_accepted}
use Rattle.cycle_spec.specs.declared.entry.Entry.{Entry}
use Rattle.cycle_spec.specs.declared.entry.EntryKind.{EntryKind}
use Rattle.cycle_spec.specs.declared.entry.EntryKind.TheVariants.{Unknown}
use Rattle.cycle_spec.specs.declared.entry.Operand.TheVariants.{Here}
use Rattle.cycle_spec.specs.Flight.{is_unknown_kind, is_unknown, is_row, is_control_row, is_open, is_safe, operand_behind, source_behind}
use Rattle.ahead_spec.specs.Walk.{Item, entries, along, Walked, leads_to, IsPath, path_end}
use Rattle.ahead_spec.specs.Operands.{word_hit, response_of, half_behind, CarriesOperands}
use Rattle.ahead_spec.specs.World.{World, Spot, whole, with_item, with_flight, with_entry, executed_with, halted_with, answered_with, sent_of, finished_with, result_write, new_item, Dispatches, Executes, Halts, Answers, Sends, Finishes, Drops, happens}
use Rattle.ahead_spec.specs.Guards.{MayExecute, MayExecuteTo, MayAnswer, MaySend, MayFinish, MayDrop}
use Rattle.ahead_spec.specs.Pairs.{Pairs}
use Rattle.ahead_spec.specs.Invariant.{Agrees, InOrder, units_at, RunsAhead}
use Rattle.ahead_laws.proofs.Lists.{all-back, all-from, all-both, all-every, pairs-front, pairs-older, pairs-younger, pairs-replaced, pairs-push, not_both, and_false, none_unless}
use Rattle.ahead_laws.proofs.Walks.{SamePlace, walked-front, walked-at, walked-replaced, walked-push, walked-each, path-front, path-at, path-replaced, path-push}
use Rattle.ahead_laws.proofs.Rows.{never-stops}
use Rattle.ahead_laws.proofs.Sources.{if_read, unread, first_source, second_source}
use Rattle.ahead_laws.proofs.Memories.{along-bounds, along-memory, executed-memory}
use Rattle.ahead_laws.proofs.Views.{operand-value, source-value, half-value}
use Rattle.ahead_laws.proofs.Uses.{IsIdle, units_at-front, units_at-replaced}
use Rattle.ahead_laws.proofs.Agreeing.{agrees-dispatched, agrees-executed, agrees-halted, agrees-answered, agrees-sent, accepted-taken, agrees-finished}
use Rattle.ahead_laws.proofs.Safe.{safe-same, safe-word, open-unsafe, safe-executed, safe-plain}

-- the same machine with other instructions in flight
pub other-flight : (x : Extension) (start : State) (w : World) (ys : List Item) (r : RunsAhead x start w) → IsPath r.now.pc ys → Walked x (Agrees x r.now.memory) r.now ys → Pairs InOrder ys
    → units_at x r.now ys ≡ units_at x r.now w.flight → RunsAhead x start (with_flight w ys)
other-flight x start w ys r p g o u = record {
  now = r.now;
  arrived = r.arrived;
  lines_are = r.lines_are;
  pc_is = r.pc_is;
  registers_are = r.registers_are;
  memory_is = r.memory_is;
  count = r.count;
  path = p;
  agree = g;
  in_order = o;
  units_are = r.units_are ∙ sym u;
}

-- ---- the facts at a spot

pub record AtSpot (x : Extension) (now : State) (w : World) (p : Spot) : Type 0 where
  pub path : IsPath now.pc (whole p)
  pub agree : Walked x (Agrees x now.memory) now (whole p)
  pub in_order : Pairs InOrder (whole p)
  pub units_are : w.units ≡ units_at x now (whole p)

pub at-spot : (x : Extension) (start : State) (w : World) (p : Spot) (r : RunsAhead x start w) → w.flight ≡ whole p → AtSpot x r.now w p
at-spot x start w p r h = record {
  path = subst (IsPath r.now.pc) h r.path;
  agree = subst (Walked x (Agrees x r.now.memory) r.now) h r.agree;
  in_order = subst (Pairs InOrder) h r.in_order;
  units_are = r.units_are ∙ ap (units_at x r.now) h;
}

module _ (x : Extension) (start : State) (w : World) (p : Spot) (r : RunsAhead x start w) (h : w.flight ≡ whole p) where
  pub agrees-at : Agrees x r.now.memory (along x r.now p.older) p.item
  agrees-at = walked-at x (Agrees x r.now.memory) p.older p.item p.younger r.now (at-spot x start w p r h).agree

  pub agree-older : Walked x (Agrees x r.now.memory) r.now p.older
  agree-older = walked-front x (Agrees x r.now.memory) p.older (p.item ∷ p.younger) r.now (at-spot x start w p r h).agree

  pub order-older : AllByRecursion (λ y. InOrder y p.item) p.older
  order-older = pairs-older InOrder p.older p.item p.younger (at-spot x start w p r h).in_order

  pub order-younger : AllByRecursion (InOrder p.item) p.younger
  order-younger = pairs-younger InOrder p.older p.item p.younger (at-spot x start w p r h).in_order

  pub path-younger : IsPath (leads_to p.item.entry) p.younger
  path-younger = path-at p.older p.item p.younger r.now.pc (at-spot x start w p r h).path

  -- the younger ones are released before their result is computed
  pub released-younger : AllByRecursion (λ y. IsSome y.result → y.entry.released ≡ true) p.younger
  released-younger =
      (all-back (λ y. IsSome y.result → y.entry.released ≡ true) p.older (p.item ∷ p.younger)
      (walked-each x (Agrees x r.now.memory) (λ y. IsSome y.result → y.entry.released ≡ true) (whole p) r.now (λ t y g. g.result_when) (at-spot x start w p r h).agree)).1

  -- the instruction changes, and keeps its address, its word and its result
  pub changed : (z : Item) → SamePlace p.item z → z.result ≡ p.item.result → IsPath (leads_to z.entry) p.younger → Agrees x r.now.memory (along x r.now p.older) z
      → AllByRecursion (λ y. InOrder y z) p.older → AllByRecursion (InOrder z) p.younger → RunsAhead x start (with_flight w (with_item p z))
  changed z s q c g o b =
      let t = at-spot x start w p r h in
      other-flight x start w (with_item p z) r
      (path-replaced p.older p.item z p.younger r.now.pc s.pc c t.path)
      (walked-replaced x (Agrees x r.now.memory) p.older p.item z p.younger r.now s g t.agree)
      (pairs-replaced InOrder p.older p.item z p.younger t.in_order o b)
      (units_at-replaced x p.older p.item z p.younger r.now s q ∙ sym (ap (units_at x r.now) h))

-- a younger one that changes only what doesn't matter here
pub order-younger_same : (y z z' : Item) → z'.entry.released ≡ z.entry.released → z'.result ≡ z.result → (IsSome z'.entry.response → IsSome z.entry.response) → InOrder y z → InOrder y z'
order-younger_same y z z' a b c o = record {
  safe = λ h. o.safe (sym a ∙ h);
  released = λ h. o.released (sym a ∙ h);
  computed = λ h. o.computed (subst IsSome b h);
  answered = λ h. o.answered (c h);
}

-- and an older one
pub order-older_same : (y y' z : Item) → (is_safe y.entry ≡ true → is_safe y'.entry ≡ true) → y'.entry.released ≡ y.entry.released → y'.result ≡ y.result → y'.entry.response ≡ y.entry.response → y'.entry.kind ≡ y.entry.kind → InOrder y z → InOrder y' z
order-older_same y y' z s a b c k o = record {
  safe = λ h. s (o.safe h);
  released = λ h q. a ∙ o.released h (sym (ap is_accepted c) ∙ q);
  computed = λ h q. subst IsSome (sym b) (o.computed h (sym (ap is_accepted c) ∙ q));
  answered = λ h. ap (λ q. is_unknown_kind q && is_none y'.entry.response) k ∙ ap (λ q. is_unknown_kind y.entry.kind && is_none q) c ∙ o.answered h;
}

-- ---- a dispatch

pub keeps-dispatch : (x : Extension) (start : State) (w : World) (answer : ℕ → ℕ → ℕ) (seq id : ℕ) → RunsAhead x start w → RunsAhead x start (happens x w (Dispatches answer seq id))
keeps-dispatch x start w answer seq id r =
    let y = new_item answer seq id w in
    let g : Agrees x r.now.memory (along x r.now w.flight) y = subst (λ m. Agrees x m (along x r.now w.flight) y) r.memory_is (agrees-dispatched x w.memory (along x r.now w.flight) answer seq id (path_end w.pc w.flight)) in
    let walked = walked-push x (Agrees x r.now.memory) w.flight y r.now g r.agree in
    other-flight x start w (w.flight ++ y ∷ []) r
    (path-push w.flight y r.now.pc (ap (λ n. path_end n w.flight) r.pc_is) r.path)
    walked
    (pairs-push InOrder w.flight y r.in_order (all-every (λ z. InOrder z y) w.flight (λ z. record { safe = λ h. absurd (no h); released = λ h. absurd (no h); computed = λ h. absurd (no h); answered = λ h. absurd (no h) })))
    (units_at-front x r.now.memory w.flight (y ∷ []) r.now walked (refl, tt))
  where
    no : false ≡ true → ⊥
    no h = cc

-- ---- an execution

-- what executes does what the in-order machine does there
executed-there : (x : Extension) (start : State) (w : World) (p : Spot) (o : Stepped) (m : MayExecute x w p o) (r : RunsAhead x start w) → IsInRange x.params
    → let s = along x r.now p.older in executed s.memory (record { pc = p.item.entry.pc; word = p.item.entry.word }) m.instr (register_of s m.instr.rs1) (register_of s m.instr.rs2) ≡ o
executed-there x start w p o m r range =
    let s = along x r.now p.older in
    let i = m.instr in
    let place : At = record { pc = p.item.entry.pc; word = p.item.entry.word } in
    let g = agree-older x start w p r m.here in
    let dual = x.params.dual_write in
    let a = source-value x r.now.memory (sources_of i).0 i.rs1 m.a p.older r.now range r.count g (first_source i) (ap (λ q. source_behind dual q (entries p.older) (sources_of i).0) (sym r.registers_are) ∙ m.rs1) in
    let b = source-value x r.now.memory (sources_of i).1 i.rs2 m.b p.older r.now range r.count g (second_source i) (ap (λ q. source_behind dual q (entries p.older) (sources_of i).1) (sym r.registers_are) ∙ m.rs2) in
    sym (unread s.memory place i (register_of s i.rs1) (register_of s i.rs2))
    ∙ ap (λ v. executed s.memory place i v (if_read (sources_of i).1 (register_of s i.rs2))) a
    ∙ ap (λ v. executed s.memory place i m.a v) b
    ∙ executed-memory r.now.memory s.memory place i m.a m.b (along-bounds x r.now.memory p.older r.now g) (λ k. along-memory x r.now.memory p.older r.now g (m.stores k))
    ∙ ap (λ q. executed q place i m.a m.b) (sym r.memory_is)
    ∙ m.outcome_is

pub keeps-execute : (x : Extension) (start : State) (w : World) (p : Spot) (l : Retire) → IsInRange x.params → MayExecuteTo x w p l → RunsAhead x start w → RunsAhead x start (happens x w (Executes p l))
keeps-execute x start w p l range n r =
    let m = n.executes in
    let y = p.item in
    let z = with_entry y (executed_with l y.entry) in
    changed x start w p r m.here z (record { pc = refl; kind = refl; word = refl }) refl n.path
    (agrees-executed x r.now.memory (along x r.now p.older) y m.instr l m.is_row (executed-there x start w p (Retired l) m r range) (agrees-at x start w p r m.here))
    (all-from (λ o. InOrder o y) (λ o. InOrder o z) p.older (λ o. order-younger_same o y z refl refl (λ h. h)) (order-older x start w p r m.here))
    (all-from (InOrder y) (InOrder z) p.younger (λ o. order-older_same y z o (safe-executed y.entry l) refl refl refl refl) (order-younger x start w p r m.here))

pub keeps-halt : (x : Extension) (start : State) (w : World) (p : Spot) (c : StopCause) → IsInRange x.params → MayExecute x w p (Stop c) → RunsAhead x start w → RunsAhead x start (happens x w (Halts p c))
keeps-halt x start w p c range m r =
    let y = p.item in
    let z = with_entry y (halted_with c y.entry) in
    let s = along x r.now p.older in
    let g = agrees-at x start w p r m.here in
    let stops = executed-there x start w p (Stop c) m r range in
    let unsafe = λ (h : is_safe y.entry ≡ true). never-stops s.memory (record { pc = y.entry.pc; word = y.entry.word }) m.instr (register_of s m.instr.rs1) (register_of s m.instr.rs2) c (safe-plain y.entry m.instr m.is_row m.not_done m.not_stopping g.stop_when h) stops in
    changed x start w p r m.here z (record { pc = refl; kind = refl; word = refl }) refl (path-younger x start w p r m.here)
    (agrees-halted x r.now.memory s y m.instr c m.is_row stops g)
    (all-from (λ o. InOrder o y) (λ o. InOrder o z) p.older (λ o. order-younger_same o y z refl refl (λ h. h)) (order-older x start w p r m.here))
    (all-from (InOrder y) (InOrder z) p.younger (λ o. order-older_same y z o (λ h. absurd (unsafe h)) refl refl refl refl) (order-younger x start w p r m.here))

-- ---- an answer

pub keeps-answer : (x : Extension) (start : State) (w : World) (p : Spot) → MayAnswer w p → RunsAhead x start w → RunsAhead x start (happens x w (Answers p))
keeps-answer x start w p m r =
    let y = p.item in
    let z = with_entry y (answered y) in
    let unsafe = λ (h : is_safe y.entry ≡ true). not_both (is_safe y.entry) (open-unsafe y.entry m.unanswered) h in
    changed x start w p r m.here z (record { pc = refl; kind = refl; word = refl }) refl (path-younger x start w p r m.here)
    (agrees-answered x r.now.memory (along x r.now p.older) y m.unanswered (agrees-at x start w p r m.here))
    (all-both (λ o. InOrder o y) (λ o. is_open o.entry ≡ false) (λ o. InOrder o z) p.older (λ o k n. record { safe = k.safe; released = k.released; computed = k.computed; answered = λ _. n }) (order-older x start w p r m.here) m.answered)
    (all-both (InOrder y) (λ o. IsSome o.result → o.entry.released ≡ true) (InOrder z) p.younger
    (λ o k q. record { safe = λ h. absurd (unsafe (k.safe h)); released = λ h _. absurd (unsafe (k.safe h)); computed = λ h _. absurd (unsafe (k.safe (q h))); answered = λ _. and_false (is_unknown y.entry) })
    (order-younger x start w p r m.here) (released-younger x start w p r m.here))
  where
    answered : Item → Entry
    answered y = answered_with (response_of (word_hit x y.entry.word)) y.entry

-- ---- a register handshake

pub keeps-send : (x : Extension) (start : State) (w : World) (p : Spot) (lanes : List ℕ) → IsInRange x.params → MaySend x w p lanes → RunsAhead x start w → RunsAhead x start (happens x w (Sends p lanes))
keeps-send x start w p lanes range m r =
    let y = p.item in
    let z : Item = record y { entry = sent_of y.entry; sent = Some lanes } in
    let s = along x r.now p.older in
    let dual = x.params.dual_write in
    let read = λ (lane : ℕ) (half : Half) (t : _). half-value x r.now.memory y.entry.word lane half (m.halves lane half) p.older r.now range r.count (agree-older x start w p r m.here) (ap (λ q. half_behind dual q (entries p.older) y.entry.word lane half) (sym r.registers_are) ∙ m.read lane half t) in
    let carries : CarriesOperands x s y.entry.word lanes = record { halves = m.halves; lanes_are = m.lanes_are; read = read } in
    let same : is_safe z.entry ≡ is_safe y.entry = safe-same y.entry z.entry refl refl refl refl in
    changed x start w p r m.here z (record { pc = refl; kind = refl; word = refl }) refl (path-younger x start w p r m.here)
    (agrees-sent x r.now.memory s y lanes carries (agrees-at x start w p r m.here))
    (all-from (λ o. InOrder o y) (λ o. InOrder o z) p.older (λ o. order-younger_same o y z refl refl (λ h. h)) (order-older x start w p r m.here))
    (all-from (InOrder y) (InOrder z) p.younger (λ o. order-older_same y z o (λ h. same ∙ h) refl refl refl refl) (order-younger x start w p r m.here))

-- ---- a result

unknown-control : (k : EntryKind) → k ≡ Unknown → is_row is_control_row k ≡ false
unknown-control k u = ap (is_row is_control_row) u

leads-next : (e : Entry) → e.predicted ≡ following e.pc → e.next ≡ following e.pc → leads_to e ≡ e.next
leads-next e p n = go e.done
  where
    go : (b : Bool) → (if b then e.next else e.predicted) ≡ e.next
    go true = refl
    go false = p ∙ sym n

pub keeps-finish : (x : Extension) (start : State) (w : World) (p : Spot) (result : ℕ) → MayFinish w p result → RunsAhead x start w → RunsAhead x start (happens x w (Finishes p result))
keeps-finish x start w p result m r =
    let y = p.item in
    let z = with_entry y (finished_with (result_write x y.entry.word result) y.entry) in
    let g = agrees-at x start w p r m.here in
    let u = (accepted-taken x r.now.memory (along x r.now p.older) y (g.released_is (g.result_when (ap is_some m.result_is))) g).0 in
    let same : is_safe z.entry ≡ is_safe y.entry = safe-word y.entry z.entry u refl refl refl in
    let next : leads_to y.entry ≡ y.entry.next = leads-next y.entry (g.predicted_is (unknown-control y.entry.kind u)) (g.next_is (ap is_unknown_kind u)) in
    changed x start w p r m.here z (record { pc = refl; kind = refl; word = refl }) refl (subst (λ n. IsPath n p.younger) next (path-younger x start w p r m.here))
    (agrees-finished x r.now.memory (along x r.now p.older) y result m.result_is g)
    (all-from (λ o. InOrder o y) (λ o. InOrder o z) p.older (λ o. order-younger_same o y z refl refl (λ h. h)) (order-older x start w p r m.here))
    (all-from (InOrder y) (InOrder z) p.younger (λ o. order-older_same y z o (λ h. same ∙ h) refl refl refl refl) (order-younger x start w p r m.here))

-- ---- a cut

pub keeps-drop : (x : Extension) (start : State) (w : World) (kept gone : List Item) → MayDrop w kept gone → RunsAhead x start w → RunsAhead x start (happens x w (Drops kept gone))
keeps-drop x start w kept gone m r =
    let agree : Walked x (Agrees x r.now.memory) r.now (kept ++ gone) = subst (Walked x (Agrees x r.now.memory) r.now) m.here r.agree in
    let when = all-back (λ y. IsSome y.result → y.entry.released ≡ true) kept gone (walked-each x (Agrees x r.now.memory) (λ y. IsSome y.result → y.entry.released ≡ true) (kept ++ gone) r.now (λ t y g. g.result_when) agree) in
    let idle = all-both (λ y. IsSome y.result → y.entry.released ≡ true) (λ y. y.entry.released ≡ false) IsIdle gone (λ y a n. none_unless y.result (λ h. not_both y.entry.released n (a h))) when m.unreleased in
    other-flight x start w kept r
    (path-front kept gone r.now.pc (subst (IsPath r.now.pc) m.here r.path))
    (walked-front x (Agrees x r.now.memory) kept gone r.now agree)
    (pairs-front InOrder kept gone (subst (Pairs InOrder) m.here r.in_order))
    (sym (ap (units_at x r.now) m.here ∙ units_at-front x r.now.memory kept gone r.now agree idle))

-- ---- what an instruction finds here

pub operand-there : (x : Extension) (start : State) (w : World) (p : Spot) (r : RunsAhead x start w) → w.flight ≡ whole p → IsInRange x.params → (register value : ℕ)
    → operand_behind x.params.dual_write w.registers (entries p.older) register ≡ Here value → register_of (along x r.now p.older) register ≡ value
operand-there x start w p r h range register value e =
    operand-value x r.now.memory register value p.older r.now range r.count (agree-older x start w p r h) (ap (λ q. operand_behind x.params.dual_write q (entries p.older) register) (sym r.registers_are) ∙ e)
