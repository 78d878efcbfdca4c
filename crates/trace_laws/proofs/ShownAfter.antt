-- After a cycle of the core, beside any coprocessor, the register transaction that waits shows no
-- less.
use Rattle.std.proofs.Common.{◌≡◌, ◌<◌, ◌+◌, ◌++◌, ◌==◌, ◌&&◌, not, ℕ, Bool, true, false, if◌then◌else◌, Option, Some, None, List, [], ◌∷◌, length, refl, sym, ap, ◌∙◌, subst, arith}
use Rattle.std.specs.Option.{option_map_or}
use Rattle.std.proofs.lemmas.Bool.{eq-eqb}
use Rattle.rv32_table.specs.Instr.{source_field}
use Rattle.xif_drive.specs.Scripts.{delay_of}
use Rattle.inorder_machine.specs.Units.{half_register}
use Rattle.xif_signals.specs.declared.bus.Bus.{Bus}
use Rattle.xif_signals.specs.declared.bus.CopOut.{CopOut}
use Rattle.xif_session.specs.Facts.{Past, past_after, register_waits}
use Rattle.xif_session.proofs.Options.{both-true, not_in, le_in, le_out}
use Rattle.cycle_spec.specs.declared.choices.Choices.{Choices}
use Rattle.cycle_spec.specs.declared.choices.Presented.{Presented}
use Rattle.cycle_spec.specs.declared.entry.Entry.{Entry}
use Rattle.cycle_spec.specs.declared.entry.EntryKind.{EntryKind}
use Rattle.cycle_spec.specs.declared.entry.Operand.{Operand}
use Rattle.cycle_spec.specs.declared.entry.Operand.TheVariants.{Here, NotYet}
use Rattle.cycle_spec.specs.declared.turn.Transactions.{Transactions}
use Rattle.cycle_spec.specs.Flight.{is_unknown, is_unknown_kind, has_seq, operand_at, free_id}
use Rattle.cycle_spec.specs.Turns.{turn_of, is_past, transactions_after, aged}
use Rattle.cycle_spec.specs.State.{Core}
use Rattle.cycle_spec.specs.Choices.{choices, is_late, has_half, half_value}
use Rattle.cycle_spec.specs.Core.{present_owner, presented_id, registers_behind, settled_entries, with_dispatch, next_entry, core_after}
use Rattle.cycle_spec.specs.Cycle.{Machines}
use Rattle.cycle_lists.specs.Lists.{Each, Pairs}
use Rattle.cycle_lists.specs.Order.{Before, IsFree}
use Rattle.cycle_lists.proofs.Tests.{or-left, or-right}
use Rattle.cycle_lists.proofs.Every.{Each-from, Each-both, Each-at, Each-push, Each-append, Pairs-older, Pairs-younger}
use Rattle.cycle_paired.specs.Paired.{Paired}
use Rattle.cycle_paired.proofs.Facts.{only}
use Rattle.cycle_paired.proofs.Fixed.{Fixed, fixed-settled}
use Rattle.ahead_laws.proofs.Writes.{count-after}
use Rattle.trace_laws.specs.Driven.{bus_with, seen_with}
use Rattle.trace_laws.proofs.CoreChosen.{Chosen}
use Rattle.trace_laws.proofs.CoreRules.{some_case}
use Rattle.trace_laws.proofs.Shown.{Grows, Shown, Operands, PresentedAt, presented_at, shown-flags, shown-lanes}
use Rattle.trace_laws.proofs.SmallCore.{SmallCore, half-small}
use Rattle.trace_laws.proofs.Stable.{Known, fitted, cycled}
use Rattle.trace_laws.proofs.Views.{has, Stays}
use Rattle.trace_laws.proofs.Words.{Worded, words}

-- once past its delay, a transaction that waits stays past it
late-stays : (delays : List ℕ) (ts : Transactions) (s seq : ℕ) → seq ≡ s → is_past delays (turn_of ts s) ≡ true → is_past delays (turn_of (transactions_after ts (Some s) false) seq) ≡ true
late-stays delays ts s seq q h =
    ap (λ t. is_past delays (if t then aged (turn_of ts s) else record { number = (transactions_after ts (Some s) false).begun; age = 0 })) (eq-eqb s seq (sym q))
    ∙ le_out (delay_of delays (turn_of ts s).number) ((turn_of ts s).age + 1) (let l = le_in (delay_of delays (turn_of ts s).number) (turn_of ts s).age h in omega arith)

members : (s : ℕ) (es : List Entry) → Each (λ y. y.seq ≡ s → has s es ≡ true) es
members s [] = tt
members s (x ∷ xs) =
    (λ q. or-left (has_seq s x) (has s xs) (eq-eqb x.seq s q), Each-from (λ y. y.seq ≡ s → has s xs ≡ true) (λ y. y.seq ≡ s → has s (x ∷ xs) ≡ true) xs (λ y k q. or-right (has_seq s x) (has s xs) (k q)) (members s xs))

-- the entry of an id
abbrev Identified : (seq id : ℕ) → ℕ → EntryKind → ℕ → Type 0
Identified s i seq kind id = is_unknown_kind kind ≡ true → id ≡ i → seq ≡ s

half-there : (t : Bool) (o : Operand) (v : ℕ) → (if t then o else NotYet) ≡ Here v → (t ≡ true) × (o ≡ Here v)
half-there true o v h = (refl, h)
half-there false o v h = cc

half-joined : (t : Bool) (o : Operand) (v : ℕ) → t ≡ true → o ≡ Here v → (if t then o else NotYet) ≡ Here v
half-joined true o v h k = k
half-joined false o v h k = cc

and-not : (a b b' c : Bool) → (a && not (b && c)) ≡ true → (b ≡ false → b' ≡ false) → (a && not (b' && c)) ≡ true
and-not true false b' c h k = ap (λ x. not (x && c)) (k refl)
and-not true true b' true h k = cc
and-not true true true false h k = refl
and-not true true false false h k = refl
and-not false b b' c h k = cc

module _ (hart : ℕ) (m : Machines) (p : Past) (cop : CopOut) (k : Paired hart m) (c : Chosen m.core.params.split m.core.flight (choices m.core)) (answer : (pc word : ℕ) → ℕ) (kn : Known m.core (choices m.core) (seen_with m.core cop)) (values : SmallCore m.core) where
  abbrev bus : Bus
  bus = bus_with hart m.core cop

  abbrev seen : Bus
  seen = seen_with m.core cop

  abbrev ch : Choices
  ch = choices m.core

  abbrev w : Core
  w = m.core

  abbrev after : Core
  after = core_after answer m.core (choices m.core) seen

  abbrev settled : List Entry
  settled = settled_entries (choices m.core) seen m.core.flight

  count : length after.registers ≡ 32
  count = go ch.retire
    where
      go : (o : Option Entry) → length (registers_behind o w.registers) ≡ 32
      go None = kn.count
      go (Some e) = count-after w.registers e.write ∙ kn.count

  identified : (x : Presented) → PresentedAt w x → Each (Fixed (Identified x.entry.seq x.entry.id)) after.flight
  identified x at = dispatched ch.dispatch
    where
      order : Pairs Before (at.older ++ x.entry ∷ at.younger)
      order = subst (Pairs Before) at.here k.order.pairs

      start : Each (Fixed (Identified x.entry.seq x.entry.id)) w.flight
      start =
          subst (Each (Fixed (Identified x.entry.seq x.entry.id))) (sym at.here)
          (Each-append (Fixed (Identified x.entry.seq x.entry.id)) at.older (x.entry ∷ at.younger)
          (Each-from (λ z. Before z x.entry) (Fixed (Identified x.entry.seq x.entry.id)) at.older (λ z b u i. absurd (b.apart u at.unknown i)) (Pairs-older Before at.older x.entry at.younger order))
          (λ u i. refl, Each-from (Before x.entry) (Fixed (Identified x.entry.seq x.entry.id)) at.younger (λ z b u i. absurd (b.apart at.unknown u (sym i))) (Pairs-younger Before at.older x.entry at.younger order)))

      rest : Each (Fixed (Identified x.entry.seq x.entry.id)) settled
      rest = fixed-settled (Identified x.entry.seq x.entry.id) ch seen w.flight start

      free : IsFree (free_id w.flight) x.entry
      free = Each-at (IsFree (free_id w.flight)) w.flight at.older x.entry at.younger at.here kn.kept.free

      new-id : (kind : EntryKind) → is_unknown_kind kind ≡ true → (if is_unknown_kind kind then free_id w.flight else 0) ≡ x.entry.id → ⊥
      new-id kind u i = free.other at.unknown (sym i ∙ ap (λ t. if t then free_id w.flight else 0) u)

      dispatched : (t : Bool) → Each (Fixed (Identified x.entry.seq x.entry.id)) (with_dispatch (if t then Some (next_entry answer w ch) else None) settled)
      dispatched false = rest
      dispatched true = Each-push (Fixed (Identified x.entry.seq x.entry.id)) settled (next_entry answer w ch) rest (λ u i. absurd (new-id (next_entry answer w ch).kind u i))

  worded : (x : Presented) → PresentedAt w x → x.entry.seq < w.next_seq → Each (Worded x.entry.seq x.entry.word) after.flight
  worded x at below = dispatched ch.dispatch
    where
      start : Each (Worded x.entry.seq x.entry.word) w.flight
      start =
          subst (Each (Worded x.entry.seq x.entry.word)) (sym at.here)
          (Each-from (λ z. z.seq ≡ x.entry.seq → z ≡ x.entry) (Worded x.entry.seq x.entry.word) (at.older ++ x.entry ∷ at.younger) (λ z s q. ap (λ y. y.word) (s q)) (only at.older x.entry at.younger (subst (Pairs Before) at.here k.order.pairs)))

      rest : Each (Worded x.entry.seq x.entry.word) settled
      rest = words x.entry.seq x.entry.word ch seen w.flight start

      dispatched : (t : Bool) → Each (Worded x.entry.seq x.entry.word) (with_dispatch (if t then Some (next_entry answer w ch) else None) settled)
      dispatched false = rest
      dispatched true = Each-push (Worded x.entry.seq x.entry.word) settled (next_entry answer w ch) rest (λ q. absurd (omega (arith, below, q)))

  -- the entry in the next cycle
  grows : (x : Presented) → ch.present ≡ Some x → bus.register_ready ≡ false → Stays w.params.dual_write x.entry.seq w.registers w.flight after.registers after.flight → (y : Entry) → y.seq ≡ x.entry.seq → y.word ≡ x.entry.word → has x.entry.seq after.flight ≡ true → Grows w x.entry after y
  grows x pr ready st y seq word there lane half v h =
      let e = x.entry in
      let parts = half-there (has_half w.params e.word lane half && not (is_late w e && not (lane == 0))) (half_value w e lane half) v h in
      let test : (has_half w.params y.word lane half && not (is_late after y && not (lane == 0))) ≡ true = ap (λ z. has_half w.params z lane half && not (is_late after y && not (lane == 0))) word ∙ and-not (has_half w.params e.word lane half) (is_late w e) (is_late after y) (not (lane == 0)) parts.0 late in
      half-joined (has_half w.params y.word lane half && not (is_late after y && not (lane == 0))) (half_value after y lane half) v test
      (ap (λ n. option_map_or (operand_at w.params.dual_write after.registers after.flight y.seq) (half_register (source_field n lane) half) (Here 0)) word
      ∙ ap (λ n. option_map_or (operand_at w.params.dual_write after.registers after.flight n) (half_register (source_field e.word lane) half) (Here 0)) seq
      ∙ value (half_register (source_field e.word lane) half) parts.1)
    where
      value : (o : Option ℕ) → option_map_or (operand_at w.params.dual_write w.registers w.flight x.entry.seq) o (Here 0) ≡ Here v → option_map_or (operand_at w.params.dual_write after.registers after.flight x.entry.seq) o (Here 0) ≡ Here v
      value None h = h
      value (Some r) h = st.view there r v h

      late : is_late w x.entry ≡ false → is_late after y ≡ false
      late q =
          let past : is_past w.script.operand (turn_of w.register_turns x.entry.seq) ≡ true = unnot (is_past w.script.operand (turn_of w.register_turns x.entry.seq)) q in
          ap not (ap (λ o. is_past w.script.operand (turn_of (transactions_after w.register_turns (present_owner o) bus.register_ready) y.seq)) pr
          ∙ ap (λ t. is_past w.script.operand (turn_of (transactions_after w.register_turns (Some x.entry.seq) t) y.seq)) ready
          ∙ late-stays w.script.operand w.register_turns x.entry.seq y.seq seq past)
        where
          unnot : (b : Bool) → not b ≡ false → b ≡ true
          unnot true h = refl
          unnot false h = cc

  shown : register_waits bus ≡ true → Shown after bus
  shown h =
      let both = both-true bus.register_valid _ h in
      some_case ch.present (Shown after bus) both.0 (λ x pr.
      let at = presented_at hart m p k c x pr in
      let below : x.entry.seq < w.next_seq = Each-at (λ e. e.seq < w.next_seq) w.flight at.older x.entry at.younger at.here kn.kept.below in
      let st = (cycled w ch seen x.entry.seq kn answer below).stays in
      let id : bus.register_id ≡ x.entry.id = ap presented_id pr in
      record {
        before = w;
        entry = x.entry;
        params_are = refl;
        flags = shown-flags hart m p k c x pr;
        lanes = shown-lanes hart m p k c x pr;
        small = half-small w x.entry values;
        stays = Each-both (λ y. Fixed (Identified x.entry.seq x.entry.id) y × Worded x.entry.seq x.entry.word y) (λ y. y.seq ≡ x.entry.seq → has x.entry.seq after.flight ≡ true)
            (λ y. is_unknown y ≡ true → y.id ≡ bus.register_id → Grows w x.entry after y) after.flight
            (λ y a b u i. let s = a.0 u (i ∙ id) in grows x pr (not_in bus.register_ready both.1) st y s (a.1 s) (b s))
            (Each-both (Fixed (Identified x.entry.seq x.entry.id)) (Worded x.entry.seq x.entry.word) (λ y. Fixed (Identified x.entry.seq x.entry.id) y × Worded x.entry.seq x.entry.word y) after.flight (λ y a b. (a, b)) (identified x at) (worded x at below))
            (members x.entry.seq after.flight);
      })

  pub operands_after : Operands after (past_after p bus)
  operands_after = record { fit = fitted w ch seen 0 kn answer; count = count; shown = shown }
