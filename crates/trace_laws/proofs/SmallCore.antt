-- Registers, and what entries write to them, are words, and the memory has bytes: each cycle of the
-- core keeps this.
use Rattle.std.proofs.Common.{◌≡◌, ◌<◌, ◌+◌, ◌-◌, ◌++◌, ◌==◌, ◌/◌, ◌^◌, ◌&&◌, not, ℕ, zero, suc, Bool, true, false, if◌then◌else◌, Option, Some, None, List, [], ◌∷◌, map, take, drop, length, slice_index, refl, subst, arith, lit<}
use Rattle.std.specs.Prelude.{find, is_some, IfSome, slice_index_or, slice_set}
use Rattle.std.specs.Option.{option_map_or, option_and_then}
use Rattle.std.specs.Int.{w32, to_le_bytes}
use Rattle.std.proofs.lemmas.Nat.{mod_below}
use Rattle.rv32_table.specs.declared.instr.Instr.{Instr}
use Rattle.rv32_table.specs.Instr.{rd_field, source_field, sources_of, decoded}
use Rattle.xif_image.specs.Region.{Region}
use Rattle.coproc_config.specs.Bits.{low_half, high_half}
use Rattle.inorder_machine.specs.declared.line.Store.{Store}
use Rattle.inorder_machine.specs.declared.line.Stepped.{Stepped}
use Rattle.inorder_machine.specs.declared.line.Stepped.TheVariants.{Retired, Stop}
use Rattle.inorder_machine.specs.declared.line.Write.{Write}
use Rattle.inorder_machine.specs.declared.line.Write.TheVariants as write
use Rattle.inorder_machine.specs.declared.stop.StopCause.{StopCause}
use Rattle.inorder_machine.specs.declared.units.Half.{Half}
use Rattle.inorder_machine.specs.Machine.{register_in, registers_after, memory_after}
use Rattle.inorder_machine.specs.Units.{has_flag, half_register, halves_write, unit_write}
use Rattle.xif_signals.specs.declared.bus.Bus.{Bus}
use Rattle.xif_session.specs.Facts.{is_issued, is_given, is_taken, response_on}
use Rattle.cycle_spec.specs.declared.choices.Choices.{Choices}
use Rattle.cycle_spec.specs.declared.choices.Executed.{Executed}
use Rattle.cycle_spec.specs.declared.choices.Mode.{Mode}
use Rattle.cycle_spec.specs.declared.choices.Mode.TheVariants.{Running, DrainBegins, Draining}
use Rattle.cycle_spec.specs.declared.choices.Presented.{Presented}
use Rattle.cycle_spec.specs.declared.entry.Entry.{Entry}
use Rattle.cycle_spec.specs.declared.entry.EntryKind.{EntryKind}
use Rattle.cycle_spec.specs.declared.entry.EntryKind.TheVariants.{Local, Unknown, Nowhere}
use Rattle.cycle_spec.specs.declared.entry.Operand.TheVariants.{Here, NotYet}
use Rattle.cycle_spec.specs.declared.log.Cut.{Cut}
use Rattle.cycle_spec.specs.Flight.{has_seq, older_than, may_write, youngest_writer, value_in, operand_from, operand_behind, operand_at, value_or_zero, source_behind, may_execute, ready_behind, ready_oldest, youngest_released, holds_id, with_response, with_sent, with_release, with_result, with_outcome}
use Rattle.cycle_spec.specs.State.{Core}
use Rattle.cycle_spec.specs.Choices.{stop_at, retirement, source_value, executed_kind, executed_entry, execution, store_cut, is_late, has_half, half_value, half_of, choices_by, choices_in, choices, stay_with}
use Rattle.cycle_spec.specs.Core.{response_on_offer, sent_on_present, release_step, cut_step, drain_step, result_for, execute_step, retire_step, answered_entries, sent_entries, released_entries, kept_entries, finished_entries, executed_entries, settled_entries, registers_behind, memory_behind, with_dispatch, next_entry, core_after}
use Rattle.cycle_lists.specs.Lists.{Each}
use Rattle.cycle_lists.proofs.Every.{Each-from, Each-map, Each-append, Each-push, Each-take, Each-drop, Each-at}
use Rattle.cycle_lists.proofs.Places.{last-found}
use Rattle.trace_laws.proofs.Paths.{Fit}
use Rattle.trace_laws.proofs.Views.{Each-older}
use Rattle.width_laws.proofs.Memories.{IsByte}
use Rattle.width_laws.proofs.Rows.{AreWritten, IsOutcome, HasImmediate, decoded-immediate, executed-words}
use Rattle.width_laws.proofs.Operands.{IsWord}

abbrev pub WordEntry : Entry → Type 0
WordEntry e = AreWritten e.write

pub record SmallCore (w : Core) : Type 0 where
  pub registers : Each IsWord w.registers
  pub bytes : Each IsByte w.memory.bytes
  pub writes : Each WordEntry w.flight

-- ---- lists

pub Each-or : {A : Type 0} (P : A → Type 0) (xs : List A) (i : ℕ) (d : A) → P d → Each P xs → P (slice_index_or xs i d)
Each-or P [] i d p h = p
Each-or P (x ∷ xs) zero d p h = h.0
Each-or P (x ∷ xs) (suc i) d p h = Each-or P xs i d p h.1

pub Each-set : {A : Type 0} (P : A → Type 0) (xs : List A) (i : ℕ) (a : A) → P a → Each P xs → Each P (slice_set xs i a)
Each-set P [] i a p h = tt
Each-set P (x ∷ xs) zero a p h = (p, h.1)
Each-set P (x ∷ xs) (suc i) a p h = (h.0, Each-set P xs i a p h.1)

-- ---- what a register shows

zero-small : IsWord 0
zero-small = lit< tt

register-small : (registers : List ℕ) (r : ℕ) → Each IsWord registers → IsWord (register_in registers r)
register-small registers r h = go (r == 0)
  where
    go : (t : Bool) → IsWord (if t then 0 else slice_index registers r)
    go true = zero-small
    go false = Each-or IsWord registers r 0 zero-small h

value-small : (w : Write) (r : ℕ) → AreWritten w → IsWord (value_in w r)
value-small write.None r h = zero-small
value-small (write.One rd v) r h = h
value-small (write.Pair rd low high) r h = go (r == rd)
  where
    go : (t : Bool) → IsWord (if t then low else high)
    go true = h.0
    go false = h.1

operand-small : (dual : Bool) (registers : List ℕ) (es : List Entry) (r : ℕ) → Each IsWord registers → Each WordEntry es → IsWord (value_or_zero (operand_behind dual registers es r))
operand-small dual registers es r h k = go (youngest_writer dual es r) refl
  where
    by : (e : Entry) (d : Bool) → WordEntry e → IsWord (value_or_zero (if d then Here (value_in e.write r) else NotYet))
    by e true w = value-small e.write r w
    by e false w = zero-small

    go : (o : Option Entry) → youngest_writer dual es r ≡ o → IsWord (value_or_zero (operand_from registers o r))
    go None q = register-small registers r h
    go (Some e) q = let l = last-found (may_write dual r) es e q in by e e.done (Each-at WordEntry es l.older e l.younger l.here k)

source-small : (dual : Bool) (registers : List ℕ) (es : List Entry) (o : Option ℕ) → Each IsWord registers → Each WordEntry es → IsWord (value_or_zero (source_behind dual registers es o))
source-small dual registers es None h k = zero-small
source-small dual registers es (Some r) h k = operand-small dual registers es r h k

-- what a half of a lane presents
pub half-small : (w : Core) (e : Entry) → SmallCore w → (lane : ℕ) (half : Half) → IsWord (value_or_zero (half_of w e lane half))
half-small w e s lane half = go (has_half w.params e.word lane half && not (is_late w e && not (lane == 0)))
  where
    by : (o : Option ℕ) → IsWord (value_or_zero (option_map_or (operand_at w.params.dual_write w.registers w.flight e.seq) o (Here 0)))
    by None = zero-small
    by (Some r) = operand-small w.params.dual_write w.registers (older_than e.seq w.flight) r s.registers (Each-older WordEntry e.seq w.flight s.writes)

    go : (t : Bool) → IsWord (value_or_zero (if t then half_value w e lane half else NotYet))
    go true = by (half_register (source_field e.word lane) half)
    go false = zero-small

-- ---- what executes

ready-each : (P : Entry → Type 0) (dual : Bool) (registers : List ℕ) (older es : List Entry) → Each P es → IfSome (ready_behind dual registers older es) P
ready-each P dual registers older [] h = tt
ready-each P dual registers older (e ∷ es) h = go (may_execute dual registers older e) (ready-each P dual registers (older ++ e ∷ []) es h.1)
  where
    go : (t : Bool) → IfSome (ready_behind dual registers (older ++ e ∷ []) es) P → IfSome (if t then Some e else ready_behind dual registers (older ++ e ∷ []) es) P
    go true k = h.0
    go false k = k

abbrev Decoded : Entry → Type 0
Decoded e = (i : Instr) → e.kind ≡ Local i → decoded e.word ≡ Some i

abbrev WordExecuted : Executed → Type 0
WordExecuted x = IsOutcome x.outcome

execution-word : (w : Core) (es : List Entry) → SmallCore w → Each Decoded es → IfSome (execution w es) WordExecuted
execution-word w es s d = go (ready_oldest w.params.dual_write w.registers es) (ready-each Decoded w.params.dual_write w.registers [] es d)
  where
    source : (e : Entry) (o : Option ℕ) → IsWord (source_value w e o)
    source e o = source-small w.params.dual_write w.registers (older_than e.seq w.flight) o s.registers (Each-older WordEntry e.seq w.flight s.writes)

    by : (e : Entry) (k : EntryKind) → e.kind ≡ k → Decoded e → IfSome (executed_kind w e k) WordExecuted
    by e (Local i) q f = executed-words w.memory (record { pc = e.pc; word = e.word }) i (source_value w e (sources_of i).0) (source_value w e (sources_of i).1) s.bytes (subst HasImmediate (f i q) (decoded-immediate e.word)) (source e (sources_of i).0) (source e (sources_of i).1)
    by e Unknown q f = tt
    by e Nowhere q f = tt

    go : (o : Option Entry) → IfSome o Decoded → IfSome (option_and_then (executed_entry w) o) WordExecuted
    go None f = tt
    go (Some e) f = by e e.kind refl f

executes : (w : Core) → SmallCore w → Each Decoded w.flight → IfSome (choices w).execute WordExecuted
executes w s d = go w.mode
  where
    unless : (t : Bool) → IfSome (if t then None else execution w w.flight) WordExecuted
    unless true = tt
    unless false = execution-word w w.flight s d

    by : (o : Option StopCause) → IfSome (choices_by w o).execute WordExecuted
    by None = unless (is_some (store_cut (retirement w.flight) (drop 1 w.flight)))
    by (Some cause) = tt

    draining : (n : ℕ) → IfSome (execution w (take n w.flight)) WordExecuted
    draining n = execution-word w (take n w.flight) s (Each-take Decoded n w.flight d)

    go : (mode : Mode) → IfSome (choices_in w mode).execute WordExecuted
    go Running = by (stop_at w.flight)
    go DrainBegins = draining (stay_with (youngest_released w.flight) w.flight)
    go Draining = draining (length w.flight)

retires : (P : Entry → Type 0) (w : Core) → Each P w.flight → IfSome (choices w).retire P
retires P w h = go w.mode
  where
    first : (es : List Entry) → Each P es → IfSome (retirement es) P
    first [] k = tt
    first (e ∷ es) k = one e.done
      where
        one : (t : Bool) → IfSome (if t then Some e else None) P
        one true = k.0
        one false = tt

    by : (o : Option StopCause) → IfSome (choices_by w o).retire P
    by None = first w.flight h
    by (Some cause) = tt

    draining : (n : ℕ) → IfSome (retirement (take n w.flight)) P
    draining n = first (take n w.flight) (Each-take P n w.flight h)

    go : (mode : Mode) → IfSome (choices_in w mode).retire P
    go Running = by (stop_at w.flight)
    go DrainBegins = draining (stay_with (youngest_released w.flight) w.flight)
    go Draining = draining (length w.flight)

-- ---- a result

abbrev pub IsWide : ℕ → Type 0
IsWide n = n < 2 ^ 64

-- where its high half is written, it has 64 bits
abbrev pub HighSmall : (flags value : ℕ) → Type 0
HighSmall flags value = has_flag flags 1 ≡ true → IsWide value

unit_write-word : (rd flags value : ℕ) → HighSmall flags value → AreWritten (unit_write rd flags value)
unit_write-word rd flags value h = go (rd == 0) (has_flag flags 0) (has_flag flags 1) h
  where
    low : IsWord (low_half value)
    low = omega arith

    high : value < 2 ^ 64 → IsWord (high_half value)
    high k = omega (arith, k)

    go : (z a b : Bool) → (b ≡ true → value < 2 ^ 64) → AreWritten (if z then write.None else halves_write a b rd value)
    go true a b k = tt
    go false false false k = tt
    go false true false k = low
    go false false true k = high (k refl)
    go false true true k = (low, high (k refl))

-- ---- the steps

chosen-word : (t : Bool) (a b : Write) → AreWritten a → AreWritten b → AreWritten (if t then a else b)
chosen-word true a b h k = h
chosen-word false a b h k = k

module _ (ch : Choices) (b : Bus) (wide : HighSmall b.result_we b.result_data) (ex : IfSome ch.execute WordExecuted) where
  mapped : (f : Entry → Entry) (es : List Entry) → ((x : Entry) → WordEntry x → WordEntry (f x)) → Each WordEntry es → Each WordEntry (map f es)
  mapped f es k h = Each-map WordEntry WordEntry f es k h

  answered : (t : Bool) (o : Option Entry) (es : List Entry) → Each WordEntry es → Each WordEntry (if t then response_on_offer o b es else es)
  answered false o es h = h
  answered true None es h = h
  answered true (Some e) es h = mapped (with_response e.seq (response_on b)) es (λ x k. k) h

  sent : (t : Bool) (o : Option Presented) (es : List Entry) → Each WordEntry es → Each WordEntry (if t then sent_on_present o es else es)
  sent false o es h = h
  sent true None es h = h
  sent true (Some x) es h = mapped (with_sent x.entry.seq) es (λ x k. k) h

  released : (o : Option Entry) (es : List Entry) → Each WordEntry es → Each WordEntry (release_step o es)
  released None es h = h
  released (Some e) es h = mapped (with_release e.seq) es (λ x k. k) h

  cut : (o : Option Cut) (es : List Entry) → Each WordEntry es → Each WordEntry (cut_step o es)
  cut None es h = h
  cut (Some c) es h = Each-take WordEntry c.keep es h

  drained : (o : Option ℕ) (es : List Entry) → Each WordEntry es → Each WordEntry (drain_step o es)
  drained None es h = h
  drained (Some n) es h = Each-take WordEntry n es h

  finished : (t : Bool) (o : Option Entry) (es : List Entry) → Each WordEntry es → Each WordEntry (if t then result_for o b es else es)
  finished false o es h = h
  finished true None es h = h
  finished true (Some e) es h =
      let written = unit_write (rd_field e.word) b.result_we b.result_data in
      mapped (with_result e.seq written) es (λ x k. chosen-word (has_seq e.seq x) written x.write (unit_write-word (rd_field e.word) b.result_we b.result_data wide) k) h

  executed : (o : Option Executed) (es : List Entry) → IfSome o WordExecuted → Each WordEntry es → Each WordEntry (execute_step o es)
  executed None es x h = h
  executed (Some y) es x h = go y.outcome x
    where
      go : (o : Stepped) → IsOutcome o → Each WordEntry (map (with_outcome y.entry.seq o) es)
      go (Retired line) z = mapped (with_outcome y.entry.seq (Retired line)) es (λ x k. chosen-word (has_seq y.entry.seq x) line.write x.write z k) h
      go (Stop cause) z = mapped (with_outcome y.entry.seq (Stop cause)) es (λ x k. k) h

  retired : (o : Option Entry) (es : List Entry) → Each WordEntry es → Each WordEntry (retire_step o es)
  retired None es h = h
  retired (Some e) es h = Each-drop WordEntry 1 es h

  settled : (es : List Entry) → Each WordEntry es → Each WordEntry (settled_entries ch b es)
  settled es h =
      retired ch.retire (executed_entries ch b es) (executed ch.execute (finished_entries ch b es) ex
      (finished (is_taken b) (find (holds_id b.result_id) (kept_entries ch b es)) (kept_entries ch b es)
      (drained ch.drain (cut_step ch.cut (released_entries ch b es)) (cut ch.cut (released_entries ch b es)
      (released ch.release (sent_entries ch b es) (sent (is_given b) ch.present (answered_entries ch b es)
      (answered (is_issued b) ch.offer es h)))))))

-- ---- retirement

written-registers : (registers : List ℕ) (w : Write) → Each IsWord registers → AreWritten w → Each IsWord (registers_after registers w)
written-registers registers write.None h k = h
written-registers registers (write.One rd v) h k = Each-set IsWord registers rd v k h
written-registers registers (write.Pair rd low high) h k = Each-set IsWord (slice_set registers rd low) (rd + 1) high k.1 (Each-set IsWord registers rd low k.0 h)

number-bytes : (value : ℕ) → Each IsByte (to_le_bytes w32 value)
number-bytes value = (mod_below value 256 (lit< tt), (mod_below (value / 256) 256 (lit< tt), (mod_below (value / 65536) 256 (lit< tt), (mod_below (value / 16777216) 256 (lit< tt), tt))))

stored-bytes : (m : Region) (o : Option Store) → Each IsByte m.bytes → Each IsByte (memory_after m o).bytes
stored-bytes m None h = h
stored-bytes m (Some s) h =
    let others = take s.width (to_le_bytes w32 s.value) in
    let at = s.addr - m.base in
    Each-append IsByte (take at m.bytes ++ others) (drop (at + length others) m.bytes)
    (Each-append IsByte (take at m.bytes) others (Each-take IsByte at m.bytes h) (Each-take IsByte s.width (to_le_bytes w32 s.value) (number-bytes s.value)))
    (Each-drop IsByte (at + length others) m.bytes h)

-- ---- a cycle

pub core-small : (answer : (pc word : ℕ) → ℕ) (w : Core) (b : Bus) (dual : Bool) → HighSmall b.result_we b.result_data → Each (Fit dual) w.flight → SmallCore w → SmallCore (core_after answer w (choices w) b)
core-small answer w b dual wide fit s = record {
  registers = registers (choices w).retire (retires WordEntry w s.writes);
  bytes = bytes (choices w).retire;
  writes = dispatched (choices w).dispatch;
}
  where
    registers : (o : Option Entry) → IfSome o WordEntry → Each IsWord (registers_behind o w.registers)
    registers None h = s.registers
    registers (Some e) h = written-registers w.registers e.write s.registers h

    bytes : (o : Option Entry) → Each IsByte (memory_behind o w.memory).bytes
    bytes None = s.bytes
    bytes (Some e) = stored-bytes w.memory e.store s.bytes

    stay : Each WordEntry (settled_entries (choices w) b w.flight)
    stay = settled (choices w) b wide (executes w s (Each-from (Fit dual) Decoded w.flight (λ e f. f.row) fit)) w.flight s.writes

    dispatched : (t : Bool) → Each WordEntry (with_dispatch (if t then Some (next_entry answer w (choices w)) else None) (settled_entries (choices w) b w.flight))
    dispatched false = stay
    dispatched true = Each-push WordEntry (settled_entries (choices w) b w.flight) (next_entry answer w (choices w)) stay tt
