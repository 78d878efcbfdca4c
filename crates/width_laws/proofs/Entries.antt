-- A cycle keeps the numbers of a core within what they fit.
use Rattle.std.proofs.Common.{◌≡◌, ◌<◌, ◌^◌, ◌==◌, ℕ, Bool, true, false, if◌then◌else◌, List, map, Option, Some, None, IfSome, refl, arith}
use Rattle.std.specs.Prelude.{find}
use Rattle.std.proofs.lemmas.Nat.{pow_pos}
use Rattle.rv32_table.specs.declared.instr.Instr.{Instr}
use Rattle.rv32_table.specs.Instr.{decoded, rd_field}
use Rattle.xif_image.specs.Region.{Region, word_at}
use Rattle.inorder_machine.specs.declared.line.Stepped.{Stepped}
use Rattle.inorder_machine.specs.declared.line.Stepped.TheVariants.{Retired, Stop}
use Rattle.inorder_machine.specs.declared.line.Write.{Write}
use Rattle.inorder_machine.specs.declared.line.Write.TheVariants as write
use Rattle.inorder_machine.specs.Machine.{registers_after}
use Rattle.inorder_machine.specs.Units.{unit_write, halves_write, has_flag}
use Rattle.xif_signals.specs.declared.bus.Bus.{Bus}
use Rattle.xif_session.specs.Facts.{is_issued, is_given, is_taken, response_on}
use Rattle.cycle_spec.specs.declared.choices.Choices.{Choices}
use Rattle.cycle_spec.specs.declared.choices.Executed.{Executed}
use Rattle.cycle_spec.specs.declared.choices.Presented.{Presented}
use Rattle.cycle_spec.specs.declared.entry.Entry.{Entry}
use Rattle.cycle_spec.specs.declared.log.Cut.{Cut}
use Rattle.cycle_spec.specs.Flight.{has_seq, holds_id, is_unknown_kind, with_response, with_sent, with_release, with_result, with_outcome, kind_by, kind_at, free_id}
use Rattle.cycle_spec.specs.State.{Core}
use Rattle.cycle_spec.specs.Choices.{choices}
use Rattle.cycle_spec.specs.Core.{response_on_offer, sent_on_present, release_step, cut_step, drain_step, result_for, execute_step, retire_step, answered_entries, sent_entries, released_entries, kept_entries, finished_entries, executed_entries, settled_entries, registers_behind, memory_behind, ahead_behind, entry_at, with_dispatch, core_clock, drain_begun}
use Rattle.cycle_lists.specs.Lists.{Each}
use Rattle.cycle_lists.proofs.Every.{Each-map, Each-take, Each-drop, Each-push}
use Rattle.cycle_lists.proofs.Free.{free_below}
use Rattle.width_laws.proofs.Bounds.{word-low, word-high}
use Rattle.width_laws.proofs.Memories.{IsByte, word-in, memory-bytes}
use Rattle.width_laws.proofs.Rows.{AreWritten, IsOutcome, HasImmediate, decoded-immediate}
use Rattle.width_laws.proofs.Table.{Each-written}
use Rattle.width_laws.proofs.Operands.{IsWord, FitsKind, FitsEntry, FitsCore}
use Rattle.width_laws.proofs.Chosen.{AreChosen, chosen}

-- ---- the write of a result

halves-fit : (low high : Bool) (rd value : ℕ) → value < 2 ^ 64 → AreWritten (halves_write low high rd value)
halves-fit false false rd value h = tt
halves-fit true false rd value h = word-low value
halves-fit false true rd value h = word-high value h
halves-fit true true rd value h = (word-low value, word-high value h)

unit-fits : (rd flags value : ℕ) → value < 2 ^ 64 → AreWritten (unit_write rd flags value)
unit-fits rd flags value h = go (rd == 0)
  where
    go : (t : Bool) → AreWritten (if t then write.None else halves_write (has_flag flags 0) (has_flag flags 1) rd value)
    go true = tt
    go false = halves-fit (has_flag flags 0) (has_flag flags 1) rd value h

-- ---- the steps on the entries

module _ (n : ℕ) where
  abbrev P : Entry → Type 0
  P = FitsEntry n

  written : (t : Bool) (a b : Write) → AreWritten a → AreWritten b → AreWritten (if t then a else b)
  written true a b h k = h
  written false a b h k = k

  answered : (t : Bool) (o : Option Entry) (b : Bus) (es : List Entry) → Each P es → Each P (if t then response_on_offer o b es else es)
  answered false o b es h = h
  answered true None b es h = h
  answered true (Some e) b es h = Each-map P P (with_response e.seq (response_on b)) es (λ x k. record { id = k.id; word = k.word; kind = k.kind; write = k.write }) h

  sent : (t : Bool) (o : Option Presented) (es : List Entry) → Each P es → Each P (if t then sent_on_present o es else es)
  sent false o es h = h
  sent true None es h = h
  sent true (Some x) es h = Each-map P P (with_sent x.entry.seq) es (λ x k. record { id = k.id; word = k.word; kind = k.kind; write = k.write }) h

  released : (o : Option Entry) (es : List Entry) → Each P es → Each P (release_step o es)
  released None es h = h
  released (Some e) es h = Each-map P P (with_release e.seq) es (λ x k. record { id = k.id; word = k.word; kind = k.kind; write = k.write }) h

  cut : (o : Option Cut) (es : List Entry) → Each P es → Each P (cut_step o es)
  cut None es h = h
  cut (Some c) es h = Each-take P c.keep es h

  drained : (o : Option ℕ) (es : List Entry) → Each P es → Each P (drain_step o es)
  drained None es h = h
  drained (Some stay) es h = Each-take P stay es h

  finished : (t : Bool) (o : Option Entry) (b : Bus) (es : List Entry) → b.result_data < 2 ^ 64 → Each P es → Each P (if t then result_for o b es else es)
  finished false o b es d h = h
  finished true None b es d h = h
  finished true (Some e) b es d h =
      let w = unit_write (rd_field e.word) b.result_we b.result_data in
      Each-map P P (with_result e.seq w) es (λ x k. record {
        id = k.id;
        word = k.word;
        kind = k.kind;
        write = written (has_seq e.seq x) w x.write (unit-fits (rd_field e.word) b.result_we b.result_data d) k.write;
      }) h

  executed : (o : Option Executed) (es : List Entry) → IfSome o (λ x. IsOutcome x.outcome) → Each P es → Each P (execute_step o es)
  executed None es w h = h
  executed (Some x) es w h = go x.outcome w
    where
      go : (o : Stepped) → IsOutcome o → Each P (map (with_outcome x.entry.seq o) es)
      go (Retired line) w = Each-map P P (with_outcome x.entry.seq (Retired line)) es (λ y k. record {
        id = k.id;
        word = k.word;
        kind = k.kind;
        write = written (has_seq x.entry.seq y) line.write y.write w k.write;
      }) h
      go (Stop cause) w = Each-map P P (with_outcome x.entry.seq (Stop cause)) es (λ y k. record { id = k.id; word = k.word; kind = k.kind; write = k.write }) h

  retired : (o : Option Entry) (es : List Entry) → Each P es → Each P (retire_step o es)
  retired None es h = h
  retired (Some e) es h = Each-drop P 1 es h

  settled : (ch : Choices) (b : Bus) (es : List Entry) → IfSome ch.execute (λ x. IsOutcome x.outcome) → b.result_data < 2 ^ 64 → Each P es → Each P (settled_entries ch b es)
  settled ch b es x d h =
      retired ch.retire (executed_entries ch b es) (executed ch.execute (finished_entries ch b es) x
      (finished (is_taken b) (find (holds_id b.result_id) (kept_entries ch b es)) b (kept_entries ch b es) d
      (drained ch.drain (cut_step ch.cut (released_entries ch b es)) (cut ch.cut (released_entries ch b es)
      (released ch.release (sent_entries ch b es) (sent (is_given b) ch.present (answered_entries ch b es)
      (answered (is_issued b) ch.offer b es h)))))))

  -- ---- a new entry

  kind-fits : (o : Option Instr) → HasImmediate o → FitsKind (kind_by o)
  kind-fits None h = tt
  kind-fits (Some i) h = h

  new-fits : (answer : ℕ → ℕ → ℕ) (seq id pc : ℕ) (word : Option ℕ) → id < 2 ^ n → IfSome word (λ k. k < 2 ^ 32) → P (entry_at answer seq id pc word)
  new-fits answer seq id pc None h w = record { id = pow_pos n; word = pow_pos 32; kind = tt; write = tt }
  new-fits answer seq id pc (Some word) h w = record {
    id = go (is_unknown_kind (kind_at (Some word)));
    word = w;
    kind = kind-fits (decoded word) (decoded-immediate word);
    write = tt;
  }
    where
      go : (t : Bool) → (if t then id else 0) < 2 ^ n
      go true = h
      go false = pow_pos n

  dispatched : (answer : ℕ → ℕ → ℕ) (seq id pc : ℕ) (word : Option ℕ) (es : List Entry) (t : Bool) → (t ≡ true → id < 2 ^ n) → IfSome word (λ k. k < 2 ^ 32) → Each P es
      → Each P (with_dispatch (if t then Some (entry_at answer seq id pc word) else None) es)
  dispatched answer seq id pc word es false h w a = a
  dispatched answer seq id pc word es true h w a = Each-push P es (entry_at answer seq id pc word) a (new-fits answer seq id pc word (h refl) w)

-- ---- what retirement changes

after-write : (registers : List ℕ) (w : Write) → AreWritten w → Each IsWord registers → Each IsWord (registers_after registers w)
after-write registers write.None h a = a
after-write registers (write.One rd value) h a = Each-written IsWord registers rd value a h
after-write registers (write.Pair rd low high) h a = Each-written IsWord _ _ high (Each-written IsWord registers rd low a h.0) h.1

registers-fit : (n : ℕ) (retire : Option Entry) (registers : List ℕ) → IfSome retire (FitsEntry n) → Each IsWord registers → Each IsWord (registers_behind retire registers)
registers-fit n None registers h a = a
registers-fit n (Some e) registers h a = after-write registers e.write h.write a

memory-fits : (retire : Option Entry) (m : Region) → Each IsByte m.bytes → Each IsByte (memory_behind retire m).bytes
memory-fits None m a = a
memory-fits (Some e) m a = memory-bytes m e.store a

-- ---- a cycle

pub clock-fits : (answer : ℕ → ℕ → ℕ) (w : Core) (b : Bus) → b.result_data < 2 ^ 64 → FitsCore w → FitsCore (core_clock answer w b)
clock-fits answer w b d f =
    let ch = choices w in
    let c : AreChosen w (FitsEntry w.params.id_width) ch = chosen w f in
    let pc = ahead_behind ch.cut w.ahead in
    let memory : Each IsByte (memory_behind ch.retire w.memory).bytes = memory-fits ch.retire w.memory f.memory in
    record {
      ids = f.ids;
      registers = registers-fit w.params.id_width ch.retire w.registers c.retire f.registers;
      memory = memory;
      entries =
          dispatched w.params.id_width answer w.next_seq (free_id w.flight) pc (word_at (memory_behind ch.retire w.memory) pc) (settled_entries ch b w.flight) ch.dispatch
          (λ h. let below : free_id w.flight < w.window = free_below w.flight w.window (c.dispatch h) in omega (arith, below, f.ids))
          (word-in (memory_behind ch.retire w.memory) pc memory)
          (settled w.params.id_width ch b w.flight c.execute d f.entries);
    }

pub begun-fits : (w : Core) → FitsCore w → FitsCore (drain_begun w)
begun-fits w f = record { ids = f.ids; registers = f.registers; memory = f.memory; entries = f.entries }
