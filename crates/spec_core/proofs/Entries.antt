-- What the cycle keeps of the entries: each holds an id of the interface, and can retire.
use Rattle.std.proofs.Common.{◌≡◌, ◌<◌, ◌≤◌, ◌+◌, ◌^◌, ◌∷◌, ◌&&◌, is_some, ℕ, zero, suc, Bool, true, false, not, Option, Some, None, IfSome, List, [], map, take, drop, length, refl, sym, subst, arith, if◌then◌else◌}
use Rattle.std.specs.Prelude.{find, unwrap_or, nat_lt}
use Rattle.std.specs.List.{range_with_len, list_any}
use Rattle.std.specs.Option.{option_and_then}
use Rattle.std.proofs.lemmas.Bool.Decides.{nat_tests}
use Rattle.std.proofs.lemmas.List.Elements.{All-map, All-weaker, All-take, All-drop, All-push, All-head}
use Rattle.rv32_table.specs.Instr.{rd_field}
use Rattle.xif_base.specs.declared.params.Params.{Params}
use Rattle.xif_image.specs.Region.{Region}
use Rattle.xif_session.specs.Facts.{is_issued, is_given, is_taken}
use Rattle.xif_signals.specs.declared.bus.Bus.{Bus}
use Rattle.inorder_machine.specs.declared.line.Stepped.{Stepped}
use Rattle.inorder_machine.specs.declared.line.Stepped.TheVariants.{Retired, Stop}
use Rattle.inorder_machine.specs.declared.line.Store.{Store}
use Rattle.inorder_machine.specs.declared.line.Write.{Write}
use Rattle.inorder_machine.specs.declared.stop.StopCause.{StopCause}
use Rattle.inorder_machine.specs.Lines.{IsStore, IfRetired}
use Rattle.inorder_machine.specs.Units.{unit_write}
use Rattle.cycle_spec.specs.declared.choices.Choices.{Choices}
use Rattle.cycle_spec.specs.declared.choices.Executed.{Executed}
use Rattle.cycle_spec.specs.declared.choices.Presented.{Presented}
use Rattle.cycle_spec.specs.declared.choices.Mode.{Mode}
use Rattle.cycle_spec.specs.declared.choices.Mode.TheVariants.{Running, DrainBegins, Draining}
use Rattle.cycle_spec.specs.declared.entry.Entry.{Entry}
use Rattle.cycle_spec.specs.declared.entry.EntryKind.{EntryKind}
use Rattle.cycle_spec.specs.declared.entry.EntryKind.TheVariants.{Local, Unknown, Nowhere}
use Rattle.cycle_spec.specs.declared.log.Cut.{Cut}
use Rattle.cycle_spec.specs.State.{Core}
use Rattle.cycle_spec.specs.Flight as flight
use Rattle.cycle_spec.specs.Choices as choose
use Rattle.cycle_spec.specs.Core as spec
use Rattle.spec_core.specs.Fits.{IsKeptWrite, IsEntry, AreEntries, IsKeptLine, IsKeptOutcome}
use Rattle.spec_core.proofs.Outcomes.{kept_outcome, kept_result}
use Rattle.spec_core.proofs.Shapes.{shape_behind, entries_in}

-- ---- a change of each entry

by_map : (p : Params) (m : Region) (f : Entry → Entry) (es : List Entry) → ((e : Entry) → IsEntry p m e → IsEntry p m (f e)) → AreEntries p m es → AreEntries p m (map f es)
by_map p m f es h a = All-map (IsEntry p m) f es (All-weaker (IsEntry p m) (λ e. IsEntry p m (f e)) h es a)

kept_write_if : (t : Bool) (a b : Write) → IsKeptWrite a → IsKeptWrite b → IsKeptWrite (if t then a else b)
kept_write_if true a b h k = h
kept_write_if false a b h k = k

kept_store_if : (m : Region) (t : Bool) (a b : Option Store) → IsStore m a → IsStore m b → IsStore m (if t then a else b)
kept_store_if m true a b h k = h
kept_store_if m false a b h k = k

-- ---- the steps

response-kept : (p : Params) (m : Region) (offer : Option Entry) (b : Bus) (es : List Entry) → AreEntries p m es → AreEntries p m (spec.response_step offer b es)
response-kept p m offer b es a = go (is_issued b) offer
  where
    go : (t : Bool) (offer : Option Entry) → AreEntries p m (if t then spec.response_on_offer offer b es else es)
    go false offer = a
    go true None = a
    go true (Some e) = by_map p m _ es (λ x h. record { id = h.id; write = h.write; store = h.store }) a

sent-kept : (p : Params) (m : Region) (present : Option Presented) (b : Bus) (es : List Entry) → AreEntries p m es → AreEntries p m (spec.sent_step present b es)
sent-kept p m present b es a = go (is_given b) present
  where
    go : (t : Bool) (present : Option Presented) → AreEntries p m (if t then spec.sent_on_present present es else es)
    go false present = a
    go true None = a
    go true (Some x) = by_map p m _ es (λ y h. record { id = h.id; write = h.write; store = h.store }) a

release-kept : (p : Params) (m : Region) (release : Option Entry) (es : List Entry) → AreEntries p m es → AreEntries p m (spec.release_step release es)
release-kept p m None es a = a
release-kept p m (Some e) es a = by_map p m _ es (λ x h. record { id = h.id; write = h.write; store = h.store }) a

cut-kept : (p : Params) (m : Region) (cut : Option Cut) (es : List Entry) → AreEntries p m es → AreEntries p m (spec.cut_step cut es)
cut-kept p m None es a = a
cut-kept p m (Some cut) es a = All-take (IsEntry p m) cut.keep es a

drain-kept : (p : Params) (m : Region) (drain : Option ℕ) (es : List Entry) → AreEntries p m es → AreEntries p m (spec.drain_step drain es)
drain-kept p m None es a = a
drain-kept p m (Some stay) es a = All-take (IsEntry p m) stay es a

small_rd : (word : ℕ) → rd_field word < 32
small_rd word = omega arith

result-kept : (p : Params) (m : Region) (b : Bus) (es : List Entry) → AreEntries p m es → AreEntries p m (spec.result_step b es)
result-kept p m b es a = go (is_taken b) (find (flight.holds_id b.result_id) es)
  where
    go : (t : Bool) (found : Option Entry) → AreEntries p m (if t then spec.result_for found b es else es)
    go false found = a
    go true None = a
    go true (Some e) =
        let written : Write = unit_write (rd_field e.word) b.result_we b.result_data in
        by_map p m (flight.with_result e.seq written) es
        (λ x h. record {
          id = h.id;
          write = kept_write_if (flight.has_seq e.seq x) written x.write (kept_result (rd_field e.word) b.result_we b.result_data (small_rd e.word)) h.write;
          store = h.store;
        }) a

outcome-kept : (p : Params) (m : Region) (seq : ℕ) (outcome : Stepped) (es : List Entry) → IfRetired outcome (IsKeptLine m) → AreEntries p m es → AreEntries p m (map (flight.with_outcome seq outcome) es)
outcome-kept p m seq (Retired line) es k a =
    by_map p m (flight.with_line seq line) es
    (λ x h. record {
      id = h.id;
      write = kept_write_if (flight.has_seq seq x) line.write x.write k.write h.write;
      store = kept_store_if m (flight.has_seq seq x) line.store x.store k.store h.store;
    }) a
outcome-kept p m seq (Stop cause) es k a =
    by_map p m (flight.with_stop seq cause) es (λ x h. record { id = h.id; write = h.write; store = h.store }) a

execute-kept : (p : Params) (m : Region) (execute : Option Executed) (es : List Entry) → IfSome execute (IsKeptOutcome m) → AreEntries p m es → AreEntries p m (spec.execute_step execute es)
execute-kept p m None es k a = a
execute-kept p m (Some x) es k a = outcome-kept p m x.entry.seq x.outcome es k a

retire-kept : (p : Params) (m : Region) (retire : Option Entry) (es : List Entry) → AreEntries p m es → AreEntries p m (spec.retire_step retire es)
retire-kept p m None es a = a
retire-kept p m (Some e) es a = All-drop (IsEntry p m) 1 es a

settled-kept : (p : Params) (m : Region) (ch : Choices) (b : Bus) (es : List Entry) → IfSome ch.execute (IsKeptOutcome m) → AreEntries p m es → AreEntries p m (spec.settled_entries ch b es)
settled-kept p m ch b es x a =
    retire-kept p m ch.retire (spec.executed_entries ch b es)
    (execute-kept p m ch.execute (spec.finished_entries ch b es) x
    (result-kept p m b (spec.kept_entries ch b es)
    (drain-kept p m ch.drain (spec.cut_step ch.cut (spec.released_entries ch b es))
    (cut-kept p m ch.cut (spec.released_entries ch b es)
    (release-kept p m ch.release (spec.sent_entries ch b es)
    (sent-kept p m ch.present b (spec.answered_entries ch b es)
    (response-kept p m ch.offer b es a)))))))

-- ---- what is chosen

execution-kept : (w : Core) (es : List Entry) → IfSome (choose.execution w es) (IsKeptOutcome w.memory)
execution-kept w es = go (flight.ready_oldest w.params.dual_write w.registers es)
  where
    by_kind : (e : Entry) (kind : EntryKind) → IfSome (choose.executed_kind w e kind) (IsKeptOutcome w.memory)
    by_kind e (Local i) = kept_outcome w.memory _ i _ _
    by_kind e Unknown = tt
    by_kind e Nowhere = tt

    go : (found : Option Entry) → IfSome (option_and_then (choose.executed_entry w) found) (IsKeptOutcome w.memory)
    go None = tt
    go (Some e) = by_kind e e.kind

retirement-kept : (p : Params) (m : Region) (es : List Entry) → AreEntries p m es → IfSome (choose.retirement es) (IsEntry p m)
retirement-kept p m [] a = tt
retirement-kept p m (e ∷ es) a = go e.done
  where
    go : (t : Bool) → IfSome {T = Entry} (if t then Some e else None) (IsEntry p m)
    go true = All-head (IsEntry p m) e es a
    go false = tt

-- of the choices in a mode
record AreKeptChoices (p : Params) (m : Region) (ch : Choices) : Type 0 where
  retire : IfSome ch.retire (IsEntry p m)
  execute : IfSome ch.execute (IsKeptOutcome m)

running-kept : (w : Core) (stop : Option StopCause) → AreEntries w.params w.memory w.flight → AreKeptChoices w.params w.memory (choose.choices_by w stop)
running-kept w (Some cause) a = record { retire = tt; execute = tt }
running-kept w None a = record {
  retire = retirement-kept w.params w.memory w.flight a;
  execute = go (choose.store_cut (choose.retirement w.flight) (drop 1 w.flight));
}
  where
    go : (hit : Option Cut) → IfSome {T = Executed} (if is_some hit then None else choose.execution w w.flight) (IsKeptOutcome w.memory)
    go None = execution-kept w w.flight
    go (Some cut) = tt

draining-kept : (w : Core) (stay : ℕ) → AreEntries w.params w.memory w.flight → AreKeptChoices w.params w.memory (choose.choices_draining w stay)
draining-kept w stay a = record {
  retire = retirement-kept w.params w.memory (take stay w.flight) (All-take (IsEntry w.params w.memory) stay w.flight a);
  execute = execution-kept w (take stay w.flight);
}

choices-kept : (w : Core) (mode : Mode) → AreEntries w.params w.memory w.flight → AreKeptChoices w.params w.memory (choose.choices_in w mode)
choices-kept w Running a = running-kept w (choose.stop_at w.flight) a
choices-kept w DrainBegins a =
    let k = draining-kept w (choose.stay_with (flight.youngest_released w.flight) w.flight) a in
    record { retire = k.retire; execute = k.execute }
choices-kept w Draining a = draining-kept w (length w.flight) a

retire_is_entry : (w : Core) → AreEntries w.params w.memory w.flight → IfSome (choose.choices w).retire (IsEntry w.params w.memory)
retire_is_entry w a = (choices-kept w w.mode a).retire

pub retires_write : (w : Core) → AreEntries w.params w.memory w.flight → IfSome (choose.choices w).retire (λ e. IsKeptWrite e.write)
retires_write w a = go (choose.choices w).retire (retire_is_entry w a)
  where
    go : (retire : Option Entry) → IfSome retire (IsEntry w.params w.memory) → IfSome retire (λ e. IsKeptWrite e.write)
    go None h = tt
    go (Some e) h = h.write

pub retires_store : (w : Core) → AreEntries w.params w.memory w.flight → IfSome (choose.choices w).retire (λ e. IsStore w.memory e.store)
retires_store w a = go (choose.choices w).retire (retire_is_entry w a)
  where
    go : (retire : Option Entry) → IfSome retire (IsEntry w.params w.memory) → IfSome retire (λ e. IsStore w.memory e.store)
    go None h = tt
    go (Some e) h = h.store

-- it is chosen only where there is room
pub dispatch_has_room : (w : Core) → (choose.choices w).dispatch ≡ true → length w.flight < w.window
dispatch_has_room w h = by_mode w.mode h
  where
    may : (cut : Option Cut) → choose.may_dispatch w cut ≡ true → length w.flight < w.window
    may cut h = first (nat_lt (length w.flight) w.window) _ refl h
      where
        first : (s t : Bool) → nat_lt (length w.flight) w.window ≡ s → (s && t) ≡ true → length w.flight < w.window
        first true t e h = grind (arith, nat_tests)
        first false t e h = absurd cc

    by_stop : (stop : Option StopCause) → (choose.choices_by w stop).dispatch ≡ true → length w.flight < w.window
    by_stop None h = may _ h
    by_stop (Some cause) h = absurd cc

    by_mode : (mode : Mode) → (choose.choices_in w mode).dispatch ≡ true → length w.flight < w.window
    by_mode Running h = by_stop (choose.stop_at w.flight) h
    by_mode DrainBegins h = absurd cc
    by_mode Draining h = absurd cc

-- ---- the next instruction

find-small : (test : ℕ → Bool) (first count : ℕ) → unwrap_or (find test (range_with_len first (suc count))) 0 ≤ first + count
find-small test first zero = go (test first)
  where
    go : (t : Bool) → unwrap_or (if t then Some first else None) 0 ≤ first + zero
    go true = omega arith
    go false = omega arith
find-small test first (suc count) = go (test first) (find-small test (first + 1) count)
  where
    go : (t : Bool) → unwrap_or (find test (range_with_len (first + 1) (suc count))) 0 ≤ first + 1 + count
        → unwrap_or (if t then Some first else find test (range_with_len (first + 1) (suc count))) 0 ≤ first + suc count
    go true h = omega arith
    go false h = omega (arith, h)

pub small_id : (es : List Entry) → flight.free_id es ≤ length es
small_id es =
    let n = length es in
    let next : suc n ≡ n + 1 = omega arith in
    let test : ℕ → Bool = λ id. not (list_any (flight.holds_id id) es) in
    let small : unwrap_or (find test (range_with_len 0 (suc n))) 0 ≤ n = omega (arith, find-small test 0 n) in
    subst (λ k. unwrap_or (find test (range_with_len 0 k)) 0 ≤ n) next small

pub id-kept : (p : Params) (id : ℕ) (unknown : Bool) → id < 2 ^ p.id_width → (if unknown then id else 0) < 2 ^ p.id_width
id-kept p id true l = l
id-kept p id false l = omega (arith, l)

-- ---- the cycle

-- the entries after all steps but the dispatch
pub settled_after : (w : Core) (b : Bus) → AreEntries w.params w.memory w.flight
    → AreEntries w.params (spec.memory_behind (choose.choices w).retire w.memory) (spec.settled_entries (choose.choices w) b w.flight)
settled_after w b a =
    let ch : Choices = choose.choices w in
    entries_in w.params w.memory (spec.memory_behind ch.retire w.memory) (spec.settled_entries ch b w.flight)
    (shape_behind w.memory ch.retire (retires_store w a))
    (settled-kept w.params w.memory ch b w.flight (choices-kept w w.mode a).execute a)

-- with an instruction that is dispatched
pub added-kept : (p : Params) (m : Region) (new : Option Entry) (es : List Entry) → AreEntries p m es → IfSome new (IsEntry p m) → AreEntries p m (spec.with_dispatch new es)
added-kept p m None es a h = a
added-kept p m (Some e) es a h = All-push (IsEntry p m) es e a h

-- what holds where an instruction is dispatched
pub where_dispatched : (t : Bool) (e : Entry) (new : Option Entry) (P : Entry → Type 0) → new ≡ (if t then Some e else None) → (t ≡ true → P e) → IfSome new P
where_dispatched true e new P is h = subst (λ o. IfSome o P) (sym is) (h refl)
where_dispatched false e new P is h = subst (λ o. IfSome o P) (sym is) tt
