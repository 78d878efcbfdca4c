-- The core in a cycle: what it drives, and its state after the cycle. Each step reads the choices,
-- which were made from the state at the start of the cycle.
use Rattle.std.specs.Prelude.{ℕ, ◌+◌, ◌&&◌, ◌||◌, if◌then◌else◌, Option, Some, None, is_some, List, [], ◌∷◌, ◌++◌, map, take, drop, find, slice_index}
use Rattle.std.specs.Option.{option_or, option_map, option_map_or}
use Rattle.rv32_table.specs.Instr.{rd_field}
use Rattle.xif_drive.specs.Predictors.{following}
use Rattle.xif_image.specs.Region.{Region, word_at}
use Rattle.inorder_machine.specs.declared.line.Retire.{Retire}
use Rattle.inorder_machine.specs.Machine.{registers_after, memory_after}
use Rattle.inorder_machine.specs.Units.{unit_write}
use Rattle.xif_signals.specs.declared.bus.Bus.{Bus}
use Rattle.xif_signals.specs.declared.bus.CpuOut.{CpuOut}
use Rattle.xif_signals.specs.declared.bus.CopOut.{CopOut}
use Rattle.xif_signals.specs.declared.bus.CpuIn.{CpuIn}
use Rattle.xif_session.specs.Facts.{is_issued, is_given, is_taken, response_on}
use Rattle.cycle_spec.specs.declared.choices.Choices.{Choices}
use Rattle.cycle_spec.specs.declared.choices.Executed.{Executed}
use Rattle.cycle_spec.specs.declared.choices.Mode.{Mode}
use Rattle.cycle_spec.specs.declared.choices.Mode.TheVariants.{Running, DrainBegins, Draining}
use Rattle.cycle_spec.specs.declared.choices.Presented.{Presented}
use Rattle.cycle_spec.specs.declared.entry.Entry.{Entry}
use Rattle.cycle_spec.specs.declared.entry.EntryKind.{EntryKind}
use Rattle.cycle_spec.specs.declared.entry.EntryKind.TheVariants.{Local, Unknown, Nowhere}
use Rattle.cycle_spec.specs.declared.log.Cut.{Cut}
use Rattle.cycle_spec.specs.declared.log.CycleLog.{CycleLog}
use Rattle.cycle_spec.specs.declared.log.Dispatch.{Dispatch}
use Rattle.cycle_spec.specs.Flight.{is_unknown_kind, is_row, is_control_row, is_control, holds_id, with_response, with_sent, with_release, with_result, with_outcome, kind_at, new_entry, free_id}
use Rattle.cycle_spec.specs.Turns.{turn_of, is_past, transactions_after}
use Rattle.cycle_spec.specs.State.{Core}
use Rattle.cycle_spec.specs.Choices.{choices}

-- ---- what the core drives

abbrev pub id_in : Option Entry → ℕ
id_in offer = option_map_or (λ e. e.id) offer 0

abbrev pub word_in : Option Entry → ℕ
word_in offer = option_map_or (λ e. e.word) offer 0

abbrev pub presented_id : Option Presented → ℕ
presented_id present = option_map_or (λ x. x.entry.id) present 0

abbrev pub presented_lane : (lane : ℕ) → Option Presented → ℕ
presented_lane lane present = option_map_or (λ x. slice_index x.lanes lane) present 0

abbrev pub presented_flags : Option Presented → ℕ
presented_flags present = option_map_or (λ x. x.rs_valid) present 0

-- The fields of a channel whose valid is 0 are 0. At most one of a kill and a release is chosen.
abbrev pub cpu_out : Choices → CpuOut
cpu_out ch = record {
  issue_valid = is_some ch.offer;
  issue_hartid = 0;
  issue_id = id_in ch.offer;
  issue_instr = word_in ch.offer;
  register_valid = is_some ch.present;
  register_hartid = 0;
  register_id = presented_id ch.present;
  register_rs0 = presented_lane 0 ch.present;
  register_rs1 = presented_lane 1 ch.present;
  register_rs2 = presented_lane 2 ch.present;
  register_rs_valid = presented_flags ch.present;
  commit_valid = is_some ch.kill || is_some ch.release;
  commit_hartid = 0;
  commit_id = id_in (option_or ch.kill ch.release);
  commit_kill = is_some ch.kill;
}

abbrev pub core_drive : Core → CpuOut
core_drive w = cpu_out (choices w)

-- The result channel has one transaction at a time, and the core doesn't ask for whom it is.
abbrev pub result_owner : ℕ
result_owner = 0

-- A result is taken once its transaction has waited for its delay (CV-X-IF 1.0.0, "Result
-- interface").
abbrev pub core_accepts : Core → CopOut → CpuIn
core_accepts w cop = record {
  result_ready =
      cop.result_valid && is_past w.script.take (turn_of w.result_turns result_owner);
}

-- ---- the steps on the entries, in their order

-- at the issue handshake the word that is offered has its response
abbrev pub response_on_offer : Option Entry → Bus → List Entry → List Entry
response_on_offer None b es = es
response_on_offer (Some e) b es = map (with_response e.seq (response_on b)) es

abbrev pub response_step : Option Entry → Bus → List Entry → List Entry
response_step offer b es = if is_issued b then response_on_offer offer b es else es

-- at the register handshake the source registers are sent
abbrev pub sent_on_present : Option Presented → List Entry → List Entry
sent_on_present None es = es
sent_on_present (Some x) es = map (with_sent x.entry.seq) es

abbrev pub sent_step : Option Presented → Bus → List Entry → List Entry
sent_step present b es = if is_given b then sent_on_present present es else es

-- a release is for the use that it names and for all older ones
abbrev pub release_step : Option Entry → List Entry → List Entry
release_step None es = es
release_step (Some e) es = map (with_release e.seq) es

abbrev pub cut_step : Option Cut → List Entry → List Entry
cut_step None es = es
cut_step (Some cut) es = take cut.keep es

abbrev pub drain_step : Option ℕ → List Entry → List Entry
drain_step None es = es
drain_step (Some stay) es = take stay es

-- the use whose result is taken is done
abbrev pub result_for : Option Entry → Bus → List Entry → List Entry
result_for None b es = es
result_for (Some e) b es =
    map (with_result e.seq (unit_write (rd_field e.word) b.result_we b.result_data)) es

abbrev pub result_step : Bus → List Entry → List Entry
result_step b es = if is_taken b then result_for (find (holds_id b.result_id) es) b es else es

abbrev pub execute_step : Option Executed → List Entry → List Entry
execute_step None es = es
execute_step (Some x) es = map (with_outcome x.entry.seq x.outcome) es

abbrev pub retire_step : Option Entry → List Entry → List Entry
retire_step None es = es
retire_step (Some e) es = drop 1 es

-- the entries after each of these steps
abbrev pub answered_entries : Choices → Bus → List Entry → List Entry
answered_entries ch b es = response_step ch.offer b es

abbrev pub sent_entries : Choices → Bus → List Entry → List Entry
sent_entries ch b es = sent_step ch.present b (answered_entries ch b es)

abbrev pub released_entries : Choices → Bus → List Entry → List Entry
released_entries ch b es = release_step ch.release (sent_entries ch b es)

abbrev pub kept_entries : Choices → Bus → List Entry → List Entry
kept_entries ch b es = drain_step ch.drain (cut_step ch.cut (released_entries ch b es))

abbrev pub finished_entries : Choices → Bus → List Entry → List Entry
finished_entries ch b es = result_step b (kept_entries ch b es)

abbrev pub executed_entries : Choices → Bus → List Entry → List Entry
executed_entries ch b es = execute_step ch.execute (finished_entries ch b es)

-- all entries after the cycle but the one that it dispatches
abbrev pub settled_entries : Choices → Bus → List Entry → List Entry
settled_entries ch b es = retire_step ch.retire (executed_entries ch b es)

-- ---- what retirement changes

abbrev pub registers_behind : Option Entry → (registers : List ℕ) → List ℕ
registers_behind None registers = registers
registers_behind (Some e) registers = registers_after registers e.write

abbrev pub memory_behind : Option Entry → Region → Region
memory_behind None memory = memory
memory_behind (Some e) memory = memory_after memory e.store

-- the address of the next instruction to retire
abbrev pub pc_behind : Option Entry → (pc : ℕ) → ℕ
pc_behind retire pc = option_map_or (λ e. e.next) retire pc

-- a predictor learns where a control transfer went that retires
abbrev pub learnt : {P : Type 0} → (P → (pc word actual : ℕ) → P) → Option Entry → P → P
learnt after None predictor = predictor
learnt after (Some e) predictor =
    if is_control e then after predictor e.pc e.word e.next else predictor

-- ---- dispatch

-- the address of the next dispatch, by the last cut
abbrev pub ahead_behind : Option Cut → (ahead : ℕ) → ℕ
ahead_behind cut ahead = option_map_or (λ c. c.target) cut ahead

-- the address that is predicted to follow: the predictor is asked at a control transfer alone
abbrev pub predicted_at : (answer : (pc word : ℕ) → ℕ) → (pc word : ℕ) → EntryKind → ℕ
predicted_at answer pc word kind =
    if is_row is_control_row kind then answer pc word else following pc

abbrev pub word_or_zero : Option ℕ → ℕ
word_or_zero word = option_map_or (λ w. w) word 0

-- an instruction that is dispatched, by the word at its address
abbrev pub entry_at : (answer : (pc word : ℕ) → ℕ) → (seq id pc : ℕ) → Option ℕ → Entry
entry_at answer seq id pc word =
    let kind = kind_at word in
    let bits = word_or_zero word in
    new_entry seq pc kind bits (predicted_at answer pc bits kind)
    (if is_unknown_kind kind then id else 0)

-- The next instruction: its address is that behind the last cut, and its word that of the memory
-- after the store that retires. Its id is one that no entry held at the start of the cycle.
abbrev pub next_entry : (answer : (pc word : ℕ) → ℕ) → Core → Choices → Entry
next_entry answer w ch =
    entry_at answer w.next_seq (free_id w.flight) (ahead_behind ch.cut w.ahead)
    (word_at (memory_behind ch.retire w.memory) (ahead_behind ch.cut w.ahead))

abbrev pub dispatch_of : (answer : (pc word : ℕ) → ℕ) → Core → Choices → Option Entry
dispatch_of answer w ch = if ch.dispatch then Some (next_entry answer w ch) else None

abbrev pub with_dispatch : Option Entry → List Entry → List Entry
with_dispatch None es = es
with_dispatch (Some e) es = es ++ e ∷ []

abbrev pub seq_after : Option Entry → (next_seq : ℕ) → ℕ
seq_after new next_seq = option_map_or (λ e. e.seq + 1) new next_seq

abbrev pub ahead_after : Option Entry → (ahead : ℕ) → ℕ
ahead_after new ahead = option_map_or (λ e. e.predicted) new ahead

-- ---- the core after a cycle

abbrev pub mode_after : Mode → Mode
mode_after Running = Running
mode_after DrainBegins = Draining
mode_after Draining = Draining

abbrev pub present_owner : Option Presented → Option ℕ
present_owner present = option_map (λ x. x.entry.seq) present

-- whom the result channel is for, if its valid is 1
abbrev pub result_owner_on : Bus → Option ℕ
result_owner_on b = if b.result_valid then Some result_owner else None

-- by what it chose, by the bus, and by the answers of the predictor
abbrev pub core_after : (answer : (pc word : ℕ) → ℕ) → Core → Choices → Bus → Core
core_after answer w ch b =
    let new = dispatch_of answer w ch in
    record w {
      flight = with_dispatch new (settled_entries ch b w.flight);
      next_seq = seq_after new w.next_seq;
      registers = registers_behind ch.retire w.registers;
      memory = memory_behind ch.retire w.memory;
      pc = pc_behind ch.retire w.pc;
      ahead = ahead_after new (ahead_behind ch.cut w.ahead);
      stopped = option_or ch.stop w.stopped;
      mode = mode_after w.mode;
      register_turns =
          transactions_after w.register_turns (present_owner ch.present) b.register_ready;
      result_turns = transactions_after w.result_turns (result_owner_on b) b.result_ready;
    }

abbrev pub core_clock : (answer : (pc word : ℕ) → ℕ) → Core → Bus → Core
core_clock answer w b = core_after answer w (choices w) b

-- ---- the log of a cycle

abbrev pub line_of : Entry → Retire
line_of e = record {
  pc = e.pc;
  word = e.word;
  next = e.next;
  write = e.write;
  store = e.store;
}

abbrev pub word_of : EntryKind → (word : ℕ) → Option ℕ
word_of (Local i) word = Some word
word_of Unknown word = Some word
word_of Nowhere word = None

abbrev pub dispatch_line : Entry → Dispatch
dispatch_line e = record { pc = e.pc; word = word_of e.kind e.word }

abbrev pub log_of : (answer : (pc word : ℕ) → ℕ) → Core → Choices → CycleLog
log_of answer w ch = record {
  retired = option_map line_of ch.retire;
  cut = ch.cut;
  dispatched = option_map dispatch_line (dispatch_of answer w ch);
  drained = ch.drain;
  stopped = ch.stop;
  pc = pc_behind ch.retire w.pc;
}

abbrev pub core_log : (answer : (pc word : ℕ) → ℕ) → Core → CycleLog
core_log answer w = log_of answer w (choices w)

-- ---- between two cycles

-- a drain begins with the next cycle
abbrev pub drain_begun : Core → Core
drain_begun w = record w { mode = DrainBegins }

-- after a drain: the next dispatch is the next instruction to retire
abbrev pub resumed : Core → Core
resumed w = record w { mode = Running; ahead = w.pc }
