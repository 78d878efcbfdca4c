-- The machine that runs ahead of the in-order machine, and its events.
use Rattle.std.specs.Prelude.{ℕ, ◌||◌, true, if◌then◌else◌, Some, None, List, [], ◌∷◌, ◌++◌, map}
use Rattle.rv32_table.specs.Instr.{rd_field}
use Rattle.xif_image.specs.Region.{Region, word_at}
use Rattle.inorder_machine.specs.declared.line.Retire.{Retire}
use Rattle.inorder_machine.specs.declared.line.Write.{Write}
use Rattle.inorder_machine.specs.declared.stop.StopCause.{StopCause}
use Rattle.inorder_machine.specs.declared.stop.StopCause.TheVariants.{Illegal}
use Rattle.inorder_machine.specs.Machine.{Extension, State, registers_after, memory_after}
use Rattle.inorder_machine.specs.Units.{unit_write}
use Rattle.xif_session.specs.declared.fact.Response.{Response}
use Rattle.xif_session.specs.Facts.{is_accepted}
use Rattle.cycle_spec.specs.declared.entry.Entry.{Entry}
use Rattle.cycle_spec.specs.Core.{entry_at, line_of}
use Rattle.cycle_spec.specs.Engine.{writeback_of}
use Rattle.ahead_spec.specs.Walk.{Item, path_end}
use Rattle.ahead_spec.specs.Operands.{word_hit, response_of, applied_to}

pub record World : Type 0 where
  -- as the retired instructions left them
  pub pc : ℕ
  pub registers : List ℕ
  pub memory : Region
  -- the lines of the retired instructions, the newest first
  pub retired : List Retire
  -- the instructions in flight, the oldest first
  pub flight : List Item
  -- the accumulators, after the uses whose result is computed
  pub units : List (List ℕ)

-- before the first event
abbrev pub begun : State → World
begun s = record {
  pc = s.pc;
  registers = s.registers;
  memory = s.memory;
  retired = [];
  flight = [];
  units = s.units;
}

-- an instruction in flight, with those around it
pub record Spot : Type 0 where
  pub older : List Item
  pub item : Item
  pub younger : List Item

abbrev pub whole : Spot → List Item
whole p = p.older ++ p.item ∷ p.younger

-- another one in its place
abbrev pub with_item : Spot → Item → List Item
with_item p y = p.older ++ y ∷ p.younger

pub data Event : Type 0 where
  -- an instruction is dispatched at the end of the path, with the answers of a predictor, a number
  -- and an id
  Dispatches : (answer : (pc word : ℕ) → ℕ) → (seq id : ℕ) → Event
  -- an instruction of RV32IM executes, and has this line
  Executes : Spot → Retire → Event
  -- an instruction of RV32IM executes, and is to stop the machine
  Halts : Spot → StopCause → Event
  -- a word has its issue response
  Answers : Spot → Event
  -- a word has its register handshake, with these lanes
  Sends : Spot → (lanes : List ℕ) → Event
  -- a word and all older ones are no longer speculative
  Releases : Spot → Event
  -- a unit computes the result of a word from these lanes
  Applies : Spot → (lanes : List ℕ) → Event
  -- the core has this result of a word
  Finishes : Spot → (result : ℕ) → Event
  -- the youngest instructions are dropped
  Drops : (kept gone : List Item) → Event
  -- the oldest instruction retires
  Retires : Item → (younger : List Item) → Event

-- ---- what an event makes of an instruction in flight

abbrev pub executed_with : Retire → Entry → Entry
executed_with line e = record e {
  done = true;
  write = line.write;
  store = line.store;
  next = line.next;
}

abbrev pub halted_with : StopCause → Entry → Entry
halted_with cause e = record e { stop = Some cause }

-- a refused word stops the machine
abbrev pub answered_with : Response → Entry → Entry
answered_with response e = record e {
  response = Some response;
  stop = if response.accept then e.stop else Some Illegal;
}

abbrev pub sent_of : Entry → Entry
sent_of e = record e { operands_sent = true }

abbrev pub released_of : Entry → Entry
released_of e = record e { released = e.released || is_accepted e.response }

abbrev pub finished_with : Write → Entry → Entry
finished_with written e = record e { done = true; write = written }

abbrev pub with_entry : Item → Entry → Item
with_entry y e = record y { entry = e }

abbrev pub released_item : Item → Item
released_item y = with_entry y (released_of y.entry)

-- what a result writes
abbrev pub result_write : Extension → (word result : ℕ) → Write
result_write x word result = unit_write (rd_field word) (writeback_of (word_hit x word)) result

abbrev pub new_item : (answer : (pc word : ℕ) → ℕ) → (seq id : ℕ) → World → Item
new_item answer seq id w =
    let pc = path_end w.pc w.flight in
    record {
      entry = entry_at answer seq id pc (word_at w.memory pc);
      sent = None;
      result = None;
    }

-- ---- what an event makes of the machine

abbrev pub with_flight : World → List Item → World
with_flight w ys = record w { flight = ys }

abbrev pub happens : Extension → World → Event → World
happens x w (Dispatches answer seq id) =
    with_flight w (w.flight ++ new_item answer seq id w ∷ [])
happens x w (Executes p line) =
    with_flight w (with_item p (with_entry p.item (executed_with line p.item.entry)))
happens x w (Halts p cause) =
    with_flight w (with_item p (with_entry p.item (halted_with cause p.item.entry)))
happens x w (Answers p) =
    let response = response_of (word_hit x p.item.entry.word) in
    with_flight w (with_item p (with_entry p.item (answered_with response p.item.entry)))
happens x w (Sends p lanes) =
    with_flight w
    (with_item p (record p.item { entry = sent_of p.item.entry; sent = Some lanes }))
happens x w (Releases p) =
    with_flight w (map released_item p.older ++ released_item p.item ∷ p.younger)
happens x w (Applies p lanes) =
    let outcome = applied_to x p.item.entry.word w.units lanes in
    record w {
      flight = with_item p (record p.item { result = Some outcome.result });
      units = outcome.state;
    }
happens x w (Finishes p result) =
    let written = result_write x p.item.entry.word result in
    with_flight w (with_item p (with_entry p.item (finished_with written p.item.entry)))
happens x w (Drops kept gone) = with_flight w kept
happens x w (Retires y younger) = record w {
  pc = y.entry.next;
  registers = registers_after w.registers y.entry.write;
  memory = memory_after w.memory y.entry.store;
  retired = line_of y.entry ∷ w.retired;
  flight = younger;
}

-- the machine after events
abbrev pub run : Extension → World → List Event → World
run x w [] = w
run x w (e ∷ es) = run x (happens x w e) es
