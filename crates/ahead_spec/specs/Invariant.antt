-- What each event keeps.
use Rattle.std.specs.Prelude.{◌≡◌, ℕ, ◌&&◌, Bool, true, false, if◌then◌else◌, Some, None, is_some, is_none, IsSome, List, [], ◌∷◌, length}
use Rattle.xif_drive.specs.Predictors.{following}
use Rattle.xif_image.specs.Region.{Region, word_at}
use Rattle.inorder_machine.specs.declared.line.Stepped.TheVariants.{Retired, Stop}
use Rattle.inorder_machine.specs.declared.stop.StopCause.{StopCause}
use Rattle.inorder_machine.specs.Machine.{Extension, State}
use Rattle.inorder_machine.specs.After.{after}
use Rattle.xif_session.specs.declared.fact.Response.{Response}
use Rattle.xif_session.specs.Facts.{is_accepted}
use Rattle.cycle_spec.specs.declared.entry.EntryKind.{EntryKind}
use Rattle.cycle_spec.specs.Flight.{is_unknown_kind, is_unknown, is_control, is_open, is_safe, kind_at, stop_by}
use Rattle.cycle_spec.specs.Core.{word_or_zero, line_of}
use Rattle.ahead_spec.specs.Walk.{Item, outcome, stepped, Walked, IsPath}
use Rattle.ahead_spec.specs.Operands.{word_hit, response_of, CarriesOperands, unit_step}
use Rattle.ahead_spec.specs.World.{World}
use Rattle.ahead_spec.specs.Pairs.{Pairs}
use Rattle.ahead_spec.specs.Refines.{lines}

-- ---- an instruction in flight, in the state before it

-- What is known of it is what the in-order machine does there; the memory is that behind the
-- retired instructions.
pub record Agrees (x : Extension) (memory : Region) (s : State) (y : Item) : Type 0 where
  -- its word is that of the memory
  pub kind_is : y.entry.kind ≡ kind_at (word_at memory y.entry.pc)
  pub word_is : y.entry.word ≡ word_or_zero (word_at memory y.entry.pc)
  -- only a control transfer leads elsewhere than to the instruction behind it
  pub predicted_is : is_control y.entry ≡ false → y.entry.predicted ≡ following y.entry.pc
  pub next_is : is_unknown y.entry ≡ true → y.entry.next ≡ following y.entry.pc
  pub store_is : is_unknown y.entry ≡ true → y.entry.store ≡ None
  pub response_is : (response : Response) → y.entry.response ≡ Some response
      → (is_unknown y.entry ≡ true) × (response ≡ response_of (word_hit x y.entry.word))
  pub sent_is : (lanes : List ℕ) → y.sent ≡ Some lanes → CarriesOperands x s y.entry.word lanes
  pub released_is : y.entry.released ≡ true → is_accepted y.entry.response ≡ true
  pub result_is : (result : ℕ) → y.result ≡ Some result
      → result ≡ (unit_step x s y.entry.word).result
  pub result_when : IsSome y.result → y.entry.released ≡ true
  -- its line is that of the in-order machine
  pub done_is : y.entry.done ≡ true
      → outcome x s y.entry.pc y.entry.kind y.entry.word ≡ Retired (line_of y.entry)
  pub done_when : y.entry.done ≡ true → is_unknown y.entry ≡ true → IsSome y.result
  -- it stops the machine where the in-order machine stops
  pub stop_is : (cause : StopCause) → y.entry.stop ≡ Some cause
      → outcome x s y.entry.pc y.entry.kind y.entry.word ≡ Stop cause
  pub stop_when : (cause : StopCause) → stop_by y.entry.kind ≡ Some cause → IsSome y.entry.stop

-- ---- an instruction in flight, and a younger one

pub record InOrder (older younger : Item) : Type 0 where
  -- behind one that isn't safe nothing is released
  pub safe : younger.entry.released ≡ true → is_safe older.entry ≡ true
  -- words are released, computed and answered in their order
  pub released : younger.entry.released ≡ true → is_accepted older.entry.response ≡ true
      → older.entry.released ≡ true
  pub computed : IsSome younger.result → is_accepted older.entry.response ≡ true
      → IsSome older.result
  pub answered : IsSome younger.entry.response → is_open older.entry ≡ false

-- ---- the accumulators

-- a unit takes the word
abbrev pub is_use : Extension → EntryKind → (word : ℕ) → Bool
is_use x kind word = is_unknown_kind kind && is_some (word_hit x word)

-- and its result isn't computed
abbrev pub is_waiting_use : Extension → Item → Bool
is_waiting_use x y = is_use x y.entry.kind y.entry.word && is_none y.result

-- the accumulators before the first use whose result isn't computed
abbrev pub units_at : Extension → State → List Item → List (List ℕ)
units_at x s [] = s.units
units_at x s (y ∷ ys) =
    if is_waiting_use x y
    then s.units
    else units_at x (stepped x s y.entry.pc y.entry.kind y.entry.word) ys

-- ---- all of it

-- The machine runs ahead of the in-order machine that began in a state.
pub record RunsAhead (x : Extension) (start : State) (w : World) : Type 0 where
  -- the in-order machine after as many instructions as retired
  pub now : State
  pub arrived : after x (length w.retired) start ≡ Some now
  pub lines_are : w.retired ≡ lines x (length w.retired) start
  pub pc_is : w.pc ≡ now.pc
  pub registers_are : w.registers ≡ now.registers
  pub memory_is : w.memory ≡ now.memory
  pub count : length now.registers ≡ 32
  pub path : IsPath now.pc w.flight
  pub agree : Walked x (Agrees x now.memory) now w.flight
  pub in_order : Pairs InOrder w.flight
  pub units_are : w.units ≡ units_at x now w.flight
