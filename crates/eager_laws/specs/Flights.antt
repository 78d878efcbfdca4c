-- The instructions in flight, as the log and the trace of a run tell them, and the in-order machine
-- along them.
use Rattle.std.specs.Prelude.{ℕ, ◌&&◌, Bool, if◌then◌else◌, Option, Some, None, is_none, List, [], ◌∷◌, ◌++◌, take, drop}
use Rattle.std.specs.List.{filter_map}
use Rattle.xif_drive.specs.Predictors.{following}
use Rattle.inorder_machine.specs.declared.line.Retire.{Retire}
use Rattle.inorder_machine.specs.declared.line.Stepped.{Stepped}
use Rattle.inorder_machine.specs.Machine.{Extension, State, state_after}
use Rattle.xif_signals.specs.declared.bus.Bus.{Bus}
use Rattle.xif_session.specs.declared.fact.Response.{Response}
use Rattle.xif_session.specs.Facts.{is_issued, response_on}
use Rattle.cycle_spec.specs.declared.entry.Entry.{Entry}
use Rattle.cycle_spec.specs.declared.log.Cut.{Cut}
use Rattle.cycle_spec.specs.declared.log.CycleLog.{CycleLog}
use Rattle.cycle_spec.specs.declared.log.Dispatch.{Dispatch}
use Rattle.cycle_spec.specs.Flight.{is_unknown_kind, is_row, is_control_row, kind_at}
use Rattle.cycle_spec.specs.Core.{word_of, word_or_zero}
use Rattle.cycle_spec.specs.Run.{Meaning}
use Rattle.ahead_spec.specs.Walk.{outcome_of_word}

-- ---- the cycles of a run

-- A cycle, by its line of the log and its bus. Lists of cycles have the newest first.
pub record Told : Type 0 where
  pub log : CycleLog
  pub bus : Bus

abbrev pub cycles_of : List CycleLog → List Bus → List Told
cycles_of [] buses = []
cycles_of (log ∷ logs) [] = []
cycles_of (log ∷ logs) (bus ∷ buses) = record { log = log; bus = bus } ∷ cycles_of logs buses

-- something holds of each cycle and those before it
abbrev pub EachTold : (List Told → Told → Type 0) → List Told → Type 0
EachTold P [] = Unit {0}
EachTold P (c ∷ older) = P older c × EachTold P older

-- the instructions that retired, the newest first
abbrev pub retired_by : List Told → List Retire
retired_by cycles = filter_map (λ c. c.log.retired) cycles

-- ---- what a predictor has learnt

-- a word is a JAL, a JALR or a branch
abbrev pub is_transfer : Option ℕ → Bool
is_transfer word = is_row is_control_row (kind_at word)

abbrev pub taught : {P : Type 0} → Meaning P → Option Retire → P → P
taught meaning None predictor = predictor
taught meaning (Some line) predictor =
    if is_transfer (Some line.word)
    then meaning.after predictor line.pc line.word line.next
    else predictor

-- the predictor after it has learnt, in their order, the control transfers that retired
abbrev pub predictor_after : {P : Type 0} → Meaning P → (first : P) → List Told → P
predictor_after meaning first [] = first
predictor_after meaning first (c ∷ older) =
    taught meaning c.log.retired (predictor_after meaning first older)

-- The address that is predicted to follow a word at an address: the predictor answers for control
-- transfers alone.
abbrev pub prediction : {P : Type 0} → Meaning P → P → (pc : ℕ) → (word : Option ℕ) → ℕ
prediction meaning predictor pc word =
    if is_transfer word then meaning.answer predictor pc (word_or_zero word) else following pc

-- ---- the instructions in flight

-- An instruction that was dispatched, and neither retired nor cut.
pub record InFlight : Type 0 where
  pub pc : ℕ
  -- none if there is no word at the address
  pub word : Option ℕ
  -- the address that was predicted to follow
  pub predicted : ℕ
  -- the coprocessors' answer, once it came
  pub response : Option Response

-- a word that is no instruction of RV32IM, without a response
abbrev pub awaits : InFlight → Bool
awaits e = is_unknown_kind (kind_at e.word) && is_none e.response

-- the oldest word that awaits its response has it
abbrev pub answered : Response → List InFlight → List InFlight
answered response [] = []
answered response (e ∷ es) =
    if awaits e then record e { response = Some response } ∷ es else e ∷ answered response es

abbrev pub after_handshake : Bus → List InFlight → List InFlight
after_handshake b es = if is_issued b then answered (response_on b) es else es

-- a cut and the begin of a drain keep so many of the oldest
abbrev pub after_cut : Option Cut → List InFlight → List InFlight
after_cut None es = es
after_cut (Some cut) es = take cut.keep es

abbrev pub after_drain : Option ℕ → List InFlight → List InFlight
after_drain None es = es
after_drain (Some stay) es = take stay es

-- the oldest retires
abbrev pub after_retirement : Option Retire → List InFlight → List InFlight
after_retirement None es = es
after_retirement (Some line) es = drop 1 es

abbrev pub dispatched_as : {P : Type 0} → Meaning P → P → Dispatch → InFlight
dispatched_as meaning predictor d = record {
  pc = d.pc;
  word = d.word;
  predicted = prediction meaning predictor d.pc d.word;
  response = None;
}

abbrev pub after_dispatch
    : {P : Type 0} → Meaning P → P → Option Dispatch → List InFlight → List InFlight
after_dispatch meaning predictor None es = es
after_dispatch meaning predictor (Some d) es = es ++ dispatched_as meaning predictor d ∷ []

-- what a cycle makes of them; the predictor has learnt what retired before it
abbrev pub flight_behind : {P : Type 0} → Meaning P → P → Told → List InFlight → List InFlight
flight_behind meaning predictor c es =
    after_dispatch meaning predictor c.log.dispatched
    (after_retirement c.log.retired
    (after_drain c.log.drained (after_cut c.log.cut (after_handshake c.bus es))))

-- the instructions in flight after these cycles, the oldest first
abbrev pub flight_after : {P : Type 0} → Meaning P → (first : P) → List Told → List InFlight
flight_after meaning first [] = []
flight_after meaning first (c ∷ older) =
    flight_behind meaning (predictor_after meaning first older) c (flight_after meaning first older)

-- what is told of an entry of the core
abbrev pub told_of : Entry → InFlight
told_of e = record {
  pc = e.pc;
  word = word_of e.kind e.word;
  predicted = e.predicted;
  response = e.response;
}

-- ---- along them

-- Each takes the step of the in-order machine, with its own address and word in place of those that
-- are fetched. One without a word stops.
abbrev pub outcome_along : Extension → State → InFlight → Stepped
outcome_along x s e = outcome_of_word x s e.pc e.word

-- the state behind instructions in flight; one that stops changes nothing, and the walk goes on
abbrev pub state_along : Extension → State → List InFlight → State
state_along x s [] = s
state_along x s (e ∷ es) = state_along x (state_after x s (outcome_along x s e)) es
