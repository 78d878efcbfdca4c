-- What the core does in a cycle, all of it chosen from the state at its start.
use Rattle.std.specs.Prelude.{ℕ, ◌+◌, ◌-◌, ◌%◌, ◌^◌, ◌==◌, ◌&&◌, not, nat_lt, Bool, false, if◌then◌else◌, Option, Some, None, is_some, is_none, List, [], ◌∷◌, length, take, drop, find}
use Rattle.std.specs.Option.{option_or, option_and_then, option_map, option_map_or}
use Rattle.std.specs.List.{list_any, range_with_len}
use Rattle.rv32_table.specs.declared.instr.Instr.{Instr}
use Rattle.rv32_table.specs.Instr.{sources_of, source_field}
use Rattle.rv32_table.specs.Word.{wrapped}
use Rattle.xif_base.specs.declared.params.Params.{Params}
use Rattle.xif_drive.specs.Predictors.{following}
use Rattle.coproc_config.specs.Accept.{flag_of, union_of}
use Rattle.coproc_config.specs.Bits.{lane as lane_with}
use Rattle.inorder_machine.specs.declared.line.Store.{Store}
use Rattle.inorder_machine.specs.declared.line.Stepped.{Stepped}
use Rattle.inorder_machine.specs.declared.line.Stepped.TheVariants.{Retired, Stop}
use Rattle.inorder_machine.specs.declared.stop.StopCause.{StopCause}
use Rattle.inorder_machine.specs.declared.units.Half.{Half}
use Rattle.inorder_machine.specs.declared.units.Half.TheVariants.{Low, High}
use Rattle.inorder_machine.specs.Execute.{executed}
use Rattle.inorder_machine.specs.Units.{bit_of, half_register}
use Rattle.cycle_spec.specs.declared.choices.Choices.{Choices}
use Rattle.cycle_spec.specs.declared.choices.Executed.{Executed}
use Rattle.cycle_spec.specs.declared.choices.Mode.{Mode}
use Rattle.cycle_spec.specs.declared.choices.Mode.TheVariants.{Running, DrainBegins, Draining}
use Rattle.cycle_spec.specs.declared.choices.Presented.{Presented}
use Rattle.cycle_spec.specs.declared.entry.Entry.{Entry}
use Rattle.cycle_spec.specs.declared.entry.EntryKind.{EntryKind}
use Rattle.cycle_spec.specs.declared.entry.EntryKind.TheVariants.{Local, Unknown, Nowhere}
use Rattle.cycle_spec.specs.declared.entry.Operand.{Operand}
use Rattle.cycle_spec.specs.declared.entry.Operand.TheVariants.{Here, NotYet}
use Rattle.cycle_spec.specs.declared.log.Cut.{Cut}
use Rattle.cycle_spec.specs.Flight.{is_control, is_stopping, is_open, is_pending, is_waiting, has_seq, older_than, count_through, operand_at, source_behind, is_here, value_or_zero, ready_oldest, certain, youngest_released}
use Rattle.cycle_spec.specs.Turns.{turn_of, is_past}
use Rattle.cycle_spec.specs.State.{Core}

-- ---- stop and retirement: of the oldest entry

abbrev pub stop_at : List Entry → Option StopCause
stop_at [] = None
stop_at (e ∷ es) = e.stop

abbrev pub retirement : List Entry → Option Entry
retirement [] = None
retirement (e ∷ es) = if e.done then Some e else None

-- ---- execution

-- the value of a source of an entry's instruction
abbrev pub source_value : Core → Entry → Option ℕ → ℕ
source_value w e source =
    value_or_zero
    (source_behind w.params.dual_write w.registers (older_than e.seq w.flight) source)

abbrev pub outcome_of : Core → Entry → Instr → Stepped
outcome_of w e i =
    executed w.memory (record { pc = e.pc; word = e.word }) i
    (source_value w e (sources_of i).0) (source_value w e (sources_of i).1)

abbrev pub executed_kind : Core → Entry → EntryKind → Option Executed
executed_kind w e (Local i) = Some (record { entry = e; outcome = outcome_of w e i })
executed_kind w e Unknown = None
executed_kind w e Nowhere = None

-- what an entry does, on the registers behind the older ones and on the memory
abbrev pub executed_entry : Core → Entry → Option Executed
executed_entry w e = executed_kind w e e.kind

-- the oldest of these entries that may execute, and what it does
abbrev pub execution : Core → List Entry → Option Executed
execution w es =
    option_and_then (executed_entry w) (ready_oldest w.params.dual_write w.registers es)

-- ---- cuts

-- an address is that of one of the four bytes of a word, modulo 2^32
abbrev pub is_in_word : (pc address : ℕ) → Bool
is_in_word pc address = nat_lt (wrapped (address + 2 ^ 32 - pc)) 4

-- a byte of a store is one of an entry's word
abbrev pub is_hit : Store → Entry → Bool
is_hit store e =
    list_any (λ k. is_in_word e.pc (store.addr + k)) (range_with_len 0 store.width)

abbrev pub is_any_hit : Option Store → List Entry → Bool
is_any_hit None younger = false
is_any_hit (Some store) younger = list_any (is_hit store) younger

-- The entry that retires stores into the word of a younger one. What is younger is dropped, and is
-- dispatched anew.
abbrev pub store_cut : Option Entry → (younger : List Entry) → Option Cut
store_cut None younger = None
store_cut (Some e) younger =
    if is_any_hit e.store younger then Some (record { keep = 1; target = following e.pc }) else None

abbrev pub transfer_cut : Entry → Stepped → List Entry → Option Cut
transfer_cut e (Retired line) es =
    if is_control e && not (line.next == e.predicted)
    then Some (record { keep = count_through e.seq es; target = line.next })
    else None
transfer_cut e (Stop cause) es = None

-- The control transfer that executes goes elsewhere than was predicted. What is younger is dropped.
abbrev pub control_cut : Option Executed → List Entry → Option Cut
control_cut None es = None
control_cut (Some x) es = transfer_cut x.entry x.outcome es

-- the entries that a cut drops
abbrev pub gone_by : Option Cut → List Entry → List Entry
gone_by None es = []
gone_by (Some cut) es = drop cut.keep es

-- ---- the issue channel (CV-X-IF 1.0.0, "Issue interface")

-- the oldest unknown word that had no issue handshake
abbrev pub offer_in : List Entry → Option Entry
offer_in es = find is_open es

-- ---- the register channel (CV-X-IF 1.0.0, "Register interface")

-- With X_ISSUE_REGISTER_SPLIT it presents the oldest use that waits for its registers, and else the
-- word on the issue channel.
abbrev pub presented_entry : (split : Bool) → (offer : Option Entry) → List Entry → Option Entry
presented_entry split offer es = if split then find is_waiting es else offer

-- the delay of the transaction holds back the lanes but for the first
abbrev pub is_late : Core → Entry → Bool
is_late w e = not (is_past w.script.operand (turn_of w.register_turns e.seq))

-- Which halves of a lane carry a register of a word: the low half that of the lane's field, and the
-- high half, below X_DUALREAD, the register behind an even one.
abbrev pub has_half : Params → (word lane : ℕ) → Half → Bool
has_half p word lane Low = nat_lt lane p.num_rs
has_half p word lane High = nat_lt lane p.dual_read && (source_field word lane % 2 == 0)

-- the register; behind x0 the half is 0
abbrev pub half_value : Core → Entry → (lane : ℕ) → Half → Operand
half_value w e lane half =
    option_map_or (operand_at w.params.dual_write w.registers w.flight e.seq)
    (half_register (source_field e.word lane) half) (Here 0)

-- what a half of a lane presents
abbrev pub half_of : Core → Entry → (lane : ℕ) → Half → Operand
half_of w e lane half =
    if has_half w.params e.word lane half && not (is_late w e && not (lane == 0))
    then half_value w e lane half
    else NotYet

-- its flag is set where the register is here
abbrev pub half_flag : Core → Entry → (lane : ℕ) → Half → ℕ
half_flag w e lane half =
    if is_here (half_of w e lane half) then flag_of (bit_of w.params lane half) else 0

abbrev pub flags_of : Core → Entry → ℕ
flags_of w e =
    union_of
    (half_flag w e 0 Low ∷ half_flag w e 0 High ∷ half_flag w e 1 Low ∷ half_flag w e 1 High
    ∷ half_flag w e 2 Low ∷ half_flag w e 2 High ∷ [])

abbrev pub lane_of : Core → Entry → (lane : ℕ) → ℕ
lane_of w e lane =
    lane_with (value_or_zero (half_of w e lane Low)) (value_or_zero (half_of w e lane High))

-- the lanes and their flags for an entry
abbrev pub presentation_of : Core → Entry → Presented
presentation_of w e = record {
  entry = e;
  rs_valid = flags_of w e;
  lanes = lane_of w e 0 ∷ lane_of w e 1 ∷ lane_of w e 2 ∷ [];
}

-- what it carries, with the word on the issue channel, and for one of these entries
abbrev pub present_in : Core → (offer : Option Entry) → List Entry → Option Presented
present_in w offer es =
    option_map (presentation_of w) (presented_entry w.params.split offer es)

-- ---- the commit channel (CV-X-IF 1.0.0, "Commit interface")

-- an entry, if it is one of these
abbrev pub among : List Entry → Entry → Option Entry
among es e = find (has_seq e.seq) es

-- The word that a kill names where these entries go: the oldest undecided use that had its issue
-- handshake, and without one the word on the issue channel, if it goes.
abbrev pub kill_among : (gone : List Entry) → (offer : Option Entry) → Option Entry
kill_among gone offer = option_or (find is_pending gone) (option_and_then (among gone) offer)

-- The word that a release names, where nothing is cut.
abbrev pub release_in : Option Cut → List Entry → Option Entry
release_in None es = certain es
release_in (Some cut) es = None

-- ---- all of them

abbrev pub no_choices : Choices
no_choices = record {
  stop = None;
  retire = None;
  execute = None;
  cut = None;
  drain = None;
  offer = None;
  present = None;
  kill = None;
  release = None;
  dispatch = false;
}

-- The oldest entry stops the machine: the uses in flight are killed, and nothing else is done.
abbrev pub choices_stopping : Core → StopCause → Choices
choices_stopping w cause = record no_choices {
  stop = Some cause;
  kill = find is_pending w.flight;
}

-- there is room, nothing in flight stops the machine, and nothing is cut
abbrev pub may_dispatch : Core → Option Cut → Bool
may_dispatch w cut =
    nat_lt (length w.flight) w.window && (not (list_any is_stopping w.flight) && is_none cut)

abbrev pub choices_with
    : Core → (retire : Option Entry) → (execute : Option Executed) → (cut : Option Cut) → Choices
choices_with w retire execute cut = record no_choices {
  retire = retire;
  execute = execute;
  cut = cut;
  offer = offer_in w.flight;
  present = present_in w (offer_in w.flight) w.flight;
  kill = kill_among (gone_by cut w.flight) (offer_in w.flight);
  release = release_in cut w.flight;
  dispatch = may_dispatch w cut;
}

-- A cut by a store comes before one by a control transfer, and then nothing executes.
abbrev pub choices_running : Core → Choices
choices_running w =
    let retire = retirement w.flight in
    let hit = store_cut retire (drop 1 w.flight) in
    let execute = if is_some hit then None else execution w w.flight in
    choices_with w retire execute (option_or hit (control_cut execute w.flight))

abbrev pub choices_by : Core → Option StopCause → Choices
choices_by w None = choices_running w
choices_by w (Some cause) = choices_stopping w cause

-- In a drain only the oldest entries, those that stay, retire, execute and are presented.
abbrev pub choices_draining : Core → (stay : ℕ) → Choices
choices_draining w stay = record no_choices {
  retire = retirement (take stay w.flight);
  execute = execution w (take stay w.flight);
  present = present_in w None (take stay w.flight);
}

-- A drain begins: the entries up to the youngest released use stay, and the others are dropped.
abbrev pub choices_drain_begins : Core → (stay : ℕ) → Choices
choices_drain_begins w stay = record (choices_draining w stay) {
  drain = Some stay;
  kill = find is_pending (drop stay w.flight);
}

abbrev pub stay_with : Option Entry → List Entry → ℕ
stay_with None es = 0
stay_with (Some e) es = count_through e.seq es

abbrev pub choices_in : Core → Mode → Choices
choices_in w Running = choices_by w (stop_at w.flight)
choices_in w DrainBegins = choices_drain_begins w (stay_with (youngest_released w.flight) w.flight)
choices_in w Draining = choices_draining w (length w.flight)

-- what the core does in a cycle
abbrev pub choices : Core → Choices
choices w = choices_in w w.mode
