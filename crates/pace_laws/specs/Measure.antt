-- A measure of the state of core and engine: how many cycles there may be, at most, until the oldest
-- instruction in flight retires or stops the machine. It is 0 where that instruction is done or
-- stops.
use Rattle.std.specs.Prelude.{ℕ, ◌+◌, ◌-◌, ◌*◌, ◌==◌, ◌||◌, Bool, if◌then◌else◌, Option, Some, None, List, [], ◌∷◌}
use Rattle.xif_base.specs.declared.params.Key.{Key}
use Rattle.xif_drive.specs.Scripts.{delay_of}
use Rattle.xif_signals.specs.declared.bus.CpuOut.{CpuOut}
use Rattle.xif_session.specs.declared.fact.Response.{Response}
use Rattle.cycle_spec.specs.declared.entry.Entry.{Entry}
use Rattle.cycle_spec.specs.declared.entry.EntryKind.{EntryKind}
use Rattle.cycle_spec.specs.declared.entry.EntryKind.TheVariants.{Local, Unknown, Nowhere}
use Rattle.cycle_spec.specs.declared.turn.Turn.{Turn}
use Rattle.cycle_spec.specs.declared.use_of.Use.{Use}
use Rattle.cycle_spec.specs.Flight.{is_stopping, is_waiting}
use Rattle.cycle_spec.specs.Turns.{turn_of}
use Rattle.cycle_spec.specs.Choices.{no_choices}
use Rattle.cycle_spec.specs.Core.{cpu_out, result_owner}
use Rattle.cycle_spec.specs.Engine.{issue_start, latest, start_of}
use Rattle.cycle_spec.specs.Cycle.{Machines}

-- ---- the transactions of the oldest instruction

-- the cycles that are left of a transaction's delay
abbrev pub rest : (delays : List ℕ) → Turn → ℕ
rest delays t = delay_of delays t.number - t.age

-- the key of an instruction's use, which is of hart 0
abbrev pub key_of : Entry → Key
key_of e = record { hart = 0; id = e.id }

-- the start of its use
abbrev pub start_in : Machines → Entry → ℕ
start_in m e = start_of (key_of e) m.engine.uses m.engine.cycle

-- what the core drives where it offers the word
abbrev pub offer_of : Entry → CpuOut
offer_of e = cpu_out (record no_choices { offer = Some e })

abbrev pub issue_turn : Machines → Entry → Turn
issue_turn m e = turn_of m.engine.issue_turns (issue_start m.engine (offer_of e))

-- the register transaction, for the core and for the engine
abbrev pub operand_turn : Machines → (seq : ℕ) → Turn
operand_turn m seq = turn_of m.core.register_turns seq

abbrev pub register_turn : Machines → (start : ℕ) → Turn
register_turn m start = turn_of m.engine.register_turns start

abbrev pub take_turn : Machines → Turn
take_turn m = turn_of m.core.result_turns result_owner

-- ---- the result; d is the greatest delay of the script

-- Another result is offered: it is taken, and this one comes next if it may be offered by then.
abbrev pub other_rest : (d left wait : ℕ) → ℕ
other_rest d left wait = if wait == 0 then left + (d + 2) else wait + (2 * d + 2)

-- by the use whose result is offered, if there is one
abbrev pub offer_rest : (d left start : ℕ) → (waiting : Option ℕ) → (wait : ℕ) → ℕ
offer_rest d left start None wait = if wait == 0 then d + 1 else wait + (2 * d + 2)
offer_rest d left start (Some other) wait =
    if other == start then left + 1 else other_rest d left wait

-- the cycles until a result may be offered
abbrev pub wait_of : (ready delay cycle : ℕ) → ℕ
wait_of ready delay cycle = ready + 1 + delay - cycle

abbrev pub ready_rest : Machines → (d : ℕ) → Use → (ready : Option ℕ) → ℕ
ready_rest m d u None = 3 * d + 3
ready_rest m d u (Some ready) =
    offer_rest d (rest m.core.script.take (take_turn m)) u.start m.engine.result_waiting
    (wait_of ready (delay_of m.engine.script.result u.order) m.engine.cycle)

abbrev pub result_rest : Machines → (d : ℕ) → Option Use → ℕ
result_rest m d None = 3 * d + 3
result_rest m d (Some u) = ready_rest m d u u.ready

-- ---- the operands, the release, the offer

abbrev pub operand_rest : Machines → Entry → (start : ℕ) → ℕ
operand_rest m e start =
    if is_waiting e
    then rest m.core.script.operand (operand_turn m e.seq)
    + rest m.engine.script.register (register_turn m start)
    + 1
    else 0

-- an accepted word is released in the next cycle
abbrev pub release_rest : Entry → ℕ
release_rest e = if e.released then 0 else 1

-- without X_ISSUE_REGISTER_SPLIT the registers are sent in the same transaction
abbrev pub joint_rest : Machines → Entry → ℕ
joint_rest m e =
    if m.core.params.split then 0 else rest m.core.script.operand (operand_turn m e.seq)

abbrev pub issue_rest : Machines → Entry → ℕ
issue_rest m e = rest m.engine.script.issue (issue_turn m e) + joint_rest m e + 1

-- ---- the oldest instruction

abbrev pub word_rest : Machines → (d : ℕ) → Entry → Option Response → ℕ
word_rest m d e None = issue_rest m e + (5 * d + 5)
word_rest m d e (Some response) =
    operand_rest m e (start_in m e) + release_rest e
    + result_rest m d (latest (key_of e) m.engine.uses)

abbrev pub kind_rest : Machines → (d : ℕ) → Entry → EntryKind → ℕ
kind_rest m d e (Local i) = 1
kind_rest m d e Unknown = word_rest m d e e.response
kind_rest m d e Nowhere = 1

abbrev pub is_over : Entry → Bool
is_over e = e.done || is_stopping e

-- where nothing is in flight, an instruction is dispatched first
abbrev pub oldest_rest : Machines → (d : ℕ) → List Entry → ℕ
oldest_rest m d [] = 7 * d + 7
oldest_rest m d (e ∷ es) = if is_over e then 0 else kind_rest m d e e.kind

abbrev pub measure : (d : ℕ) → Machines → ℕ
measure d m = oldest_rest m d m.core.flight
