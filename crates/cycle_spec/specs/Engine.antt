-- The engine in a cycle: what the coprocessors drive, and their state after the cycle. It serves
-- any core that keeps the rules of its side.
use Rattle.std.specs.Prelude.{ℕ, ◌+◌, ◌==◌, ◌&&◌, ◌||◌, not, nat_le, Bool, true, false, if◌then◌else◌, Option, Some, None, is_some, is_none, List, [], ◌∷◌, ◌++◌, map, filter, find, slice_index_or}
use Rattle.std.specs.Option.{option_map, option_map_or}
use Rattle.std.specs.List.{list_any, last_or}
use Rattle.rv32_table.specs.Instr.{rd_field}
use Rattle.xif_base.specs.declared.params.Key.{Key}
use Rattle.xif_drive.specs.Scripts.{delay_of}
use Rattle.coproc_config.specs.declared.accept.Hit.{Hit}
use Rattle.coproc_config.specs.Set.{UnitTable}
use Rattle.coproc_config.specs.Accept.{hit_of}
use Rattle.coproc_config.specs.Apply.{Outcome, applied}
use Rattle.xif_signals.specs.declared.bus.CpuOut.{CpuOut}
use Rattle.xif_signals.specs.declared.bus.CopOut.{CopOut}
use Rattle.xif_signals.specs.declared.bus.CpuIn.{CpuIn}
use Rattle.xif_session.specs.declared.fact.Decision.TheVariants.{Undecided}
use Rattle.xif_session.specs.Facts.{same_key, is_undecided, is_released, is_killed, is_covered, decision_after}
use Rattle.xif_session.specs.Tests.{is_within}
use Rattle.cycle_spec.specs.declared.turn.Transaction.{Transaction}
use Rattle.cycle_spec.specs.declared.use_of.Use.{Use}
use Rattle.cycle_spec.specs.Turns.{turn_of, is_past, transactions_after}
use Rattle.cycle_spec.specs.State.{Engine}

-- ---- one use

abbrev pub has_key : Key → Use → Bool
has_key key u = same_key u.key key

abbrev pub has_start : (start : ℕ) → Use → Bool
has_start start u = u.start == start

abbrev pub is_accepted : Use → Bool
is_accepted u = is_some u.hit

-- the flags of the issue response; a refused word has none
abbrev pub writeback_of : Option Hit → ℕ
writeback_of hit = option_map_or (λ h. h.writeback.0) hit 0

abbrev pub register_read_of : Option Hit → ℕ
register_read_of hit = option_map_or (λ h. h.register_read.0) hit 0

-- the registers that it reads are here
abbrev pub has_operands : Use → Bool
has_operands u = u.given || (register_read_of u.hit == 0)

-- it is no longer speculative, and the registers that it reads are here
abbrev pub is_complete : Use → Bool
is_complete u = is_released u.decision && has_operands u

-- ---- the keys of the channels

abbrev pub issue_key : CpuOut → Key
issue_key cpu = record { hart = cpu.issue_hartid; id = cpu.issue_id }

abbrev pub register_key : CpuOut → Key
register_key cpu = record { hart = cpu.register_hartid; id = cpu.register_id }

abbrev pub commit_key : CpuOut → Key
commit_key cpu = record { hart = cpu.commit_hartid; id = cpu.commit_id }

-- the latest use of a key
abbrev pub latest : Key → List Use → Option Use
latest key us = last_or None (filter (has_key key) us)

-- ---- the start of a use

-- The issue transaction of the last cycle goes on: it waits for its handshake, its key is offered
-- again, and its use wasn't killed.
abbrev pub is_offered_on : Key → (start : ℕ) → Use → Bool
is_offered_on key start u = has_key key u && (has_start start u && not (is_killed u.decision))

abbrev pub goes_on_in : Option Transaction → Key → List Use → Bool
goes_on_in None key us = false
goes_on_in (Some t) key us = list_any (is_offered_on key t.owner) us

abbrev pub goes_on : Engine → CpuOut → Bool
goes_on e cpu = goes_on_in e.issue_turns.waiting (issue_key cpu) e.uses

-- else an offer starts a use
abbrev pub starts : Engine → CpuOut → Bool
starts e cpu = cpu.issue_valid && not (goes_on e cpu)

abbrev pub new_use : Key → (start word : ℕ) → Use
new_use key start word = record {
  key = key;
  start = start;
  word = word;
  hit = None;
  order = 0;
  given = false;
  lanes = 0 ∷ 0 ∷ 0 ∷ [];
  decision = Undecided;
  finished = false;
  ready = None;
  result = 0;
}

-- it takes the place of the older use of its key
abbrev pub with_start : Use → List Use → List Use
with_start u us = filter (λ other. not (has_key u.key other)) us ++ u ∷ []

abbrev pub start_step : (starts : Bool) → CpuOut → (cycle : ℕ) → List Use → List Use
start_step starts cpu cycle us =
    if starts then with_start (new_use (issue_key cpu) cycle cpu.issue_instr) us else us

-- the uses with the one that starts in this cycle, among which each channel names one
abbrev pub started_uses : Engine → CpuOut → List Use
started_uses e cpu = start_step (starts e cpu) cpu e.cycle e.uses

-- ---- the issue channel (CV-X-IF 1.0.0, "Issue interface")

-- the start of the latest use of a key; without one, this cycle stands for it
abbrev pub start_of : Key → List Use → (cycle : ℕ) → ℕ
start_of key us cycle = option_map_or (λ u. u.start) (latest key us) cycle

-- the use on the channel, by its start
abbrev pub issue_start : Engine → CpuOut → ℕ
issue_start e cpu = start_of (issue_key cpu) (started_uses e cpu) e.cycle

-- what the units answer to the word
abbrev pub offered_hit : Engine → CpuOut → Option Hit
offered_hit e cpu = hit_of e.set e.params cpu.issue_instr

-- without X_ISSUE_REGISTER_SPLIT a word that is accepted waits until its registers are here
abbrev pub may_answer : (split : Bool) → Option Hit → (rs_valid : ℕ) → Bool
may_answer split None rs_valid = true
may_answer split (Some hit) rs_valid = split || is_within hit.register_read.0 rs_valid

abbrev pub issue_ready : Engine → CpuOut → Bool
issue_ready e cpu =
    cpu.issue_valid
    && (is_past e.script.issue (turn_of e.issue_turns (issue_start e cpu))
    && may_answer e.params.split (offered_hit e cpu) cpu.register_rs_valid)

-- ---- the register channel (CV-X-IF 1.0.0, "Register interface")

-- the use that the channel names
abbrev pub register_use : Engine → CpuOut → Option Use
register_use e cpu = latest (register_key cpu) (started_uses e cpu)

abbrev pub register_start : Engine → CpuOut → ℕ
register_start e cpu = start_of (register_key cpu) (started_uses e cpu) e.cycle

-- A use that was accepted before this cycle, and not killed before it, takes its registers once all
-- that it reads are here.
abbrev pub may_take : Option Use → (rs_valid : ℕ) → Bool
may_take None rs_valid = false
may_take (Some u) rs_valid =
    is_accepted u
    && (not (is_killed u.decision) && is_within (register_read_of u.hit) rs_valid)

-- without X_ISSUE_REGISTER_SPLIT both handshakes are one
abbrev pub register_ready : Engine → CpuOut → Bool
register_ready e cpu =
    if e.params.split
    then cpu.register_valid
    && (is_past e.script.register (turn_of e.register_turns (register_start e cpu))
    && may_take (register_use e cpu) cpu.register_rs_valid)
    else issue_ready e cpu

-- ---- the result channel (CV-X-IF 1.0.0, "Result interface")

-- a ready use that isn't finished, once the delay has passed that begins behind its ready cycle
abbrev pub is_past_ready : (delay cycle : ℕ) → Option ℕ → Bool
is_past_ready delay cycle None = false
is_past_ready delay cycle (Some ready) = nat_le (ready + 1 + delay) cycle

abbrev pub is_due : (delays : List ℕ) → (cycle : ℕ) → Use → Bool
is_due delays cycle u =
    not u.finished && is_past_ready (delay_of delays u.order) cycle u.ready

abbrev pub offered_by : Option ℕ → (delays : List ℕ) → (cycle : ℕ) → List Use → Option Use
offered_by None delays cycle us = find (is_due delays cycle) us
offered_by (Some start) delays cycle us = find (has_start start) us

-- The use whose result is offered: the one that waits for its handshake, and else the oldest whose
-- result may be offered.
abbrev pub offered_use : Engine → Option Use
offered_use e = offered_by e.result_waiting e.script.result e.cycle e.uses

abbrev pub no_use : Use
no_use = new_use (record { hart = 0; id = 0 }) 0 0

abbrev pub use_or : Option Use → Use
use_or found = option_map_or (λ u. u) found no_use

-- ---- what the coprocessors drive

abbrev pub cop_out
    : (issue_ready : Bool) → Option Hit → (register_ready : Bool) → Option Use → CopOut
cop_out issue_ready hit register_ready offered =
    let u = use_or offered in
    record {
      issue_ready = issue_ready;
      issue_accept = is_some hit;
      issue_writeback = writeback_of hit;
      issue_register_read = register_read_of hit;
      register_ready = register_ready;
      result_valid = is_some offered;
      result_hartid = u.key.hart;
      result_id = u.key.id;
      result_data = u.result;
      result_rd = if writeback_of u.hit == 0 then 0 else rd_field u.word;
      result_we = writeback_of u.hit;
    }

-- the issue response is given at the handshake
abbrev pub response_hit : Engine → CpuOut → Option Hit
response_hit e cpu = if issue_ready e cpu then offered_hit e cpu else None

abbrev pub engine_drive : Engine → CpuOut → CopOut
engine_drive e cpu =
    cop_out (issue_ready e cpu) (response_hit e cpu) (register_ready e cpu) (offered_use e)

-- ---- the steps on the uses behind the start, in their order

-- at the issue handshake the use is answered; those that are accepted are numbered
abbrev pub with_answer : (start : ℕ) → Option Hit → (order : ℕ) → Use → Use
with_answer start hit order u = record u {
  hit = if has_start start u then hit else u.hit;
  order = if has_start start u then order else u.order;
}

abbrev pub answer_step
    : (start : ℕ) → Option Hit → (order : ℕ) → CpuOut → CopOut → List Use → List Use
answer_step start hit order cpu cop us =
    if cpu.issue_valid && cop.issue_ready then map (with_answer start hit order) us else us

-- at the register handshake the use has its registers
abbrev pub lanes_on : CpuOut → List ℕ
lanes_on cpu = cpu.register_rs0 ∷ cpu.register_rs1 ∷ cpu.register_rs2 ∷ []

abbrev pub with_operands : (start : ℕ) → (lanes : List ℕ) → Use → Use
with_operands start lanes u = record u {
  given = u.given || has_start start u;
  lanes = if has_start start u then lanes else u.lanes;
}

abbrev pub given_to : Option Use → (lanes : List ℕ) → List Use → List Use
given_to None lanes us = us
given_to (Some u) lanes us = map (with_operands u.start lanes) us

abbrev pub given_step : CpuOut → CopOut → List Use → List Use
given_step cpu cop us =
    if cpu.register_valid && cop.register_ready
    then given_to (latest (register_key cpu) us) (lanes_on cpu) us
    else us

-- A commit decides the undecided uses of a hart: a kill the named one and those that started later,
-- a release the named one and those that started earlier (CV-X-IF 1.0.0, "Commit interface").
abbrev pub is_in_group : (kill : Bool) → Use → Use → Bool
is_in_group kill named u =
    (u.key.hart == named.key.hart) && is_covered kill named.start u.start

abbrev pub with_decision : (kill : Bool) → (named : Use) → Use → Use
with_decision kill named u = record u {
  decision = decision_after (is_in_group kill named u) kill u.decision;
}

-- it is effective where the use that it names is undecided
abbrev pub decided_by : (kill : Bool) → Option Use → List Use → List Use
decided_by kill None us = us
decided_by kill (Some named) us =
    if is_undecided named.decision then map (with_decision kill named) us else us

abbrev pub decide_step : CpuOut → List Use → List Use
decide_step cpu us =
    if cpu.commit_valid then decided_by cpu.commit_kill (latest (commit_key cpu) us) us else us

-- at the result handshake the use is finished
abbrev pub with_end : (start : ℕ) → Use → Use
with_end start u = record u { finished = u.finished || has_start start u }

abbrev pub ended : Option Use → List Use → List Use
ended None us = us
ended (Some u) us = map (with_end u.start) us

abbrev pub end_step : Option Use → CopOut → CpuIn → List Use → List Use
end_step offered cop input us =
    if cop.result_valid && input.result_ready then ended offered us else us

-- ---- the units: the uses of a hart are applied in the order of their issue handshakes

abbrev pub outcome_by : List UnitTable → Option Hit → List (List ℕ) → (lanes : List ℕ) → Outcome
outcome_by set None state lanes = record { result = 0; state = state }
outcome_by set (Some hit) state lanes = applied set hit state lanes

-- what the entry that takes a use makes of the accumulators and of the halves that it reads
abbrev pub outcome_of : List UnitTable → List (List ℕ) → Use → Outcome
outcome_of set state u = outcome_by set u.hit state u.lanes

-- it is an accepted use of a hart, neither killed nor ready; each other use is passed over
abbrev pub is_next : (hart : ℕ) → Use → Bool
is_next hart u =
    (u.key.hart == hart) && (is_accepted u && (not (is_killed u.decision) && is_none u.ready))

-- it is ready with this cycle, and has its result
abbrev pub with_ready : (cycle result : ℕ) → Use → Use
with_ready cycle result u = record u { ready = Some cycle; result = result }

-- the uses, of which those of a hart are ready now that are complete, up to the first that isn't
abbrev pub ready_uses
    : List UnitTable → (cycle hart : ℕ) → List (List ℕ) → List Use → List Use
ready_uses set cycle hart state [] = []
ready_uses set cycle hart state (u ∷ us) =
    if not (is_next hart u) then u ∷ ready_uses set cycle hart state us
    else if is_complete u
    then with_ready cycle (outcome_of set state u).result u
    ∷ ready_uses set cycle hart (outcome_of set state u).state us
    else u ∷ us

-- the accumulators after the uses of a hart that pass a test, up to the first that doesn't
abbrev pub units_behind
    : List UnitTable → (Use → Bool) → (hart : ℕ) → List (List ℕ) → List Use → List (List ℕ)
units_behind set test hart state [] = state
units_behind set test hart state (u ∷ us) =
    if not (is_next hart u) then units_behind set test hart state us
    else if test u then units_behind set test hart (outcome_of set state u).state us
    else state

-- the same for each hart from one on, by its accumulators
abbrev pub ready_in_harts
    : List UnitTable → (cycle hart : ℕ) → List (List (List ℕ)) → List Use → List Use
ready_in_harts set cycle hart [] us = us
ready_in_harts set cycle hart (state ∷ states) us =
    ready_in_harts set cycle (hart + 1) states (ready_uses set cycle hart state us)

abbrev pub units_in_harts
    : List UnitTable → (hart : ℕ) → List (List (List ℕ)) → List Use → List (List (List ℕ))
units_in_harts set hart [] us = []
units_in_harts set hart (state ∷ states) us =
    units_behind set is_complete hart state us ∷ units_in_harts set (hart + 1) states us

-- the accumulators of a hart after its ready uses
abbrev pub units_of : Engine → (hart : ℕ) → List (List ℕ)
units_of e hart = slice_index_or e.units hart []

-- The accumulators ahead of the releases: also after the uses that have what they read, in order,
-- up to the first that hasn't.
abbrev pub units_ahead : Engine → (hart : ℕ) → List (List ℕ)
units_ahead e hart = units_behind e.set has_operands hart (units_of e hart) e.uses

-- ---- the uses after each step

abbrev pub answered_uses : Engine → CpuOut → CopOut → List Use
answered_uses e cpu cop =
    answer_step (issue_start e cpu) (offered_hit e cpu) e.accepted cpu cop
    (started_uses e cpu)

abbrev pub given_uses : Engine → CpuOut → CopOut → List Use
given_uses e cpu cop = given_step cpu cop (answered_uses e cpu cop)

abbrev pub decided_uses : Engine → CpuOut → CopOut → List Use
decided_uses e cpu cop = decide_step cpu (given_uses e cpu cop)

abbrev pub ended_uses : Engine → CpuOut → CopOut → CpuIn → List Use
ended_uses e cpu cop input = end_step (offered_use e) cop input (decided_uses e cpu cop)

abbrev pub settled_uses : Engine → CpuOut → CopOut → CpuIn → List Use
settled_uses e cpu cop input =
    ready_in_harts e.set e.cycle 0 e.units (ended_uses e cpu cop input)

-- ---- the engine after a cycle

abbrev pub owner_if : (valid : Bool) → (start : ℕ) → Option ℕ
owner_if valid start = if valid then Some start else None

-- a result waits for its handshake
abbrev pub result_waiting_after : Option Use → CpuIn → Option ℕ
result_waiting_after offered input =
    if input.result_ready then None else option_map (λ u. u.start) offered

abbrev pub accepted_after : (accepted : ℕ) → CpuOut → CopOut → ℕ
accepted_after accepted cpu cop =
    if cpu.issue_valid && (cop.issue_ready && cop.issue_accept) then accepted + 1 else accepted

abbrev pub engine_clock : Engine → CpuOut → CopOut → CpuIn → Engine
engine_clock e cpu cop input = record e {
  cycle = e.cycle + 1;
  uses = settled_uses e cpu cop input;
  accepted = accepted_after e.accepted cpu cop;
  units = units_in_harts e.set 0 e.units (ended_uses e cpu cop input);
  issue_turns =
      transactions_after e.issue_turns (owner_if cpu.issue_valid (issue_start e cpu))
      cop.issue_ready;
  register_turns =
      transactions_after e.register_turns (owner_if cpu.register_valid (register_start e cpu))
      cop.register_ready;
  result_waiting = result_waiting_after (offered_use e) input;
}
