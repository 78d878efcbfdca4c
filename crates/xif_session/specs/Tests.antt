-- The rules as tests, and the first fault of a cycle. Internal: the contracts of the judge's code
-- cite these tests, and `rule_law` says that each is its rule; what has to be believed here is
-- `fault_of`, the channel and the key that are reported of a rule that fails.
use Rattle.std.specs.Prelude.{◌≡◌, ◌==◌, ◌&&◌, ◌||◌, ◌%◌, ◌^◌, ◌++◌, not, nat_lt, nat_le, ℕ, zero, suc, Bool, true, false, if◌then◌else◌, Option, Some, None, is_some, is_none, List, [], ◌∷◌, find, bit_and, Result, Ok, Err}
use Rattle.std.specs.Option.{option_map, option_map_or}
use Rattle.rv32_table.specs.Instr.{rd_field, source_field}
use Rattle.xif_base.specs.declared.params.Key.{Key}
use Rattle.xif_base.specs.declared.params.Params.{Params}
use Rattle.xif_base.specs.declared.flags.ReadFlags.{ReadFlags}
use Rattle.xif_base.specs.Flags.{even_bit, odd_bit}
use Rattle.xif_signals.specs.declared.bus.Bus.{Bus}
use Rattle.xif_signals.specs.declared.rule.Channel.{Channel}
use Rattle.xif_signals.specs.declared.rule.Channel.TheVariants.{Issue, Register, Commit, Result as ResultChannel}
use Rattle.xif_signals.specs.declared.rule.Rule.{Rule}
use Rattle.xif_signals.specs.declared.rule.Rule.TheVariants.{K1, K2, H1, I1, I2, I3, I4, I5, G1, G2, G3, G4, G5, C1, C2, C3, R1, R2, R3, R4, R5, R6}
use Rattle.xif_signals.specs.Channels.{first_failing_channel, valid_of, key_of}
use Rattle.xif_signals.specs.Known.{when, has_flag}
use Rattle.xif_session.specs.declared.fact.Response.{Response}
use Rattle.xif_session.specs.declared.fact.Fact.{Fact}
use Rattle.xif_session.specs.declared.fault.Fault.{Fault}
use Rattle.xif_session.specs.Facts.{Past, Facts, same_key, issue_key, register_key, commit_key, result_key, is_issued, is_given, result_waits, is_accepted, is_killed, is_released, is_in_flight, is_pending, issue_continues, is_start, register_continues, named, effective_start, now}
use Rattle.xif_session.specs.Legal.{Holds, IsBefore}
use Rattle.xif_session.specs.Rules.{lane_value, low_half, high_half, read_of, writeback_of}

abbrev pub same_bit : Bool → Bool → Bool
same_bit a b = if a then b else not b

-- of the latest use, if there is one; and that there is one
abbrev pub if_use : (Fact → Bool) → Option Fact → Bool
if_use test None = true
if_use test (Some fact) = test fact

abbrev pub is_use : (Fact → Bool) → Option Fact → Bool
is_use test None = false
is_use test (Some fact) = test fact

-- of each of the X_NUM_RS lanes
abbrev pub each_lane : Params → (ℕ → Bool) → Bool
each_lane params test = test 0 && (test 1 && when (params.num_rs == 3) (test 2))

abbrev pub is_within : (read flags : ℕ) → Bool
is_within read flags = bit_and flags read == read

-- the flag of a lane's high half, where the lane has one
abbrev pub has_odd_flag : Params → (flags lane : ℕ) → Bool
has_odd_flag params flags lane = option_map_or (has_flag flags) (odd_bit params lane) false

-- ---- the tests

abbrev pub has_hart : Params → Bus → Channel → Bool
has_hart params b channel =
    when (valid_of b channel) (nat_lt (key_of b channel).hart params.num_harts)

-- the first channel whose hartid is that of no hart
abbrev pub lost_channel : Params → Bus → Option Channel
lost_channel params b = first_failing_channel (has_hart params b)

abbrev pub keeps_I1 : Past → Bus → Bool
keeps_I1 p b = when (issue_continues p b) (b.issue_instr == p.last.issue_instr)

abbrev pub keeps_I2 : Params → Past → Bus → Bool
keeps_I2 params p b =
    when (is_start p b) (not (is_in_flight params.profile (p.facts (issue_key b))))

abbrev pub keeps_I3 : Bus → Bool
keeps_I3 b = when (is_issued b && not b.issue_accept) (b.issue_writeback == 0)

abbrev pub keeps_I4 : Params → Bus → Bool
keeps_I4 params b =
    when (is_issued b && (b.issue_accept && has_flag b.issue_writeback 1))
    (params.dual_write && (rd_field b.issue_instr % 2 == 0))

abbrev pub keeps_I5 : Params → Bus → Bool
keeps_I5 params b =
    when (is_issued b && b.issue_accept)
    (each_lane params (λ lane.
    when (has_odd_flag params b.issue_register_read lane)
    (source_field b.issue_instr lane % 2 == 0)))

abbrev pub keeps_G1 : Params → Bus → Bool
keeps_G1 params b =
    when (not params.split)
    (same_bit b.register_valid b.issue_valid
    && when b.issue_valid (same_bit b.register_ready b.issue_ready
    && same_key (register_key b) (issue_key b)))

abbrev pub keeps_G2 : Past → Bus → Bool
keeps_G2 p b =
    when b.register_valid (is_use (λ fact. is_none fact.operands) (named p b (register_key b)))

abbrev pub keeps_G3 : Past → Bus → Bool
keeps_G3 p b =
    when (register_continues p b) (is_within p.last.register_rs_valid b.register_rs_valid)

abbrev pub same_halves : Params → ℕ → Bus → Bus → ℕ → Bool
same_halves params flags before after lane =
    when (has_flag flags (even_bit params lane))
    (low_half (lane_value after lane) == low_half (lane_value before lane))
    && when (has_odd_flag params flags lane)
    (high_half (lane_value after lane) == high_half (lane_value before lane))

abbrev pub keeps_G4 : Params → Past → Bus → Bool
keeps_G4 params p b =
    when (register_continues p b)
    (each_lane params (same_halves params p.last.register_rs_valid p.last b))

abbrev pub has_operands : Option Response → Option ReadFlags → Bool
has_operands response None = true
has_operands None (Some flags) = true
has_operands (Some response) (Some flags) =
    when response.accept (is_within response.register_read.0 flags.0)

abbrev pub keeps_G5_issue : Past → Bus → Bool
keeps_G5_issue p b =
    when (is_issued b) (if_use
    (λ fact. has_operands fact.response fact.operands) (now p b (issue_key b)))

abbrev pub keeps_G5_register : Past → Bus → Bool
keeps_G5_register p b =
    when (is_given b) (if_use
    (λ fact. has_operands fact.response fact.operands) (now p b (register_key b)))

abbrev pub keeps_C1 : Past → Bus → Bool
keeps_C1 p b = when b.commit_valid (is_some (named p b (commit_key b)))

abbrev pub keeps_C2 : Past → Bus → Bool
keeps_C2 p b =
    when (b.commit_valid && not b.commit_kill)
    (if_use (λ fact. not (is_killed fact.decision)) (named p b (commit_key b)))

-- of the ids below a bound: no use that started before a start was answered and is undecided
abbrev pub none_before : Facts → (hart start bound : ℕ) → Bool
none_before facts hart start zero = true
none_before facts hart start (suc id) =
    if_use (λ fact. when (is_pending (Some fact)) (nat_le start fact.start))
    (facts (record { hart = hart; id = id }))
    && none_before facts hart start id

abbrev pub is_in_order : Params → Past → Bus → Bool
is_in_order params p b =
    option_map_or
    (λ start. none_before (named p b) b.commit_hartid start (2 ^ params.id_width))
    (effective_start p b) true

abbrev pub keeps_C3 : Params → Past → Bus → Bool
keeps_C3 params p b =
    when (b.commit_valid && b.commit_kill)
    (if_use (λ fact. not (is_released fact.decision)) (named p b (commit_key b)))
    && when ((params.profile == 2) && b.commit_kill) (is_in_order params p b)

abbrev pub keeps_R1 : Past → Bus → Bool
keeps_R1 p b = when (result_waits p.last) b.result_valid

abbrev pub is_same_result : (before after : Bus) → Bool
is_same_result before after =
    (same_key (result_key after) (result_key before) && (after.result_we == before.result_we))
    && (when (not (after.result_we == 0)) (after.result_rd == before.result_rd)
    && (when (has_flag after.result_we 0)
    (low_half after.result_data == low_half before.result_data)
    && when (has_flag after.result_we 1)
    (high_half after.result_data == high_half before.result_data)))

abbrev pub keeps_R2 : Past → Bus → Bool
keeps_R2 p b = when (result_waits p.last) (is_same_result p.last b)

abbrev pub may_finish : Fact → Bool
may_finish fact = is_accepted fact.response && (is_released fact.decision && not fact.finished)

abbrev pub keeps_R3 : Past → Bus → Bool
keeps_R3 p b = when b.result_valid (is_use may_finish (now p b (result_key b)))

abbrev pub keeps_R4 : Past → Bus → Bool
keeps_R4 p b =
    when b.result_valid
    (if_use (λ fact. when (not (read_of fact.response == 0)) (is_some fact.operands))
    (now p b (result_key b)))

abbrev pub keeps_R5 : Past → Bus → Bool
keeps_R5 p b =
    when b.result_valid (if_use
    (λ fact. b.result_we == writeback_of fact.response) (now p b (result_key b)))

abbrev pub keeps_R6 : Past → Bus → Bool
keeps_R6 p b =
    when (b.result_valid && not (b.result_we == 0))
    (if_use (λ fact. b.result_rd == rd_field fact.instr) (now p b (result_key b)))

-- a rule by its name
abbrev pub keeps : Params → Rule → Past → Bus → Bool
keeps params K1 p b = true
keeps params K2 p b = true
keeps params H1 p b = is_none (lost_channel params b)
keeps params I1 p b = keeps_I1 p b
keeps params I2 p b = keeps_I2 params p b
keeps params I3 p b = keeps_I3 b
keeps params I4 p b = keeps_I4 params b
keeps params I5 p b = keeps_I5 params b
keeps params G1 p b = keeps_G1 params b
keeps params G2 p b = keeps_G2 p b
keeps params G3 p b = keeps_G3 p b
keeps params G4 p b = keeps_G4 params p b
keeps params G5 p b = keeps_G5_issue p b && keeps_G5_register p b
keeps params C1 p b = keeps_C1 p b
keeps params C2 p b = keeps_C2 p b
keeps params C3 p b = keeps_C3 params p b
keeps params R1 p b = keeps_R1 p b
keeps params R2 p b = keeps_R2 p b
keeps params R3 p b = keeps_R3 p b
keeps params R4 p b = keeps_R4 p b
keeps params R5 p b = keeps_R5 p b
keeps params R6 p b = keeps_R6 p b

-- ---- what is reported of a rule that fails

abbrev pub fault_on : Rule → Channel → Bus → Fault
fault_on rule channel b = record { rule = rule; channel = channel; key = key_of b channel }

-- on the register channel, with the key of the issue channel or its own
abbrev pub fault_by_key : Rule → Bool → Bus → Fault
fault_by_key rule by_issue b = record {
  rule = rule;
  channel = Register;
  key = if by_issue then issue_key b else register_key b;
}

-- The channel and the key of a rule that fails. H1 reports the first channel where it fails. G1
-- reports the issue key where there is one. G5 reports the issue key where the use that is answered
-- breaks it, whether another one does too or not. R1 reports the key of the result that was
-- retracted.
abbrev pub fault_of : Params → Rule → Past → Bus → Fault
fault_of params K1 p b = fault_on K1 Issue b
fault_of params K2 p b = fault_on K2 Issue b
fault_of params H1 p b =
    option_map_or (λ channel. fault_on H1 channel b) (lost_channel params b) (fault_on H1 Issue b)
fault_of params I1 p b = fault_on I1 Issue b
fault_of params I2 p b = fault_on I2 Issue b
fault_of params I3 p b = fault_on I3 Issue b
fault_of params I4 p b = fault_on I4 Issue b
fault_of params I5 p b = fault_on I5 Issue b
fault_of params G1 p b = fault_by_key G1 b.issue_valid b
fault_of params G2 p b = fault_on G2 Register b
fault_of params G3 p b = fault_on G3 Register b
fault_of params G4 p b = fault_on G4 Register b
fault_of params G5 p b = fault_by_key G5 (not (keeps_G5_issue p b)) b
fault_of params C1 p b = fault_on C1 Commit b
fault_of params C2 p b = fault_on C2 Commit b
fault_of params C3 p b = fault_on C3 Commit b
fault_of params R1 p b = fault_on R1 ResultChannel p.last
fault_of params R2 p b = fault_on R2 ResultChannel b
fault_of params R3 p b = fault_on R3 ResultChannel b
fault_of params R4 p b = fault_on R4 ResultChannel b
fault_of params R5 p b = fault_on R5 ResultChannel b
fault_of params R6 p b = fault_on R6 ResultChannel b

-- the fault of the first rule of a list that fails
abbrev pub first_fault_in : List Rule → Params → Past → Bus → Option Fault
first_fault_in rules params p b =
    option_map (λ rule. fault_of params rule p b) (find (λ rule. not (keeps params rule p b)) rules)

abbrev pub issue_rules : List Rule
issue_rules = I1 ∷ I2 ∷ I3 ∷ I4 ∷ I5 ∷ []

abbrev pub register_rules : List Rule
register_rules = G1 ∷ G2 ∷ G3 ∷ G4 ∷ G5 ∷ []

abbrev pub commit_rules : List Rule
commit_rules = C1 ∷ C2 ∷ C3 ∷ []

abbrev pub result_rules : List Rule
result_rules = R1 ∷ R2 ∷ R3 ∷ R4 ∷ R5 ∷ R6 ∷ []

-- the rules of a bus, in the order in which they are judged
abbrev pub bus_rules : List Rule
bus_rules = H1 ∷ (issue_rules ++ (register_rules ++ (commit_rules ++ result_rules)))

-- the first fault of a cycle
abbrev pub bus_fault : Params → Past → Bus → Option Fault
bus_fault params p b = first_fault_in bus_rules params p b

-- what a side of the judge returns by the first fault of its rules
abbrev pub answer_of : Option Fault → Result Unit Fault
answer_of None = Ok tt
answer_of (Some fault) = Err fault

-- A fault is the first one of a cycle: its rule fails, every rule before it holds, and its channel
-- and key are those of its rule.
pub record IsFirstFault (params : Params) (p : Past) (b : Bus) (fault : Fault) : Type 0 where
  pub fails : ¬ Holds params fault.rule p b
  pub earlier : (rule : Rule) → IsBefore rule fault.rule → Holds params rule p b
  pub place : fault ≡ fault_of params fault.rule p b
