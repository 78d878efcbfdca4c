-- The rules K1 and K2: which bits of a sample have to be known, channel by channel, and the bus of
-- a sample in which they are.
use Rattle.std.specs.Prelude.{◌==◌, ◌&&◌, ◌/◌, ◌%◌, ◌^◌, ℕ, Bool, true, false, not, if◌then◌else◌, List, Option, Some, None, Result, Ok, Err}
use Rattle.std.specs.Int.{bit_at}
use Rattle.std.specs.Option.{option_map_or}
use Rattle.xif_base.specs.declared.params.Params.{Params}
use Rattle.xif_base.specs.Flags.{even_bit, odd_bit}
use Rattle.xif_signals.specs.declared.sample.Quad.{Quad}
use Rattle.xif_signals.specs.declared.bus.Bus.{Bus}
use Rattle.xif_signals.specs.declared.rule.Rule.{Rule}
use Rattle.xif_signals.specs.declared.rule.Rule.TheVariants.{K1, K2}
use Rattle.xif_signals.specs.declared.rule.Channel.{Channel}
use Rattle.xif_signals.specs.declared.rule.Channel.TheVariants.{Issue, Register, Commit, Result as ResultChannel}
use Rattle.xif_signals.specs.declared.rule.Unknown.{Unknown}
use Rattle.xif_signals.specs.declared.signal.Signal.{Signal}
use Rattle.xif_signals.specs.declared.signal.Signal.TheVariants.{IssueValid, IssueReady, IssueHartid, IssueId, IssueInstr, IssueAccept, IssueWriteback, IssueRegisterRead, RegisterValid, RegisterReady, RegisterHartid, RegisterId, RegisterRs0, RegisterRs1, RegisterRs2, RegisterRsValid, CommitValid, CommitHartid, CommitId, CommitKill, ResultValid, ResultReady, ResultHartid, ResultId, ResultData, ResultRd, ResultWe}
use Rattle.xif_signals.specs.Quad.{value_of, is_one, unknown_of}
use Rattle.xif_signals.specs.Bus.{bus_of}
use Rattle.xif_signals.specs.Channels.{first_failing_channel}

-- b holds where a does
abbrev pub when : Bool → Bool → Bool
when a b = if a then b else true

-- all bits of a signal are known
abbrev pub is_known : List Quad → Params → Signal → Bool
is_known qs p s = unknown_of qs p s == 0

-- a bit of the flags is 1
abbrev pub has_flag : ℕ → ℕ → Bool
has_flag flags bit = bit_at flags bit == 1

-- the low half of a signal is known where its even flag is 1, and the high half where its odd flag
-- is 1
abbrev pub are_halves_known : List Quad → Params → Signal → Bool → Bool → Bool
are_halves_known qs p s even odd =
    when even (unknown_of qs p s % 2 ^ 32 == 0) && when odd (unknown_of qs p s / 2 ^ 32 == 0)

-- valid is known, and ready where valid is 1 (CV-X-IF 1.0.0, "Handshake rules")
abbrev pub is_handshake_known : List Quad → Params → Signal → Signal → Bool
is_handshake_known qs p valid ready =
    is_known qs p valid && when (is_one qs p valid) (is_known qs p ready)

-- the request where issue_valid is 1, the response at the handshake, register_read where it accepts
-- (CV-X-IF 1.0.0, "Issue interface")
abbrev pub is_issue_known : List Quad → Params → Bool
is_issue_known qs p = when (is_one qs p IssueValid) (
    is_known qs p IssueHartid && is_known qs p IssueId && is_known qs p IssueInstr
    && when (is_one qs p IssueReady) (
    is_known qs p IssueAccept && is_known qs p IssueWriteback
    && when (is_one qs p IssueAccept) (is_known qs p IssueRegisterRead)))

-- the halves of a lane whose flag is 1 (CV-X-IF 1.0.0, "Register interface")
abbrev pub is_lane_known : List Quad → Params → ℕ → Signal → Bool
is_lane_known qs p lane s =
    are_halves_known qs p s (has_flag (value_of qs p RegisterRsValid) (even_bit p lane))
    (option_map_or (has_flag (value_of qs p RegisterRsValid)) (odd_bit p lane) false)

-- the key and the flags where register_valid is 1, and of each of the X_NUM_RS lanes the halves
-- whose flag is 1 (CV-X-IF 1.0.0, "Register interface")
abbrev pub is_register_known : List Quad → Params → Bool
is_register_known qs p = when (is_one qs p RegisterValid) (
    is_known qs p RegisterHartid && is_known qs p RegisterId && is_known qs p RegisterRsValid
    && is_lane_known qs p 0 RegisterRs0 && is_lane_known qs p 1 RegisterRs1
    && when (p.num_rs == 3) (is_lane_known qs p 2 RegisterRs2))

-- all of the request where commit_valid is 1 (CV-X-IF 1.0.0, "Commit interface")
abbrev pub is_commit_known : List Quad → Params → Bool
is_commit_known qs p = when (is_one qs p CommitValid) (
    is_known qs p CommitHartid && is_known qs p CommitId && is_known qs p CommitKill)

-- the key and the flags where result_valid is 1; rd where a flag is 1, and the halves whose flag is
-- 1 (CV-X-IF 1.0.0, "Result interface")
abbrev pub is_result_known : List Quad → Params → Bool
is_result_known qs p = when (is_one qs p ResultValid) (
    is_known qs p ResultHartid && is_known qs p ResultId && is_known qs p ResultWe
    && when (not (value_of qs p ResultWe == 0)) (
    is_known qs p ResultRd
    && are_halves_known qs p ResultData
    (has_flag (value_of qs p ResultWe) 0) (has_flag (value_of qs p ResultWe) 1)))

-- K1 holds at a channel: its valid is known, and its ready where valid is 1 (CV-X-IF 1.0.0,
-- "Handshake rules"). The commit channel has no ready.
abbrev pub holds_k1 : List Quad → Params → Channel → Bool
holds_k1 qs p Issue = is_handshake_known qs p IssueValid IssueReady
holds_k1 qs p Register = is_handshake_known qs p RegisterValid RegisterReady
holds_k1 qs p Commit = is_known qs p CommitValid
holds_k1 qs p ResultChannel = is_handshake_known qs p ResultValid ResultReady

-- K2 holds at a channel: what it carries is known where valid is 1.
abbrev pub holds_k2 : List Quad → Params → Channel → Bool
holds_k2 qs p Issue = is_issue_known qs p
holds_k2 qs p Register = is_register_known qs p
holds_k2 qs p Commit = is_commit_known qs p
holds_k2 qs p ResultChannel = is_result_known qs p

-- the fault of a rule at the channel where it fails first, else what the later rules say
abbrev pub known_by : Rule → Option Channel → Result Bus Unknown → Result Bus Unknown
known_by rule None others = others
known_by rule (Some channel) others = Err (record { rule = rule; channel = channel })

-- the first of K1 and K2 that fails, else the bus
abbrev pub known_of : List Quad → Params → Result Bus Unknown
known_of qs p =
    known_by K1 (first_failing_channel (holds_k1 qs p))
    (known_by K2 (first_failing_channel (holds_k2 qs p)) (Ok (bus_of qs p)))
