-- The rules, each of what came before a cycle (`Past`) and of the bus in it. Sections are those of
-- CV-X-IF 1.0.0. What the standard leaves to a profile is this project's own (docs/DECISIONS.md).
use Rattle.std.specs.Prelude.{◌≡◌, ◌<◌, ◌≤◌, ◌/◌, ◌%◌, ◌^◌, ◌==◌, ℕ, Bool, true, false, if◌then◌else◌, Option, Some, None, is_some, IsTrue, IsSomeAnd, IfSome}
use Rattle.rv32_table.specs.Instr.{rd_field, source_field}
use Rattle.xif_base.specs.declared.params.Params.{Params}
use Rattle.xif_base.specs.declared.flags.ReadFlags.{ReadFlags}
use Rattle.xif_base.specs.Flags.{even_bit, odd_bit}
use Rattle.xif_signals.specs.declared.bus.Bus.{Bus}
use Rattle.xif_signals.specs.declared.rule.Channel.{Channel}
use Rattle.xif_signals.specs.declared.rule.Channel.TheVariants.{Issue, Register, Commit, Result as ResultChannel}
use Rattle.xif_signals.specs.Channels.{valid_of, key_of}
use Rattle.xif_signals.specs.Known.{has_flag}
use Rattle.xif_session.specs.declared.fact.Response.{Response}
use Rattle.xif_session.specs.declared.fact.Fact.{Fact}
use Rattle.xif_session.specs.Facts.{Past, Facts, issue_key, register_key, commit_key, result_key, is_issued, is_given, result_waits, is_accepted, is_killed, is_released, is_in_flight, is_pending, issue_continues, is_start, register_continues, named, effective_start, now}

-- ---- flags and halves

-- each flag of one set is in the other
abbrev pub IsWithin : (read flags : ℕ) → Type 0
IsWithin read flags = (bit : ℕ) → IsTrue (has_flag read bit) → IsTrue (has_flag flags bit)

abbrev pub lane_value : Bus → ℕ → ℕ
lane_value b lane =
    if lane == 0 then b.register_rs0 else if lane == 1 then b.register_rs1 else b.register_rs2

abbrev pub low_half : ℕ → ℕ
low_half value = value % 2 ^ 32

abbrev pub high_half : ℕ → ℕ
high_half value = value / 2 ^ 32

-- ---- "Identification"

-- H1: under a valid of 1 the hartid is that of a hart.
abbrev pub HasHart : Params → Bus → Channel → Type 0
HasHart params b channel = IsTrue (valid_of b channel) → (key_of b channel).hart < params.num_harts

abbrev pub HoldsH1 : Params → Bus → Type 0
HoldsH1 params b = (channel : Channel) → HasHart params b channel

-- ---- "Issue interface"

-- I1: while the issue transaction continues, the instruction is stable.
abbrev pub HoldsI1 : Past → Bus → Type 0
HoldsI1 p b = IsTrue (issue_continues p b) → b.issue_instr ≡ p.last.issue_instr

-- I2: a use starts only under a key of which no use is in flight.
abbrev pub HoldsI2 : Params → Past → Bus → Type 0
HoldsI2 params p b =
    IsTrue (is_start p b) → is_in_flight params.profile (p.facts (issue_key b)) ≡ false

-- I3: what is refused writes nothing.
abbrev pub HoldsI3 : Bus → Type 0
HoldsI3 b = IsTrue (is_issued b) → b.issue_accept ≡ false → b.issue_writeback ≡ 0

-- I4: a pair is written only with X_DUALWRITE, and at an even rd.
pub record MayWritePair (params : Params) (instr : ℕ) : Type 0 where
  pub dual_write : IsTrue params.dual_write
  pub even : rd_field instr % 2 ≡ 0

abbrev pub HoldsI4 : Params → Bus → Type 0
HoldsI4 params b =
    IsTrue (is_issued b) → IsTrue b.issue_accept → IsTrue (has_flag b.issue_writeback 1)
    → MayWritePair params b.issue_instr

-- I5: the high half of a lane is read only at an even register.
abbrev pub HoldsI5 : Params → Bus → Type 0
HoldsI5 params b =
    IsTrue (is_issued b) → IsTrue b.issue_accept → (lane bit : ℕ) → lane < params.num_rs
    → odd_bit params lane ≡ Some bit → IsTrue (has_flag b.issue_register_read bit)
    → source_field b.issue_instr lane % 2 ≡ 0

-- ---- "Register interface"

-- G1: without split the register channel mirrors the issue channel. Valid and key are the core's
-- part, ready is the coprocessor's.
pub record HoldsG1Core (params : Params) (b : Bus) : Type 0 where
  pub valid : params.split ≡ false → b.register_valid ≡ b.issue_valid
  pub key : params.split ≡ false → IsTrue b.issue_valid → register_key b ≡ issue_key b

abbrev pub HoldsG1Engine : Params → Bus → Type 0
HoldsG1Engine params b =
    params.split ≡ false → IsTrue b.issue_valid → IsTrue b.register_valid
    → b.register_ready ≡ b.issue_ready

pub record HoldsG1 (params : Params) (b : Bus) : Type 0 where
  pub core : HoldsG1Core params b
  pub engine : HoldsG1Engine params b

-- G2: registers are for a use that there is, and that hasn't got them yet.
abbrev pub HoldsG2 : Past → Bus → Type 0
HoldsG2 p b =
    IsTrue b.register_valid → IsSomeAnd (named p b (register_key b)) (λ fact. fact.operands ≡ None)

-- G3: while the register transaction continues, no flag of rs_valid falls.
abbrev pub HoldsG3 : Past → Bus → Type 0
HoldsG3 p b =
    IsTrue (register_continues p b) → IsWithin p.last.register_rs_valid b.register_rs_valid

-- G4: and each half that was valid is stable.
pub record SameHalves (params : Params) (flags : ℕ) (before after : Bus) (lane : ℕ) : Type 0 where
  pub low : IsTrue (has_flag flags (even_bit params lane))
      → low_half (lane_value after lane) ≡ low_half (lane_value before lane)
  pub high : (bit : ℕ) → odd_bit params lane ≡ Some bit → IsTrue (has_flag flags bit)
      → high_half (lane_value after lane) ≡ high_half (lane_value before lane)

abbrev pub HoldsG4 : Params → Past → Bus → Type 0
HoldsG4 params p b =
    IsTrue (register_continues p b) → (lane : ℕ) → lane < params.num_rs
    → SameHalves params p.last.register_rs_valid p.last b lane

-- G5: an accepted use that got its registers got the halves that it reads.
abbrev pub HasOperands : Option Response → Option ReadFlags → Type 0
HasOperands response None = Unit {0}
HasOperands None (Some flags) = Unit {0}
HasOperands (Some response) (Some flags) =
    IsTrue response.accept → IsWithin response.register_read.0 flags.0

-- It is asked of the use that is answered in the cycle, and of the one that gets its registers.
abbrev pub HoldsG5Issue : Past → Bus → Type 0
HoldsG5Issue p b =
    IsTrue (is_issued b) → IfSome (now p b (issue_key b))
    (λ fact. HasOperands fact.response fact.operands)

abbrev pub HoldsG5Register : Past → Bus → Type 0
HoldsG5Register p b =
    IsTrue (is_given b) → IfSome (now p b (register_key b))
    (λ fact. HasOperands fact.response fact.operands)

pub record HoldsG5 (p : Past) (b : Bus) : Type 0 where
  pub issue : HoldsG5Issue p b
  pub register : HoldsG5Register p b

-- ---- "Commit interface"

-- C1: a commit names a use that there is.
abbrev pub HoldsC1 : Past → Bus → Type 0
HoldsC1 p b = IsTrue b.commit_valid → IsTrue (is_some (named p b (commit_key b)))

-- C2: what was killed isn't released.
abbrev pub HoldsC2 : Past → Bus → Type 0
HoldsC2 p b =
    IsTrue b.commit_valid → b.commit_kill ≡ false
    → IfSome (named p b (commit_key b)) (λ fact. is_killed fact.decision ≡ false)

-- No use of a hart that started before the named one was answered and is undecided. An id has
-- X_ID_WIDTH bits.
abbrev pub NoneBefore : Params → Facts → (hart start : ℕ) → Type 0
NoneBefore params facts hart start =
    (id : ℕ) (fact : Fact) → id < 2 ^ params.id_width
    → facts (record { hart = hart; id = id }) ≡ Some fact
    → IsTrue (is_pending (Some fact)) → start ≤ fact.start

-- C3: what was released isn't killed. In profile 2 effective kills come in issue order.
pub record HoldsC3 (params : Params) (p : Past) (b : Bus) : Type 0 where
  pub unreleased : IsTrue b.commit_valid → IsTrue b.commit_kill
      → IfSome (named p b (commit_key b)) (λ fact. is_released fact.decision ≡ false)
  pub in_order : params.profile ≡ 2 → IsTrue b.commit_kill → (start : ℕ)
      → effective_start p b ≡ Some start
      → NoneBefore params (named p b) b.commit_hartid start

-- ---- "Result interface"

-- R1: a result that waits isn't retracted.
abbrev pub HoldsR1 : Past → Bus → Type 0
HoldsR1 p b = IsTrue (result_waits p.last) → IsTrue b.result_valid

-- R2: and it is stable, in what its flags name.
pub record SameResult (before after : Bus) : Type 0 where
  pub key : result_key after ≡ result_key before
  pub we : after.result_we ≡ before.result_we
  pub rd : (after.result_we == 0) ≡ false → after.result_rd ≡ before.result_rd
  pub low : IsTrue (has_flag after.result_we 0)
      → low_half after.result_data ≡ low_half before.result_data
  pub high : IsTrue (has_flag after.result_we 1)
      → high_half after.result_data ≡ high_half before.result_data

abbrev pub HoldsR2 : Past → Bus → Type 0
HoldsR2 p b = IsTrue (result_waits p.last) → SameResult p.last b

-- R3: a result is for a use that was accepted and released by this cycle, and has given none
-- before.
pub record MayFinish (fact : Fact) : Type 0 where
  pub accepted : IsTrue (is_accepted fact.response)
  pub released : IsTrue (is_released fact.decision)
  pub unfinished : fact.finished ≡ false

abbrev pub HoldsR3 : Past → Bus → Type 0
HoldsR3 p b = IsTrue b.result_valid → IsSomeAnd (now p b (result_key b)) MayFinish

abbrev pub read_of : Option Response → ℕ
read_of None = 0
read_of (Some response) = response.register_read.0

abbrev pub writeback_of : Option Response → ℕ
writeback_of None = 0
writeback_of (Some response) = response.writeback.0

-- R4: a use that reads registers has got them.
abbrev pub HoldsR4 : Past → Bus → Type 0
HoldsR4 p b =
    IsTrue b.result_valid → IfSome (now p b (result_key b)) (λ fact.
    (read_of fact.response == 0) ≡ false → IsTrue (is_some fact.operands))

-- R5: a result writes what the response said.
abbrev pub HoldsR5 : Past → Bus → Type 0
HoldsR5 p b =
    IsTrue b.result_valid
    → IfSome (now p b (result_key b)) (λ fact. b.result_we ≡ writeback_of fact.response)

-- R6: it writes the register that the instruction names.
abbrev pub HoldsR6 : Past → Bus → Type 0
HoldsR6 p b =
    IsTrue b.result_valid → (b.result_we == 0) ≡ false
    → IfSome (now p b (result_key b)) (λ fact. b.result_rd ≡ rd_field fact.instr)
