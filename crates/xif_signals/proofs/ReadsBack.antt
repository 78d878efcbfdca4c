-- A sample of a bus reads as that bus.
use Rattle.std.proofs.Common.{◌≡◌, ◌+◌, ◌<◌, ◌≤◌, ◌==◌, ◌&&◌, ◌/◌, ◌%◌, ◌^◌, ℕ, Bool, true, false, cond, not, None, Ok, refl, ◌∙◌, ap, arith}
use Rattle.std.proofs.Math.Nat.{mod-eq_of_lt, zero-mod, pow-le-pow_right}
use Rattle.std.proofs.lemmas.Nat.{and_mask}
use Rattle.xif_base.specs.declared.params.Params.{Params}
use Rattle.xif_base.specs.Params.{IsInRange, IsPortWidth}
use Rattle.xif_signals.specs.declared.bus.Bus.{Bus}
use Rattle.xif_base.specs.Flags.{even_bit, odd_bit}
use Rattle.std.specs.Option.{option_map_or}
use Rattle.xif_signals.specs.declared.rule.Rule.TheVariants.{K1, K2}
use Rattle.xif_signals.specs.declared.rule.Channel.{Channel}
use Rattle.xif_signals.specs.declared.rule.Channel.TheVariants.{Issue, Register, Commit, Result as ResultChannel}
use Rattle.xif_signals.specs.declared.signal.Signal.{Signal}
use Rattle.xif_signals.specs.declared.signal.Signal.TheVariants.{Clk, RstN, IssueValid, IssueReady, IssueHartid, IssueId, IssueInstr, IssueAccept, IssueWriteback, IssueRegisterRead, RegisterValid, RegisterReady, RegisterHartid, RegisterId, RegisterRs0, RegisterRs1, RegisterRs2, RegisterRsValid, CommitValid, CommitHartid, CommitId, CommitKill, ResultValid, ResultReady, ResultHartid, ResultId, ResultData, ResultRd, ResultWe}
use Rattle.xif_signals.specs.Signal.{width_of}
use Rattle.xif_signals.specs.Quad.{known_quad, reading_of, value_of, is_one, unknown_of}
use Rattle.xif_signals.specs.Bus.{bit, sample_of, bus_of, FitsWidths}
use Rattle.xif_signals.specs.Channels.{first_failing_channel}
use Rattle.xif_signals.specs.Known.{when, has_flag, is_known, are_halves_known, is_issue_known, is_lane_known, is_register_known, is_commit_known, is_result_known, holds_k1, holds_k2, known_by, known_of}
use Rattle.xif_signals.proofs.Channels.{none_fails}

-- a number that fits reads as it is
pub reading : (n w : ℕ) → w ≤ 64 → n < 2 ^ w → reading_of (known_quad n) % 2 ^ w ≡ n
reading n w h lt =
    let wide : 2 ^ w ≤ 2 ^ 64 = pow-le-pow_right (omega arith) h in
    let small : n < 2 ^ 64 = omega (arith, lt, wide) in
    ap (λ m. m % 2 ^ w) (and_mask n 64) ∙ ap (λ m. m % 2 ^ w) (mod-eq_of_lt small) ∙ mod-eq_of_lt lt

pub bit_reading : (b : Bool) → (reading_of (known_quad (bit b)) % 2 ^ 1 == 1) ≡ b
bit_reading true = refl
bit_reading false = refl

port_width : (w : ℕ) → IsPortWidth w → w ≤ 64
port_width w h = grind arith

third : (b : Bool) (w : ℕ) → w ≤ 64 → cond b w 0 ≤ 64
third true w h = h
third false w h = omega arith

-- the fields of a bus as they stand in its sample
pub bus_of-sample_of : (b : Bus) (p : Params) → IsInRange p → FitsWidths p b → bus_of (sample_of b) p ≡ b
bus_of-sample_of b p r f = λ i. record {
  issue_valid = bit_reading b.issue_valid i;
  issue_ready = bit_reading b.issue_ready i;
  issue_hartid = reading b.issue_hartid p.hartid_width (omega (arith, r.hartid_width.1)) f.issue_hartid i;
  issue_id = reading b.issue_id p.id_width (omega (arith, r.id_width.1)) f.issue_id i;
  issue_instr = reading b.issue_instr 32 (omega arith) f.issue_instr i;
  issue_accept = bit_reading b.issue_accept i;
  issue_writeback = reading b.issue_writeback (width_of IssueWriteback p) (grind arith) f.issue_writeback i;
  issue_register_read = reading b.issue_register_read (p.num_rs + p.dual_read) (omega (arith, r.num_rs.1, r.dual_read)) f.issue_register_read i;
  register_valid = bit_reading b.register_valid i;
  register_ready = bit_reading b.register_ready i;
  register_hartid = reading b.register_hartid p.hartid_width (omega (arith, r.hartid_width.1)) f.register_hartid i;
  register_id = reading b.register_id p.id_width (omega (arith, r.id_width.1)) f.register_id i;
  register_rs0 = reading b.register_rs0 p.rfr_width (port_width p.rfr_width r.rfr_width) f.register_rs0 i;
  register_rs1 = reading b.register_rs1 p.rfr_width (port_width p.rfr_width r.rfr_width) f.register_rs1 i;
  register_rs2 = reading b.register_rs2 (width_of RegisterRs2 p) (third (p.num_rs == 3) p.rfr_width (port_width p.rfr_width r.rfr_width)) f.register_rs2 i;
  register_rs_valid = reading b.register_rs_valid (p.num_rs + p.dual_read) (omega (arith, r.num_rs.1, r.dual_read)) f.register_rs_valid i;
  commit_valid = bit_reading b.commit_valid i;
  commit_hartid = reading b.commit_hartid p.hartid_width (omega (arith, r.hartid_width.1)) f.commit_hartid i;
  commit_id = reading b.commit_id p.id_width (omega (arith, r.id_width.1)) f.commit_id i;
  commit_kill = bit_reading b.commit_kill i;
  result_valid = bit_reading b.result_valid i;
  result_ready = bit_reading b.result_ready i;
  result_hartid = reading b.result_hartid p.hartid_width (omega (arith, r.hartid_width.1)) f.result_hartid i;
  result_id = reading b.result_id p.id_width (omega (arith, r.id_width.1)) f.result_id i;
  result_data = reading b.result_data p.rfw_width (port_width p.rfw_width r.rfw_width) f.result_data i;
  result_rd = reading b.result_rd 5 (omega arith) f.result_rd i;
  result_we = reading b.result_we (width_of ResultWe p) (grind arith) f.result_we i;
}

-- in the sample of a bus no bit is unknown
pub no_unknown : (b : Bus) (p : Params) (s : Signal) → unknown_of (sample_of b) p s ≡ 0
no_unknown b p Clk = zero-mod 2
no_unknown b p RstN = zero-mod (2 ^ width_of RstN p)
no_unknown b p IssueValid = zero-mod (2 ^ width_of IssueValid p)
no_unknown b p IssueReady = zero-mod (2 ^ width_of IssueReady p)
no_unknown b p IssueHartid = zero-mod (2 ^ width_of IssueHartid p)
no_unknown b p IssueId = zero-mod (2 ^ width_of IssueId p)
no_unknown b p IssueInstr = zero-mod (2 ^ width_of IssueInstr p)
no_unknown b p IssueAccept = zero-mod (2 ^ width_of IssueAccept p)
no_unknown b p IssueWriteback = zero-mod (2 ^ width_of IssueWriteback p)
no_unknown b p IssueRegisterRead = zero-mod (2 ^ width_of IssueRegisterRead p)
no_unknown b p RegisterValid = zero-mod (2 ^ width_of RegisterValid p)
no_unknown b p RegisterReady = zero-mod (2 ^ width_of RegisterReady p)
no_unknown b p RegisterHartid = zero-mod (2 ^ width_of RegisterHartid p)
no_unknown b p RegisterId = zero-mod (2 ^ width_of RegisterId p)
no_unknown b p RegisterRs0 = zero-mod (2 ^ width_of RegisterRs0 p)
no_unknown b p RegisterRs1 = zero-mod (2 ^ width_of RegisterRs1 p)
no_unknown b p RegisterRs2 = zero-mod (2 ^ width_of RegisterRs2 p)
no_unknown b p RegisterRsValid = zero-mod (2 ^ width_of RegisterRsValid p)
no_unknown b p CommitValid = zero-mod (2 ^ width_of CommitValid p)
no_unknown b p CommitHartid = zero-mod (2 ^ width_of CommitHartid p)
no_unknown b p CommitId = zero-mod (2 ^ width_of CommitId p)
no_unknown b p CommitKill = zero-mod (2 ^ width_of CommitKill p)
no_unknown b p ResultValid = zero-mod (2 ^ width_of ResultValid p)
no_unknown b p ResultReady = zero-mod (2 ^ width_of ResultReady p)
no_unknown b p ResultHartid = zero-mod (2 ^ width_of ResultHartid p)
no_unknown b p ResultId = zero-mod (2 ^ width_of ResultId p)
no_unknown b p ResultData = zero-mod (2 ^ width_of ResultData p)
no_unknown b p ResultRd = zero-mod (2 ^ width_of ResultRd p)
no_unknown b p ResultWe = zero-mod (2 ^ width_of ResultWe p)

pub is_known-sample_of : (b : Bus) (p : Params) (s : Signal) → is_known (sample_of b) p s ≡ true
is_known-sample_of b p s = ap (λ n. n == 0) (no_unknown b p s)

-- what a channel asks holds where all that it names is known
issue : (v r a x1 x2 x3 x4 x5 x6 : Bool) → x1 ≡ true → x2 ≡ true → x3 ≡ true → x4 ≡ true → x5 ≡ true → x6 ≡ true → when v (x1 && x2 && x3 && when r (x4 && x5 && when a x6)) ≡ true
issue v r a x1 x2 x3 x4 x5 x6 k1 k2 k3 k4 k5 k6 = grind arith

register : (v n x1 x2 x3 x4 x5 x6 : Bool) → x1 ≡ true → x2 ≡ true → x3 ≡ true → x4 ≡ true → x5 ≡ true → x6 ≡ true → when v (x1 && x2 && x3 && x4 && x5 && when n x6) ≡ true
register v n x1 x2 x3 x4 x5 x6 k1 k2 k3 k4 k5 k6 = grind arith

commit : (v x1 x2 x3 : Bool) → x1 ≡ true → x2 ≡ true → x3 ≡ true → when v (x1 && x2 && x3) ≡ true
commit v x1 x2 x3 k1 k2 k3 = grind arith

outcome : (v w x1 x2 x3 x4 x5 : Bool) → x1 ≡ true → x2 ≡ true → x3 ≡ true → x4 ≡ true → x5 ≡ true → when v (x1 && x2 && x3 && when w (x4 && x5)) ≡ true
outcome v w x1 x2 x3 x4 x5 k1 k2 k3 k4 k5 = grind arith

halves : (u : ℕ) (even odd : Bool) → u ≡ 0 → (when even (u % 2 ^ 32 == 0) && when odd (u / 2 ^ 32 == 0)) ≡ true
halves u even odd z = grind arith

module _ (b : Bus) (p : Params) where
  known : (s : Signal) → is_known (sample_of b) p s ≡ true
  known s = is_known-sample_of b p s

  lane : (n : ℕ) (s : Signal) → is_lane_known (sample_of b) p n s ≡ true
  lane n s = halves (unknown_of (sample_of b) p s) (has_flag (value_of (sample_of b) p RegisterRsValid) (even_bit p n)) (option_map_or (has_flag (value_of (sample_of b) p RegisterRsValid)) (odd_bit p n) false) (no_unknown b p s)

  issue_known : is_issue_known (sample_of b) p ≡ true
  issue_known =
      let q = sample_of b in
      issue (is_one q p IssueValid) (is_one q p IssueReady) (is_one q p IssueAccept)
      (is_known q p IssueHartid) (is_known q p IssueId) (is_known q p IssueInstr) (is_known q p IssueAccept) (is_known q p IssueWriteback) (is_known q p IssueRegisterRead)
      (known IssueHartid) (known IssueId) (known IssueInstr) (known IssueAccept) (known IssueWriteback) (known IssueRegisterRead)

  register_known : is_register_known (sample_of b) p ≡ true
  register_known =
      let q = sample_of b in
      register (is_one q p RegisterValid) (p.num_rs == 3)
      (is_known q p RegisterHartid) (is_known q p RegisterId) (is_known q p RegisterRsValid) (is_lane_known q p 0 RegisterRs0) (is_lane_known q p 1 RegisterRs1) (is_lane_known q p 2 RegisterRs2)
      (known RegisterHartid) (known RegisterId) (known RegisterRsValid) (lane 0 RegisterRs0) (lane 1 RegisterRs1) (lane 2 RegisterRs2)

  commit_known : is_commit_known (sample_of b) p ≡ true
  commit_known =
      let q = sample_of b in
      commit (is_one q p CommitValid) (is_known q p CommitHartid) (is_known q p CommitId) (is_known q p CommitKill)
      (known CommitHartid) (known CommitId) (known CommitKill)

  result_known : is_result_known (sample_of b) p ≡ true
  result_known =
      let q = sample_of b in
      let we = value_of q p ResultWe in
      outcome (is_one q p ResultValid) (not (we == 0))
      (is_known q p ResultHartid) (is_known q p ResultId) (is_known q p ResultWe) (is_known q p ResultRd) (are_halves_known q p ResultData (has_flag we 0) (has_flag we 1))
      (known ResultHartid) (known ResultId) (known ResultWe) (known ResultRd)
      (halves (unknown_of q p ResultData) (has_flag we 0) (has_flag we 1) (no_unknown b p ResultData))

  handshake : (v : Bool) (x1 x2 : Bool) → x1 ≡ true → x2 ≡ true → (x1 && when v x2) ≡ true
  handshake v x1 x2 k1 k2 = grind arith

  k1 : (channel : Channel) → holds_k1 (sample_of b) p channel ≡ true
  k1 Issue =
      let q = sample_of b in
      handshake (is_one q p IssueValid) (is_known q p IssueValid) (is_known q p IssueReady) (known IssueValid) (known IssueReady)
  k1 Register =
      let q = sample_of b in
      handshake (is_one q p RegisterValid) (is_known q p RegisterValid) (is_known q p RegisterReady) (known RegisterValid) (known RegisterReady)
  k1 Commit = known CommitValid
  k1 ResultChannel =
      let q = sample_of b in
      handshake (is_one q p ResultValid) (is_known q p ResultValid) (is_known q p ResultReady) (known ResultValid) (known ResultReady)

  k2 : (channel : Channel) → holds_k2 (sample_of b) p channel ≡ true
  k2 Issue = issue_known
  k2 Register = register_known
  k2 Commit = commit_known
  k2 ResultChannel = result_known

  pub no_k1 : first_failing_channel (holds_k1 (sample_of b) p) ≡ None
  no_k1 = none_fails (holds_k1 (sample_of b) p) k1

  pub no_k2 : first_failing_channel (holds_k2 (sample_of b) p) ≡ None
  no_k2 = none_fails (holds_k2 (sample_of b) p) k2

-- the sample of a bus whose fields fit is known, as that bus
pub known_of-sample_of : (b : Bus) (p : Params) → IsInRange p → FitsWidths p b → known_of (sample_of b) p ≡ Ok b
known_of-sample_of b p r f =
    ap (λ first. known_by K1 first (known_by K2 (first_failing_channel (holds_k2 (sample_of b) p)) (Ok (bus_of (sample_of b) p)))) (no_k1 b p)
    ∙ ap (λ first. known_by K2 first (Ok (bus_of (sample_of b) p))) (no_k2 b p)
    ∙ ap (λ bus. Ok bus) (bus_of-sample_of b p r f)
