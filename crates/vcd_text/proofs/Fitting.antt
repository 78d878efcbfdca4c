-- The signals of the table, and that each one's value fits its width.
use Rattle.std.proofs.Common.{◌≡◌, ◌<◌, ◌^◌, ℕ, zero, suc, Bool, true, false, List, [], ◌∷◌, length, get_or, subst, ap, sym, arith, lit<, take, drop}
use Rattle.std.specs.List.{AllByRecursion}
use Rattle.xif_base.specs.declared.params.Params.{Params}
use Rattle.xif_signals.specs.declared.bus.Bus.{Bus}
use Rattle.xif_signals.specs.declared.sample.Quad.{Quad}
use Rattle.xif_signals.specs.declared.signal.Signal.{Signal}
use Rattle.xif_signals.specs.declared.signal.Signal.TheVariants.{Clk, RstN, IssueValid, IssueReady, IssueHartid, IssueId, IssueInstr, IssueAccept, IssueWriteback, IssueRegisterRead, RegisterValid, RegisterReady, RegisterHartid, RegisterId, RegisterRs0, RegisterRs1, RegisterRs2, RegisterRsValid, CommitValid, CommitHartid, CommitId, CommitKill, ResultValid, ResultReady, ResultHartid, ResultId, ResultData, ResultRd, ResultWe}
use Rattle.xif_signals.specs.Bus.{bit, sample_of, FitsWidths}
use Rattle.xif_signals.specs.Signal.{signals, width_of}
use Rattle.vcd_text.specs.Written.{wires, wires_of, data_wires_of, value_in}
use Rattle.vcd_text.specs.Writing.{Fits}

bit_fits : (b : Bool) → bit b < 2 ^ 1
bit_fits true = lit< tt
bit_fits false = lit< tt

pub bus_fits : (p : Params) (b : Bus) → FitsWidths p b → Fits p (sample_of b)
bus_fits p b f Clk = lit< tt
bus_fits p b f RstN = lit< tt
bus_fits p b f IssueValid = bit_fits b.issue_valid
bus_fits p b f IssueReady = bit_fits b.issue_ready
bus_fits p b f IssueHartid = f.issue_hartid
bus_fits p b f IssueId = f.issue_id
bus_fits p b f IssueInstr = f.issue_instr
bus_fits p b f IssueAccept = bit_fits b.issue_accept
bus_fits p b f IssueWriteback = f.issue_writeback
bus_fits p b f IssueRegisterRead = f.issue_register_read
bus_fits p b f RegisterValid = bit_fits b.register_valid
bus_fits p b f RegisterReady = bit_fits b.register_ready
bus_fits p b f RegisterHartid = f.register_hartid
bus_fits p b f RegisterId = f.register_id
bus_fits p b f RegisterRs0 = f.register_rs0
bus_fits p b f RegisterRs1 = f.register_rs1
bus_fits p b f RegisterRs2 = f.register_rs2
bus_fits p b f RegisterRsValid = f.register_rs_valid
bus_fits p b f CommitValid = bit_fits b.commit_valid
bus_fits p b f CommitHartid = f.commit_hartid
bus_fits p b f CommitId = f.commit_id
bus_fits p b f CommitKill = bit_fits b.commit_kill
bus_fits p b f ResultValid = bit_fits b.result_valid
bus_fits p b f ResultReady = bit_fits b.result_ready
bus_fits p b f ResultHartid = f.result_hartid
bus_fits p b f ResultId = f.result_id
bus_fits p b f ResultData = f.result_data
bus_fits p b f ResultRd = f.result_rd
bus_fits p b f ResultWe = f.result_we

pub sample_fits : (p : Params) (b : Bus) (q : List Quad) → q ≡ sample_of b → FitsWidths p b → Fits p q
sample_fits p b q e f = subst (Fits p) (sym e) (bus_fits p b f)

pub value_fits : (p : Params) (q : List Quad) (s : Signal) (v w : ℕ) → Fits p q → v ≡ value_in q s → w ≡ width_of s p → v < 2 ^ w
value_fits p q s v w f e k = subst (λ n. v < 2 ^ n) (sym k) (subst (λ n. n < 2 ^ width_of s p) (sym e) (f s))

-- what holds of each holds of one
pub each_at : (P : Signal → Type 0) (ss : List Signal) (i : ℕ) (d : Signal) → AllByRecursion P ss → i < length ss → P (get_or ss i d)
each_at P [] i d h l = absurd (omega arith)
each_at P (s ∷ ss) zero d h l = h.0
each_at P (s ∷ ss) (suc i) d h l = each_at P ss i d h.1 (omega arith)

-- ---- the signals that are there

pub all_wires : (p : Params) (ss : List Signal) → ss ≡ signals → wires p ss ≡ wires_of p
unfolding wires_of
all_wires p ss e = ap (wires p) e

pub all_data_wires : (p : Params) (ss : List Signal) → ss ≡ signals → wires p (take 28 (drop 1 ss)) ≡ data_wires_of p
unfolding data_wires_of
all_data_wires p ss e = ap (λ (x : List Signal). wires p (take 28 (drop 1 x))) e
