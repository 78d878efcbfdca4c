-- Who drives which signal (CV-X-IF 1.0.0, "Issue interface", "Register interface", "Commit
-- interface", "Result interface"), and the sample of a bus.
use Rattle.std.specs.Prelude.{◌<◌, ◌^◌, ℕ, Bool, if◌then◌else◌, List, [], ◌∷◌, map}
use Rattle.xif_base.specs.declared.params.Params.{Params}
use Rattle.xif_signals.specs.declared.bus.CpuOut.{CpuOut}
use Rattle.xif_signals.specs.declared.bus.CopOut.{CopOut}
use Rattle.xif_signals.specs.declared.bus.CpuIn.{CpuIn}
use Rattle.xif_signals.specs.declared.bus.Bus.{Bus}
use Rattle.xif_signals.specs.declared.sample.Quad.{Quad}
use Rattle.xif_signals.specs.declared.signal.Signal.TheVariants.{IssueValid, IssueReady, IssueHartid, IssueId, IssueInstr, IssueAccept, IssueWriteback, IssueRegisterRead, RegisterValid, RegisterReady, RegisterHartid, RegisterId, RegisterRs0, RegisterRs1, RegisterRs2, RegisterRsValid, CommitValid, CommitHartid, CommitId, CommitKill, ResultValid, ResultReady, ResultHartid, ResultId, ResultData, ResultRd, ResultWe}
use Rattle.xif_signals.specs.Signal.{width_of}
use Rattle.xif_signals.specs.Quad.{known_quad, value_of, is_one}

-- each field is that of the side that drives it
abbrev pub join_of : CpuOut → CopOut → CpuIn → Bus
join_of cpu cop input = record {
  issue_valid = cpu.issue_valid;
  issue_ready = cop.issue_ready;
  issue_hartid = cpu.issue_hartid;
  issue_id = cpu.issue_id;
  issue_instr = cpu.issue_instr;
  issue_accept = cop.issue_accept;
  issue_writeback = cop.issue_writeback;
  issue_register_read = cop.issue_register_read;
  register_valid = cpu.register_valid;
  register_ready = cop.register_ready;
  register_hartid = cpu.register_hartid;
  register_id = cpu.register_id;
  register_rs0 = cpu.register_rs0;
  register_rs1 = cpu.register_rs1;
  register_rs2 = cpu.register_rs2;
  register_rs_valid = cpu.register_rs_valid;
  commit_valid = cpu.commit_valid;
  commit_hartid = cpu.commit_hartid;
  commit_id = cpu.commit_id;
  commit_kill = cpu.commit_kill;
  result_valid = cop.result_valid;
  result_ready = input.result_ready;
  result_hartid = cop.result_hartid;
  result_id = cop.result_id;
  result_data = cop.result_data;
  result_rd = cop.result_rd;
  result_we = cop.result_we;
}

-- the number of a field of one bit
abbrev pub bit : Bool → ℕ
bit b = if b then 1 else 0

-- the values of the signals but for the clock, in the order of the table, with rst_n 1
abbrev pub values_of : Bus → List ℕ
values_of b =
    1 ∷ bit b.issue_valid ∷ bit b.issue_ready ∷ b.issue_hartid ∷ b.issue_id ∷ b.issue_instr
    ∷ bit b.issue_accept ∷ b.issue_writeback ∷ b.issue_register_read ∷ bit b.register_valid
    ∷ bit b.register_ready ∷ b.register_hartid ∷ b.register_id ∷ b.register_rs0 ∷ b.register_rs1
    ∷ b.register_rs2 ∷ b.register_rs_valid ∷ bit b.commit_valid ∷ b.commit_hartid ∷ b.commit_id
    ∷ bit b.commit_kill ∷ bit b.result_valid ∷ bit b.result_ready ∷ b.result_hartid
    ∷ b.result_id ∷ b.result_data ∷ b.result_rd ∷ b.result_we ∷ []

-- the sample of a bus: its values, all bits of them known
abbrev pub sample_of : Bus → List Quad
sample_of b = map known_quad (values_of b)

-- Each field is below 2 to the width of its signal, so it is 0 where the width is 0 (CV-X-IF 1.0.0,
-- "Parameters"). A field that is a `bool` always fits the one bit of its signal.
pub record FitsWidths (p : Params) (b : Bus) : Type 0 where
  pub issue_hartid : b.issue_hartid < 2 ^ width_of IssueHartid p
  pub issue_id : b.issue_id < 2 ^ width_of IssueId p
  pub issue_instr : b.issue_instr < 2 ^ width_of IssueInstr p
  pub issue_writeback : b.issue_writeback < 2 ^ width_of IssueWriteback p
  pub issue_register_read : b.issue_register_read < 2 ^ width_of IssueRegisterRead p
  pub register_hartid : b.register_hartid < 2 ^ width_of RegisterHartid p
  pub register_id : b.register_id < 2 ^ width_of RegisterId p
  pub register_rs0 : b.register_rs0 < 2 ^ width_of RegisterRs0 p
  pub register_rs1 : b.register_rs1 < 2 ^ width_of RegisterRs1 p
  pub register_rs2 : b.register_rs2 < 2 ^ width_of RegisterRs2 p
  pub register_rs_valid : b.register_rs_valid < 2 ^ width_of RegisterRsValid p
  pub commit_hartid : b.commit_hartid < 2 ^ width_of CommitHartid p
  pub commit_id : b.commit_id < 2 ^ width_of CommitId p
  pub result_hartid : b.result_hartid < 2 ^ width_of ResultHartid p
  pub result_id : b.result_id < 2 ^ width_of ResultId p
  pub result_data : b.result_data < 2 ^ width_of ResultData p
  pub result_rd : b.result_rd < 2 ^ width_of ResultRd p
  pub result_we : b.result_we < 2 ^ width_of ResultWe p

-- both sides and the bus of a sample: the bits below the widths, an unknown bit as 0
abbrev pub cpu_out_of : List Quad → Params → CpuOut
cpu_out_of qs p = record {
  issue_valid = is_one qs p IssueValid;
  issue_hartid = value_of qs p IssueHartid;
  issue_id = value_of qs p IssueId;
  issue_instr = value_of qs p IssueInstr;
  register_valid = is_one qs p RegisterValid;
  register_hartid = value_of qs p RegisterHartid;
  register_id = value_of qs p RegisterId;
  register_rs0 = value_of qs p RegisterRs0;
  register_rs1 = value_of qs p RegisterRs1;
  register_rs2 = value_of qs p RegisterRs2;
  register_rs_valid = value_of qs p RegisterRsValid;
  commit_valid = is_one qs p CommitValid;
  commit_hartid = value_of qs p CommitHartid;
  commit_id = value_of qs p CommitId;
  commit_kill = is_one qs p CommitKill;
}

abbrev pub cop_out_of : List Quad → Params → CopOut
cop_out_of qs p = record {
  issue_ready = is_one qs p IssueReady;
  issue_accept = is_one qs p IssueAccept;
  issue_writeback = value_of qs p IssueWriteback;
  issue_register_read = value_of qs p IssueRegisterRead;
  register_ready = is_one qs p RegisterReady;
  result_valid = is_one qs p ResultValid;
  result_hartid = value_of qs p ResultHartid;
  result_id = value_of qs p ResultId;
  result_data = value_of qs p ResultData;
  result_rd = value_of qs p ResultRd;
  result_we = value_of qs p ResultWe;
}

abbrev pub cpu_in_of : List Quad → Params → CpuIn
cpu_in_of qs p = record { result_ready = is_one qs p ResultReady }

abbrev pub bus_of : List Quad → Params → Bus
bus_of qs p = join_of (cpu_out_of qs p) (cop_out_of qs p) (cpu_in_of qs p)
