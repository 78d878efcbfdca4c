-- The bits below the widths fit the widths.
use Rattle.std.proofs.Common.{List}
use Rattle.xif_base.specs.declared.params.Params.{Params}
use Rattle.xif_signals.specs.declared.sample.Quad.{Quad}
use Rattle.xif_signals.specs.declared.signal.Signal.TheVariants.{IssueHartid, IssueId, IssueInstr, IssueWriteback, IssueRegisterRead, RegisterHartid, RegisterId, RegisterRs0, RegisterRs1, RegisterRs2, RegisterRsValid, CommitHartid, CommitId, ResultHartid, ResultId, ResultData, ResultRd, ResultWe}
use Rattle.xif_signals.specs.Signal.{width_of}
use Rattle.xif_signals.specs.Quad.{reading_of, quad_of}
use Rattle.xif_signals.specs.Bus.{bus_of, FitsWidths}
use Rattle.xif_signals.proofs.Bits.{low_lt}

pub fits-bus_of : (qs : List Quad) (p : Params) → FitsWidths p (bus_of qs p)
fits-bus_of qs p = record {
  issue_hartid = low_lt (reading_of (quad_of qs IssueHartid)) (width_of IssueHartid p);
  issue_id = low_lt (reading_of (quad_of qs IssueId)) (width_of IssueId p);
  issue_instr = low_lt (reading_of (quad_of qs IssueInstr)) (width_of IssueInstr p);
  issue_writeback = low_lt (reading_of (quad_of qs IssueWriteback)) (width_of IssueWriteback p);
  issue_register_read = low_lt (reading_of (quad_of qs IssueRegisterRead)) (width_of IssueRegisterRead p);
  register_hartid = low_lt (reading_of (quad_of qs RegisterHartid)) (width_of RegisterHartid p);
  register_id = low_lt (reading_of (quad_of qs RegisterId)) (width_of RegisterId p);
  register_rs0 = low_lt (reading_of (quad_of qs RegisterRs0)) (width_of RegisterRs0 p);
  register_rs1 = low_lt (reading_of (quad_of qs RegisterRs1)) (width_of RegisterRs1 p);
  register_rs2 = low_lt (reading_of (quad_of qs RegisterRs2)) (width_of RegisterRs2 p);
  register_rs_valid = low_lt (reading_of (quad_of qs RegisterRsValid)) (width_of RegisterRsValid p);
  commit_hartid = low_lt (reading_of (quad_of qs CommitHartid)) (width_of CommitHartid p);
  commit_id = low_lt (reading_of (quad_of qs CommitId)) (width_of CommitId p);
  result_hartid = low_lt (reading_of (quad_of qs ResultHartid)) (width_of ResultHartid p);
  result_id = low_lt (reading_of (quad_of qs ResultId)) (width_of ResultId p);
  result_data = low_lt (reading_of (quad_of qs ResultData)) (width_of ResultData p);
  result_rd = low_lt (reading_of (quad_of qs ResultRd)) (width_of ResultRd p);
  result_we = low_lt (reading_of (quad_of qs ResultWe)) (width_of ResultWe p);
}
