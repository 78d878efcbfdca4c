-- The bus of two sides that fit their signals fits them.
use Rattle.std.proofs.Common.{◌<◌, ◌^◌, ℕ, Bool, true, false, arith}
use Rattle.std.proofs.lemmas.Nat.{pow_pos}
use Rattle.xif_base.specs.declared.params.Params.{Params}
use Rattle.xif_base.specs.Params.{IsInRange}
use Rattle.xif_signals.specs.declared.bus.CpuOut.{CpuOut}
use Rattle.xif_signals.specs.declared.bus.CopOut.{CopOut}
use Rattle.xif_signals.specs.declared.bus.CpuIn.{CpuIn}
use Rattle.xif_signals.specs.Bus.{join_of, FitsWidths}
use Rattle.cycle_spec.specs.Cycle.{for_hart, hart_if}
use Rattle.coproc_engine.specs.Drives.{FitsCopOut}
use Rattle.spec_core.specs.Drives.{FitsCpuOut}

hart-fits : (p : Params) (hart : ℕ) (valid : Bool) → IsInRange p → hart < p.num_harts → hart_if valid hart < 2 ^ p.hartid_width
hart-fits p hart true r h = omega (arith, h, r.hartids)
hart-fits p hart false r h = pow_pos p.hartid_width

pub bus-fits : (p : Params) (hart : ℕ) (cpu : CpuOut) (cop : CopOut) (input : CpuIn) → IsInRange p → hart < p.num_harts → FitsCpuOut p cpu → FitsCopOut p cop → FitsWidths p (join_of (for_hart hart cpu) cop input)
bus-fits p hart cpu cop input r h c e = record {
  issue_hartid = hart-fits p hart cpu.issue_valid r h;
  issue_id = c.issue_id;
  issue_instr = c.issue_instr;
  issue_writeback = e.issue_writeback;
  issue_register_read = e.issue_register_read;
  register_hartid = hart-fits p hart cpu.register_valid r h;
  register_id = c.register_id;
  register_rs0 = c.register_rs0;
  register_rs1 = c.register_rs1;
  register_rs2 = c.register_rs2;
  register_rs_valid = c.register_rs_valid;
  commit_hartid = hart-fits p hart cpu.commit_valid r h;
  commit_id = c.commit_id;
  result_hartid = e.result_hartid;
  result_id = e.result_id;
  result_data = e.result_data;
  result_rd = e.result_rd;
  result_we = e.result_we;
}
