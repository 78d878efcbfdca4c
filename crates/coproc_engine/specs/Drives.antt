-- What the coprocessors drive fits its signals.
use Rattle.std.specs.Prelude.{◌<◌, ◌^◌}
use Rattle.xif_base.specs.declared.params.Params.{Params}
use Rattle.xif_signals.specs.declared.signal.Signal.TheVariants.{IssueWriteback, IssueRegisterRead, ResultHartid, ResultId, ResultData, ResultRd, ResultWe}
use Rattle.xif_signals.specs.declared.bus.CopOut.{CopOut}
use Rattle.xif_signals.specs.Signal.{width_of}

-- Each field is below 2 to the width of its signal, so it is 0 where the width is 0 (CV-X-IF 1.0.0,
-- "Parameters").
pub record FitsCopOut (p : Params) (o : CopOut) : Type 0 where
  pub issue_writeback : o.issue_writeback < 2 ^ width_of IssueWriteback p
  pub issue_register_read : o.issue_register_read < 2 ^ width_of IssueRegisterRead p
  pub result_hartid : o.result_hartid < 2 ^ width_of ResultHartid p
  pub result_id : o.result_id < 2 ^ width_of ResultId p
  pub result_data : o.result_data < 2 ^ width_of ResultData p
  pub result_rd : o.result_rd < 2 ^ width_of ResultRd p
  pub result_we : o.result_we < 2 ^ width_of ResultWe p
