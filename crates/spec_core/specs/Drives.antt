-- What a core drives fits its signals.
use Rattle.std.specs.Prelude.{◌≡◌, ◌<◌, ◌^◌, IfSome, slice_index}
use Rattle.std.specs.Option.{option_or}
use Rattle.xif_base.specs.declared.params.Params.{Params}
use Rattle.xif_signals.specs.declared.signal.Signal.TheVariants.{IssueHartid, IssueId, IssueInstr, RegisterHartid, RegisterId, RegisterRs0, RegisterRs1, RegisterRs2, RegisterRsValid, CommitHartid, CommitId}
use Rattle.xif_signals.specs.declared.bus.CpuOut.{CpuOut}
use Rattle.xif_signals.specs.Signal.{width_of}
use Rattle.cycle_spec.specs.declared.choices.Choices.{Choices}
use Rattle.cycle_spec.specs.declared.choices.Presented.{Presented}
use Rattle.cycle_spec.specs.declared.entry.Entry.{Entry}
use Rattle.cycle_spec.specs.State.{Core}
use Rattle.cycle_spec.specs.Choices.{choices}

-- Each field is below 2 to the width of its signal, so it is 0 where the width is 0 (CV-X-IF 1.0.0,
-- "Parameters").
pub record FitsCpuOut (p : Params) (o : CpuOut) : Type 0 where
  pub issue_hartid : o.issue_hartid < 2 ^ width_of IssueHartid p
  pub issue_id : o.issue_id < 2 ^ width_of IssueId p
  pub issue_instr : o.issue_instr < 2 ^ width_of IssueInstr p
  pub register_hartid : o.register_hartid < 2 ^ width_of RegisterHartid p
  pub register_id : o.register_id < 2 ^ width_of RegisterId p
  pub register_rs0 : o.register_rs0 < 2 ^ width_of RegisterRs0 p
  pub register_rs1 : o.register_rs1 < 2 ^ width_of RegisterRs1 p
  pub register_rs2 : o.register_rs2 < 2 ^ width_of RegisterRs2 p
  pub register_rs_valid : o.register_rs_valid < 2 ^ width_of RegisterRsValid p
  pub commit_hartid : o.commit_hartid < 2 ^ width_of CommitHartid p
  pub commit_id : o.commit_id < 2 ^ width_of CommitId p

-- ---- internal

-- what the register channel carries fits its signals
pub record FitsPresented (p : Params) (x : Presented) : Type 0 where
  pub rs0 : slice_index x.lanes 0 < 2 ^ width_of RegisterRs0 p
  pub rs1 : slice_index x.lanes 1 < 2 ^ width_of RegisterRs1 p
  pub rs2 : slice_index x.lanes 2 < 2 ^ width_of RegisterRs2 p
  pub rs_valid : x.rs_valid < 2 ^ width_of RegisterRsValid p

abbrev pub FitsPresent : Params → Choices → Type 0
FitsPresent p ch = IfSome ch.present (FitsPresented p)

abbrev pub HasId : Params → Entry → Type 0
HasId p e = e.id < 2 ^ p.id_width

-- it holds of the entries that the channels name
pub record AreNamed (P : Entry → Type 0) (ch : Choices) : Type 0 where
  pub offer : IfSome ch.offer P
  pub present : IfSome ch.present (λ x. P x.entry)
  pub commit : IfSome (option_or ch.kill ch.release) P

-- the core does this in a cycle, and what it drives fits its signals
pub record AreChosen (w : Core) (ch : Choices) : Type 0 where
  pub same : ch ≡ choices w
  pub fits : FitsPresent w.params ch
  pub ids : AreNamed (HasId w.params) ch
