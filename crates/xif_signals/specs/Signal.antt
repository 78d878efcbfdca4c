-- The table of the signals of the interface (CV-X-IF 1.0.0, "Issue interface", "Register
-- interface", "Commit interface", "Result interface"), with the clock and the reset. Their widths
-- follow the parameters ("Parameters").
use Rattle.std.specs.Prelude.{◌==◌, ◌+◌, ℕ, if◌then◌else◌, List, [], ◌∷◌, codes}
use Rattle.xif_base.specs.declared.params.Params.{Params}
use Rattle.xif_signals.specs.declared.signal.Signal.{Signal}
use Rattle.xif_signals.specs.declared.signal.Signal.TheVariants.{Clk, RstN, IssueValid, IssueReady, IssueHartid, IssueId, IssueInstr, IssueAccept, IssueWriteback, IssueRegisterRead, RegisterValid, RegisterReady, RegisterHartid, RegisterId, RegisterRs0, RegisterRs1, RegisterRs2, RegisterRsValid, CommitValid, CommitHartid, CommitId, CommitKill, ResultValid, ResultReady, ResultHartid, ResultId, ResultData, ResultRd, ResultWe}

-- A line of the table.
pub record SignalLine : Type 0 where
  -- its place in the table
  pub number : ℕ
  -- the identifier code of its variable in a waveform (IEEE 1364-2005, 18.2.1), one character
  pub code : List ℕ
  -- in lower case
  pub name : List ℕ
  -- in bits, 0 where the parameters leave it out
  pub width : Params → ℕ

abbrev pub with : ℕ → List ℕ → List ℕ → (Params → ℕ) → SignalLine
with number code name width = record { number = number; code = code; name = name; width = width }

-- the line of each signal
abbrev pub signal_line : Signal → SignalLine
signal_line Clk = with 0 (codes "!") (codes "clk") (λ p. 1)
signal_line RstN = with 1 (0x22 ∷ []) (codes "rst_n") (λ p. 1)
signal_line IssueValid = with 2 (codes "#") (codes "issue_valid") (λ p. 1)
signal_line IssueReady = with 3 (codes "$") (codes "issue_ready") (λ p. 1)
signal_line IssueHartid = with 4 (codes "%") (codes "issue_hartid") (λ p. p.hartid_width)
signal_line IssueId = with 5 (codes "&") (codes "issue_id") (λ p. p.id_width)
signal_line IssueInstr = with 6 (codes "'") (codes "issue_instr") (λ p. 32)
signal_line IssueAccept = with 7 (codes "(") (codes "issue_accept") (λ p. 1)
signal_line IssueWriteback = with 8 (codes ")") (codes "issue_writeback")
    (λ p. 1 + (if p.dual_write then 1 else 0))
signal_line IssueRegisterRead = with 9 (codes "*") (codes "issue_register_read")
    (λ p. p.num_rs + p.dual_read)
signal_line RegisterValid = with 10 (codes "+") (codes "register_valid") (λ p. 1)
signal_line RegisterReady = with 11 (codes ",") (codes "register_ready") (λ p. 1)
signal_line RegisterHartid = with 12 (codes "-") (codes "register_hartid") (λ p. p.hartid_width)
signal_line RegisterId = with 13 (codes ".") (codes "register_id") (λ p. p.id_width)
signal_line RegisterRs0 = with 14 (codes "/") (codes "register_rs0") (λ p. p.rfr_width)
signal_line RegisterRs1 = with 15 (codes "0") (codes "register_rs1") (λ p. p.rfr_width)
signal_line RegisterRs2 = with 16 (codes "1") (codes "register_rs2")
    (λ p. if p.num_rs == 3 then p.rfr_width else 0)
signal_line RegisterRsValid = with 17 (codes "2") (codes "register_rs_valid")
    (λ p. p.num_rs + p.dual_read)
signal_line CommitValid = with 18 (codes "3") (codes "commit_valid") (λ p. 1)
signal_line CommitHartid = with 19 (codes "4") (codes "commit_hartid") (λ p. p.hartid_width)
signal_line CommitId = with 20 (codes "5") (codes "commit_id") (λ p. p.id_width)
signal_line CommitKill = with 21 (codes "6") (codes "commit_kill") (λ p. 1)
signal_line ResultValid = with 22 (codes "7") (codes "result_valid") (λ p. 1)
signal_line ResultReady = with 23 (codes "8") (codes "result_ready") (λ p. 1)
signal_line ResultHartid = with 24 (codes "9") (codes "result_hartid") (λ p. p.hartid_width)
signal_line ResultId = with 25 (codes ":") (codes "result_id") (λ p. p.id_width)
signal_line ResultData = with 26 (codes ";") (codes "result_data") (λ p. p.rfw_width)
signal_line ResultRd = with 27 (codes "<") (codes "result_rd") (λ p. 5)
signal_line ResultWe = with 28 (codes "=") (codes "result_we")
    (λ p. 1 + (if p.dual_write then 1 else 0))

-- the signals, in the order of the table
abbrev pub signals : List Signal
signals =
    Clk ∷ RstN ∷ IssueValid ∷ IssueReady ∷ IssueHartid ∷ IssueId ∷
    IssueInstr ∷ IssueAccept ∷ IssueWriteback ∷ IssueRegisterRead ∷ RegisterValid ∷ RegisterReady ∷
    RegisterHartid ∷ RegisterId ∷ RegisterRs0 ∷ RegisterRs1 ∷ RegisterRs2 ∷ RegisterRsValid ∷
    CommitValid ∷ CommitHartid ∷ CommitId ∷ CommitKill ∷ ResultValid ∷ ResultReady ∷
    ResultHartid ∷ ResultId ∷ ResultData ∷ ResultRd ∷ ResultWe ∷ []

abbrev pub signal_number : Signal → ℕ
signal_number s = (signal_line s).number

abbrev pub code_of : Signal → List ℕ
code_of s = (signal_line s).code

abbrev pub name_of : Signal → List ℕ
name_of s = (signal_line s).name

abbrev pub width_of : Signal → Params → ℕ
width_of s p = (signal_line s).width p
