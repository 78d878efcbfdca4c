-- The reports of runs, by how the runs end.
use Rattle.std.proofs.Common.{◌≡◌, ◌<◌, ℕ, Option, Some, None, sym, ap, ◌∙◌}
use Rattle.inorder_machine.specs.After.{after, state_if_retired, stop_of, retired_within, last_within}
use Rattle.inorder_machine.specs.Machine.{Extension, State, next_step}
use Rattle.inorder_machine.specs.declared.line.Stepped.TheVariants.{Stop}
use Rattle.inorder_machine.specs.declared.stop.StopCause.{StopCause}
use Rattle.inorder_machine.proofs.Retirements.{Ends, ends-full, ends-early}
use Rattle.xif_cli.specs.InOrder.{run_report}
use Rattle.xif_cli.specs.Report.{report_of}

-- the report of a run that ends so
report-ends : (x : Extension) → (budget n : ℕ) (s t : State) (stop : Option StopCause) → Ends x budget n s t stop → run_report x s budget ≡ report_of stop n t s.memory.bytes
unfolding run_report
report-ends x budget n s t stop e =
    ap (λ how. report_of how (retired_within x budget s) (last_within x budget s) s.memory.bytes) (sym e.stop_is)
    ∙ ap (λ k. report_of stop k (last_within x budget s) s.memory.bytes) (sym e.retired)
    ∙ ap (λ u. report_of stop n u s.memory.bytes) (sym e.last)

-- by its budget
pub report-full : (x : Extension) → (budget : ℕ) (s t : State) → after x budget s ≡ Some t → run_report x s budget ≡ report_of None budget t s.memory.bytes
report-full x budget s t e = report-ends x budget budget s t None (ends-full x budget s t e)

-- by an instruction that stops
pub report-stopped : (x : Extension) → (budget n : ℕ) (s t : State) (cause : StopCause) → n < budget → after x n s ≡ Some t → next_step x t ≡ Stop cause → run_report x s budget ≡ report_of (Some cause) n t s.memory.bytes
report-stopped x budget n s t cause h e stop =
    report-ends x budget n s t (stop_of (next_step x t)) (ends-early x budget n s t e (ap (state_if_retired x t) stop) h)
    ∙ ap (λ how. report_of how n t s.memory.bytes) (ap stop_of stop)
