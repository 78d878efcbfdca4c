use Rattle.std.proofs.Common.{◌≢◌}
use Rattle.vcd_text.proofs.Fitting.{each_at}
use Rattle.std.specs.Prelude.{option_copied}
use Rattle.xif_signals.specs.declared.signal.Signal.TheVariants.{Clk}
use Rattle.vcd_text.specs.Written.{changed_line}
use Rattle.vcd_text.proofs.Pieces.{wire_step, front_more}
use Rattle.vcd_text.proofs.writer.put_changes.Goals as goal

pub put_changed-requires-clause-signal : goal.put_changed-requires-clause-signal
put_changed-requires-clause-signal c = each_at (λ s. s ≢ Clk) c.args.signals.now c.loop-signal.signal-index Clk c.requires.signals c.loop-signal-test.true

pub loop-signal-preserved : goal.loop-signal-preserved
loop-signal-preserved c = (
  wire_step (changed_line c.args.params.now (option_copied c.args.last) c.args.values.now) c.args.params.now c.args.signals.now c.loop-signal.signal-index Clk
      c.loop-signal.text.items _ _ c.loop-signal-test.true c.in_ok-put_changed.ensures.ok c.loop-signal.invariant.0,
  front_more c.args.text.now.items c.loop-signal.text.items _ _ c.in_ok-put_changed.ensures.ok c.loop-signal.invariant.1,
)
