use Rattle.std.proofs.Common.{ℕ, ap, ◌∙◌, get_or, Vec, Global}
use Rattle.vcd_text.proofs.Pieces.{wire_step, some_line, no_line}
use Rattle.vcd_text.proofs.writer.put_variables.Goals as goal
use Rattle.vcd_text.proofs.writer.put_variables.Goals.{then-width-gt0+in_ok-put_variable, else-width-gt0}
use Rattle.xif_signals.specs.declared.signal.Signal.TheVariants.{Clk}
use Rattle.vcd_text.specs.Written.{var_line}
use Rattle.xif_signals.specs.Signal.{width_of}

pub loop-signal-preserved : goal.loop-signal-preserved
loop-signal-preserved c =
    let s = get_or c.args.signals.now c.loop-signal.signal-index Clk in
    wire_step (var_line c.args.params.now) c.args.params.now c.args.signals.now c.loop-signal.signal-index Clk
    c.loop-signal.text.items _ _ c.loop-signal-test.true (elim c.if-width-gt0.branch [
      | then-width-gt0+in_ok-put_variable w ↦ some_line _ _ (var_line c.args.params.now s) (width_of s c.args.params.now) _ w.if-width-gt0.true c.width.ensures (ap (λ (v : Vec ℕ Global). v.items) w.text-is ∙ w.in_ok-put_variable.ensures)
      | else-width-gt0 w ↦ no_line _ _ (var_line c.args.params.now s) (width_of s c.args.params.now) _ w.if-width-gt0.false c.width.ensures (ap (λ (v : Vec ℕ Global). v.items) w.text-is)
    ]) c.loop-signal.invariant
