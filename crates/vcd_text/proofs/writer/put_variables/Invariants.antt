use Rattle.std.proofs.Common.{◌≡◌, ◌++◌, drop}
use Rattle.std.specs.List.{flat_map}
use Rattle.vcd_text.specs.Written.{var_line, wires}
use Rattle.vcd_text.proofs.writer.put_variables.Given as goal

abbrev pub invariant-loop-signal : goal.invariant-loop-signal
invariant-loop-signal l =
    l.text.items ++ flat_map (var_line l.params) (wires l.params (drop l.signal-index l.signals))
    ≡ l.fn.text.items ++ flat_map (var_line l.params) (wires l.params l.signals)
