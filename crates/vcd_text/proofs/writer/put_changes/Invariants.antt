use Rattle.std.proofs.Common.{◌≡◌, ◌++◌, take, drop, length}
use Rattle.std.specs.Prelude.{option_copied}
use Rattle.std.specs.List.{flat_map}
use Rattle.vcd_text.specs.Written.{changed_line, wires}
use Rattle.vcd_text.proofs.writer.put_changes.Given as goal

abbrev pub invariant-loop-signal : goal.invariant-loop-signal
invariant-loop-signal l =
    (l.text.items ++ flat_map (changed_line l.params (option_copied l.last) l.values) (wires l.params (drop l.signal-index l.signals))
    ≡ l.fn.text.items ++ flat_map (changed_line l.params (option_copied l.last) l.values) (wires l.params l.signals))
    × (take (length l.fn.text.items) l.text.items ≡ l.fn.text.items)
