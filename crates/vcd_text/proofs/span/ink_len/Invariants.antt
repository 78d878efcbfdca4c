use Rattle.std.proofs.Common.{◌≡◌, true, take}
use Rattle.std.specs.List.{list_all}
use Rattle.vcd_text.specs.Words.{is_ink}
use Rattle.vcd_text.proofs.span.ink_len.Given as goal

abbrev pub invariant-loop-i : goal.invariant-loop-i
invariant-loop-i l = list_all is_ink (take l.i l.bytes) ≡ true
