use Rattle.std.proofs.Common.{◌≡◌}
use Rattle.xif_tests.proofs.vcd_writer.the_text_of_a_run.Given as goal

abbrev pub invariant-loop-bus : goal.invariant-loop-bus
invariant-loop-bus g l = record {
  params : l.writer.params ≡ l.initial.writer.params;
  count : l.writer.cycles ≡ l.bus-index;
}
