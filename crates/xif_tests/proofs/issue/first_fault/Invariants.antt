use Rattle.std.proofs.Common.{◌≡◌}
use Rattle.issue_channel.specs.Following.{IsReady}
use Rattle.xif_tests.proofs.issue.first_fault.Given as goal

abbrev pub invariant-loop-bus : goal.invariant-loop-bus
invariant-loop-bus l = record {
  count : l.cycle ≡ l.bus-index;
  params : l.uses.params ≡ l.params;
  ready : IsReady l.side l.uses l.cycle;
}
