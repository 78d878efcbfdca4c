use Rattle.ahead_laws.proofs.EntryChanges.{with_response-here, with_sent-here, with_release-older, with_result-here, with_line-here, with_stop-here}
use Rattle.ahead_laws.proofs.changes.the_named_entry_changes.Goals as goal

pub returns : goal.returns
returns c = record {
  answered = with_response-here;
  sent = with_sent-here;
  released = with_release-older;
  finished = with_result-here;
  executed = with_line-here;
  halted = with_stop-here;
}
