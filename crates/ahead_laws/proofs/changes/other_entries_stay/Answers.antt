use Rattle.ahead_laws.proofs.EntryChanges.{with_response-other, with_sent-other, with_release-younger, with_result-other, with_line-other, with_stop-other}
use Rattle.ahead_laws.proofs.changes.other_entries_stay.Goals as goal

pub returns : goal.returns
returns c = record {
  answered = with_response-other;
  sent = with_sent-other;
  released = with_release-younger;
  finished = with_result-other;
  executed = with_line-other;
  halted = with_stop-other;
}
