-- The changes of an entry, as one definition: the code has one loop for all of them.
use Rattle.std.specs.Prelude.{ℕ, Bool, true, false}
use Rattle.cycle_spec.specs.declared.entry.Entry.{Entry}
use Rattle.cycle_spec.specs.Flight.{with_response, with_sent, with_release, with_result, with_line, with_stop}
use Rattle.flight_table.specs.Table.{line_with}
use Rattle.flight_table.specs.declared.change.Change.{Change}
use Rattle.flight_table.specs.declared.change.Change.TheVariants.{Response, Sent, Release, Result, Done, Stop}

abbrev pub changed : Change → (seq : ℕ) → Entry → Entry
changed (Response response) seq = with_response seq response
changed Sent seq = with_sent seq
changed Release seq = with_release seq
changed (Result write) seq = with_result seq write
changed (Done write store next) seq = with_line seq (line_with write store next)
changed (Stop cause) seq = with_stop seq cause

-- it is for older entries too
abbrev pub is_release : Change → Bool
is_release Release = true
is_release _ = false

-- it leaves what the entries may write
abbrev pub keeps_response : Change → Bool
keeps_response (Response response) = false
keeps_response _ = true
