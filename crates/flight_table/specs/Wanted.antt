-- What an entry is looked for by.
use Rattle.std.specs.Prelude.{Bool}
use Rattle.cycle_spec.specs.declared.entry.Entry.{Entry}
use Rattle.cycle_spec.specs.Flight.{is_open, is_waiting, is_pending, has_seq}
use Rattle.flight_table.specs.declared.entry.Wanted.{Wanted}
use Rattle.flight_table.specs.declared.entry.Wanted.TheVariants.{Open, Waiting, Pending, Number}

abbrev pub passes : Wanted → Entry → Bool
passes Open = is_open
passes Waiting = is_waiting
passes Pending = is_pending
passes (Number seq) = has_seq seq
