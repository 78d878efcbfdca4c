use Rattle.std.proofs.Common.{refl}
use Rattle.flight_table.proofs.OlderOnes.{none_waits}
use Rattle.flight_table.proofs.older.Older.none.Goals as goal

pub returns : goal.returns
returns c = λ dual_write registers. record { waits = none_waits dual_write registers; store = refl; pending = refl }
