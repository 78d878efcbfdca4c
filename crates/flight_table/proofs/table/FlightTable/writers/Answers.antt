use Rattle.std.proofs.Common.{◌∙◌, Some, ap, arith}
use Rattle.flight_table.proofs.Kept.{zero_is_none}
use Rattle.flight_table.proofs.table.FlightTable.writers.Goals as goal

pub returns-clause-zero : goal.returns-clause-zero
returns-clause-zero c = c.self.invariant.index 0 (omega arith) ∙ ap (λ w. Some w) (zero_is_none c.self.inside.dual_write c.self.inside.ring.items)
