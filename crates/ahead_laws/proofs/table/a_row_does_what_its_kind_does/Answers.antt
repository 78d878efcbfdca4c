use Rattle.ahead_laws.proofs.Rows.{never-stops, always-stops, straight, no_store, fitting}
use Rattle.ahead_laws.proofs.table.a_row_does_what_its_kind_does.Goals as goal

pub returns : goal.returns
returns c = record { plain = never-stops; stop = always-stops; straight = straight; silent = no_store; inside = fitting }
