use Rattle.rv32_table.proofs.Listed.{listed}
use Rattle.rv32_table.proofs.laws.every_row_is_listed.Goals as goal

pub returns : goal.returns
returns c = listed
