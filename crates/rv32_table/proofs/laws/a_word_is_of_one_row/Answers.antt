use Rattle.rv32_table.proofs.Distinct.{only, found}
use Rattle.rv32_table.proofs.laws.a_word_is_of_one_row.Goals as goal

pub returns : goal.returns
returns c = record { only = only; found = found }
