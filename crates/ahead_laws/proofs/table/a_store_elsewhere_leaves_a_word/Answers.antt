use Rattle.ahead_laws.proofs.Fetches.{word-stays}
use Rattle.ahead_laws.proofs.table.a_store_elsewhere_leaves_a_word.Goals as goal

pub returns : goal.returns
returns c = λ m store e fits missed. word-stays m store e.pc fits.0 fits.1 missed
