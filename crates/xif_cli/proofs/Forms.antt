-- The forms of the command line are told apart by their words.
use Rattle.std.proofs.Common.{ℕ, List, ◌≡◌, arith}
use Rattle.std.proofs.lemmas.Bool.Decides.{nat_tests}
use Rattle.std.proofs.lemmas.Fmt.{decimal_injective}
use Rattle.xif_cli.specs.Words.{Form, IsCommand}

-- two forms of the same words are one
pub one_form : (words : List (List ℕ)) (form other : Form) → IsCommand words form → IsCommand words other → form ≡ other
one_form words form other is also = grind (arith, nat_tests, decimal_injective)
