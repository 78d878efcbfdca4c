-- Every call of `gen` has an answer, which prints the sum.
use Rattle.std.proofs.Common.{◌≡◌, ℕ, List, Ok, refl}
use Rattle.std.specs.Prelude.{String}
use Rattle.std.specs.declared.alloc.Global.{Global}
use Rattle.xif_cli.specs.declared.answer.End.TheVariants.{Done}
use Rattle.xif_cli.specs.Ending.{texts_of, Means}
use Rattle.xif_cli.specs.Outcome.{Lookup, Answer, prints}
use Rattle.xif_cli.specs.Sum.{PrintsTheSum}
use Rattle.xif_cli.specs.Summary.{generated_summary}
use Rattle.xif_cli.specs.Words.{IsCommand}
use Rattle.xif_cli.specs.Words as form
use Rattle.xif_cli.proofs.Summing.{prints-the-sum}

pub generated : (words : List (String Global)) (find : Lookup) (seed count : ℕ) → IsCommand (texts_of words) (form.Gen seed count) → (answer : Answer) × (Means words find (Ok answer) × PrintsTheSum seed count answer)
generated words find seed count is =
    let answer : Answer = prints Done (generated_summary seed count) in
    (answer, ((form.Gen seed count, (is, refl)), prints-the-sum seed count find answer is.in_range refl))
