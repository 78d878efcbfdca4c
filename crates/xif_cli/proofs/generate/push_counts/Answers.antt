use Rattle.std.proofs.Common.{◌++◌, ◌∙◌, ap}
use Rattle.std.specs.Fmt.{decimal}
use Rattle.std.specs.String.{string_bytes}
use Rattle.std.proofs.lemmas.Result.{on_ok_weaker}
use Rattle.xif_cli.proofs.Printed.{in_a_row}
use Rattle.xif_cli.proofs.generate.push_counts.Goals as goal
use lib.Chars.{codes}

pub returns : goal.returns
returns c = on_ok_weaker c.write.result (λ e. e
    ∙ ap (λ xs. string_bytes c.args.text.now ++ (codes "gen retired=" ++ xs))
    (in_a_row (decimal c.args.counts.retired) (codes " cuts=") (decimal c.args.counts.cuts) (codes " cycles=") (decimal c.args.counts.cycles))) c.write.ensures.bytes
