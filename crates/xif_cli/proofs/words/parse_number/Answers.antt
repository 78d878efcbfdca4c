use Rattle.std.proofs.Common.{arith, refl}
use Rattle.xif_cli.proofs.Numbers.{parsed_is_written, written_is_parsed, written_is_plain}
use Rattle.xif_cli.proofs.words.parse_number.Goals as goal

pub returns-then-has_plain_start-clause-found : goal.returns-then-has_plain_start-clause-found
returns-then-has_plain_start-clause-found c =
    rw c.ok.ensures.value (parsed_is_written c.args.word.now c.parse.result c.parse.ensures.value.0 (c.if-has_plain_start.ensures.0 refl))

pub returns-then-has_plain_start-clause-only : goal.returns-then-has_plain_start-clause-only
returns-then-has_plain_start-clause-only c n small e =
    rw c.ok.ensures.value (written_is_parsed c.args.word.now c.parse.result c.parse.ensures.value.0 n small e)

pub returns-else-has_plain_start-clause-only : goal.returns-else-has_plain_start-clause-only
returns-else-has_plain_start-clause-only c n small e =
    grind (arith, c.if-has_plain_start.ensures.1 (written_is_plain c.args.word.now n small e))
