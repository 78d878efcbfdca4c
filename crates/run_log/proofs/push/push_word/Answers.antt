use Rattle.std.proofs.lemmas.Str.{IsUtf8-from_ascii}
use Rattle.run_log.proofs.push.push_word.Goals as goal

pub from_utf8_unchecked-requires : goal.from_utf8_unchecked-requires
from_utf8_unchecked-requires c = IsUtf8-from_ascii c.hex_figures-figures.result c.hex_figures-figures.ensures.ascii
