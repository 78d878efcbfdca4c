use Rattle.std.proofs.Common.{[], take}
use Rattle.vcd_text.specs.Scanner.{read_by, tokens_of}
use Rattle.vcd_text.proofs.SoundReading.{onward-read}
use Rattle.vcd_text.proofs.scanner.Scanner.end_token.Goals as goal

pub returns-clause-onward : goal.returns-clause-onward
returns-clause-onward c =
    onward-read (read_by c.args.self.now []) _ (tokens_of c.args.self.now.size c.deref.result.now (take c.in_ok-token.field-0 [])) (c.in_ok-token.ensures.read [])
