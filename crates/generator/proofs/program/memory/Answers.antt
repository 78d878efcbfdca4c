use Rattle.std.proofs.Common.{◌≡◌, ap, ◌∙◌}
use Rattle.std.proofs.lemmas.Result.{IfOk-weaker}
use Rattle.generator.proofs.Padded.{region-is}
use Rattle.generator.proofs.program.memory.Goals as goal

pub returns : goal.returns
returns c = IfOk-weaker c.memory_of.result _ _ (λ m is. is ∙ region-is c.args.seed c.args.count c.deref.result.now (c.deref.ensures.value ∙ c.in_ok-memory_bytes.ensures)) c.memory_of.ensures
