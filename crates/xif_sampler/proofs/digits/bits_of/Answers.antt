use Rattle.std.proofs.Common.{◌/◌, ◌^◌, ap, ◌∙◌, arith}
use Rattle.std.specs.Prelude.{bit_and}
use Rattle.std.proofs.lemmas.Nat.{and_mask}
use Rattle.xif_sampler.proofs.Numbers.{past_number}
use Rattle.xif_sampler.proofs.digits.bits_of.Goals as goal

pub returns-then-low-ge64 : goal.returns-then-low-ge64
returns-then-low-ge64 c = past_number c.args.number c.args.low c.args.width (omega arith) (omega arith)

pub returns : goal.returns
returns c =
    ap (λ m. bit_and (c.args.number / 2 ^ c.args.low) m) c.ones_below.ensures ∙ and_mask (c.args.number / 2 ^ c.args.low) c.args.width
