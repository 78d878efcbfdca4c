use Rattle.std.proofs.Common.{◌≡◌, ◌∙◌, ◌↔◌, arith, bit_and, IsSome}
use Rattle.std.proofs.lemmas.Nat.{and_mask}
use Rattle.bitflags.proofs.OnLiterals.{bitflags_on_literals}
use Rattle.xif_base.proofs.flags.ReadFlags.from_bits.Goals as goal

-- the known bits are the low ones, so that a number of other bits isn't below their end
pub returns-clause-some : goal.returns-clause-some
unfolding bitflags_on_literals
returns-clause-some c =
    let known : IsSome c.from_bits.result ↔ (bit_and c.args.bits 63 ≡ c.args.bits) = c.from_bits.ensures.known tt in (
      λ some. omega (arith, and_mask c.args.bits 6, known.0 some),
      λ low. known.1 (and_mask c.args.bits 6 ∙ omega arith),
    )
