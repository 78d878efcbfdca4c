use Rattle.std.proofs.Common.{◌≤◌, length, sym, ap, ◌∙◌, arith, w8, nat_le, not}
use lib.Count.{count_trailing_zeros}
use lib.Lanes.{chunk}
use Rattle.std.specs.List.{prefix_len}
use Rattle.std.proofs.lemmas.List.Sums.{prefix_len-le-length}
use Rattle.std.proofs.lemmas.Simd.{length-chunk, bitmask_splat, leading_from_mask_l, trailing_mask_l}
use Rattle.vcd_text.proofs.Ink.{ink_before}
use Rattle.vcd_text.proofs.span.turn_len.Goals as goal

pub returns-then-low-eq0-clause-ink : goal.returns-then-low-eq0-clause-ink
returns-then-low-eq0-clause-ink c =
    let bytes = c.args.bytes.now in
    let v = chunk 0 16 bytes in
    let long = length-chunk 0 16 bytes (omega arith) in
    let low = bitmask_splat w8 nat_le v 16 32 long (omega arith) in
    let all = leading_from_mask_l (λ b. nat_le b 32) v (sym low ∙ c.if-low-eq0.true) ∙ long in
    ink_before bytes 16 16 c.requires (sym all)

pub returns-else-low-eq0-clause-within : goal.returns-else-low-eq0-clause-within
returns-else-low-eq0-clause-within c =
    let bytes = c.args.bytes.now in
    let v = chunk 0 16 bytes in
    let long = length-chunk 0 16 bytes (omega arith) in
    let low = bitmask_splat w8 nat_le v 16 32 long (omega arith) in
    let first = ap (count_trailing_zeros 64) low ∙ trailing_mask_l (λ b. nat_le b 32) 64 v (omega arith) (omega arith) in
    let inside : prefix_len (λ b. not (nat_le b 32)) v ≤ length v = prefix_len-le-length (λ b. not (nat_le b 32)) v in
    rw first (omega (arith, inside, long))

pub returns-else-low-eq0-clause-ink : goal.returns-else-low-eq0-clause-ink
returns-else-low-eq0-clause-ink c =
    let bytes = c.args.bytes.now in
    let v = chunk 0 16 bytes in
    let long = length-chunk 0 16 bytes (omega arith) in
    let low = bitmask_splat w8 nat_le v 16 32 long (omega arith) in
    let first = ap (count_trailing_zeros 64) low ∙ trailing_mask_l (λ b. nat_le b 32) 64 v (omega arith) (omega arith) in
    ink_before bytes 16 (count_trailing_zeros 64 _) c.requires first
