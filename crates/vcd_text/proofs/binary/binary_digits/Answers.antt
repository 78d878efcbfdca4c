use Rattle.std.proofs.Common.{◌∙◌, Some, sym, ap, arith}
use Rattle.std.proofs.Math.Pow.{pow_mono}
use Rattle.vcd_text.proofs.WrittenBinary.{written-shifted}
use Rattle.vcd_text.proofs.binary.binary_digits.Goals as goal

pub overflow_add-number : goal.overflow_add-number
overflow_add-number c =
    let written = written-shifted c.args.bytes.now c.split_at.result.0.now c.split_at.result.1.now _ c.in_ok-high.high c.in_ok-low.low c.split_at.ensures.front c.split_at.ensures.back c.requires c.in_ok-high.ensures c.in_ok-low.ensures in
    omega (arith, written.below, pow_mono c.requires)

pub binary-requires-clause-below : goal.binary-requires-clause-below
binary-requires-clause-below c =
    let written = written-shifted c.args.bytes.now c.split_at.result.0.now c.split_at.result.1.now _ c.in_ok-high.high c.in_ok-low.low c.split_at.ensures.front c.split_at.ensures.back c.requires c.in_ok-high.ensures c.in_ok-low.ensures in
    written.below

pub returns : goal.returns
returns c =
    let written = written-shifted c.args.bytes.now c.split_at.result.0.now c.split_at.result.1.now _ c.in_ok-high.high c.in_ok-low.low c.split_at.ensures.front c.split_at.ensures.back c.requires c.in_ok-high.ensures c.in_ok-low.ensures in
    written.reads ∙ ap Some (sym c.binary.ensures)
