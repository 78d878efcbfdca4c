use Rattle.std.proofs.Common.{◌∙◌, sym, arith}
use Rattle.vcd_text.proofs.WrittenBinary.{written-byte}
use Rattle.vcd_text.proofs.binary.number_of_bytes.Goals as goal

pub loop-byte-preserved : goal.loop-byte-preserved
loop-byte-preserved c =
    let i = c.loop-byte in
    written-byte c.args.bytes.now i.byte-index i.number c.from.result (omega arith) (sym c.is_binary.ensures ∙ c.if-not-is_binary.false) c.from.ensures i.invariant
