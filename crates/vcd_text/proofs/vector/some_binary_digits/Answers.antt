use Rattle.std.proofs.Common.{◌<◌, length, arith}
use Rattle.std.proofs.lemmas.Bool.Decides.{nat_tests}
use Rattle.std.proofs.lemmas.Option.{IfSome_then}
use Rattle.vcd_text.proofs.Ahead.{some-digits}
use Rattle.vcd_text.proofs.vector.some_binary_digits.Goals as goal

pub returns : goal.returns
returns c =
    let some : 0 < length c.args.bytes.now = grind (arith, nat_tests) in
    IfSome_then c.binary_digits.result c.binary_digits.ensures (λ found e. (e, some-digits c.args.bytes.now found some e))
