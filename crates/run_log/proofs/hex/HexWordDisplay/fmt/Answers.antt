use Rattle.std.proofs.Common.{false}
use Rattle.std.specs.Fmt.{digits}
use Rattle.run_log.proofs.Printed.{zero_padded}
use Rattle.run_log.proofs.hex.HexWordDisplay.fmt.Goals as goal

pub returns-clause-writes : goal.returns-clause-writes
returns-clause-writes g c =
    let out = rw c.laid_out.ensures at c.write.ensures.writes in
    let shown = rw c.in_radix.ensures at out in
    rw (zero_padded 8 (digits 16 false c.args.self.now.0)) at shown
