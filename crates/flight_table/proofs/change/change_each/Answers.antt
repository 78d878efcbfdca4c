use Rattle.std.proofs.Common.{◌<◌, length, sym, arith}
use Rattle.flight_table.specs.Change.{changed}
use Rattle.flight_table.proofs.Scans.{changed_more}
use Rattle.flight_table.proofs.change.change_each.Goals as goal

pub loop-index-preserved : goal.loop-index-preserved
loop-index-preserved c =
    let within : c.loop-index.index < length c.args.ring.now.items = omega (arith, c.loop-index-test.true, c.len-index-end.ensures.len) in
    changed_more (changed c.args.change c.args.seq) c.args.ring.now c.loop-index.ring c.loop-index.index c.in-Some.entry.now c.change_entry.new.entry within
    c.loop-index.invariant (sym c.in-Some.ensures.value) c.change_entry.ensures
