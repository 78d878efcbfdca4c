use Rattle.std.proofs.Common.{◌≡◌, Some, rules}
use Rattle.std.specs.Prelude.{slice_get}
use Rattle.flight_table.proofs.Scans.{drop_at, take_at}
use Rattle.flight_table.proofs.search.entry_at.Goals as goal

pub returns-clause-rest : goal.returns-clause-rest
returns-clause-rest c =
    let found : slice_get c.args.ring.now.items c.args.index ≡ Some c.in-Some.entry.now = search rules in
    drop_at c.args.ring.now.items c.args.index c.in-Some.entry.now found

pub returns-clause-older : goal.returns-clause-older
returns-clause-older c =
    let found : slice_get c.args.ring.now.items c.args.index ≡ Some c.in-Some.entry.now = search rules in
    take_at c.args.ring.now.items c.args.index c.in-Some.entry.now found
