use Rattle.std.proofs.Common.{◌≡◌, ◌-◌, take, drop}
use Rattle.std.specs.Prelude.{find}
use Rattle.flight_table.specs.Wanted.{passes}
use Rattle.flight_table.proofs.search.first_among.Given as goal

abbrev pub invariant-loop-index : goal.invariant-loop-index
invariant-loop-index l =
    find (passes l.wanted) (take l.count l.ring.items)
    ≡ find (passes l.wanted) (take (l.count - l.index) (drop l.index l.ring.items))
