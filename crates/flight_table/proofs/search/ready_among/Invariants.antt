use Rattle.std.proofs.Common.{◌≡◌, ◌-◌, take, drop, []}
use Rattle.cycle_spec.specs.Flight as flight
use Rattle.flight_table.specs.Older.{IsOlder}
use Rattle.flight_table.proofs.search.ready_among.Given as goal

abbrev pub invariant-loop-index : goal.invariant-loop-index
invariant-loop-index l = record {
  rest : flight.ready_behind l.dual_write l.file [] (take l.count l.ring.items)
      ≡ flight.ready_behind l.dual_write l.file (take l.index l.ring.items) (take (l.count - l.index) (drop l.index l.ring.items));
  older : IsOlder l.dual_write l.file (take l.index l.ring.items) l.older;
}
